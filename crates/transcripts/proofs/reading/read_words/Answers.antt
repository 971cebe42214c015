use Rattle.std.proofs.Common.{◌+◌, ◌*◌, length, ap, ◌∙◌, arith}
use Rattle.std.proofs.lemmas.Grind.{common_steps}
use Rattle.std.proofs.lemmas.Slice.{between_to_end}
use Rattle.releases.specs.Transcripts.{keys_in}
use Rattle.transcripts.proofs.Spelled.{scalars_read, images_read, pairs_read}
use Rattle.transcripts.proofs.reading.read_words.Goals as goal

pub returns-clause-challenges : goal.returns-clause-challenges
returns-clause-challenges c = grind (arith, common_steps, scalars_read)

pub returns-clause-commitments : goal.returns-clause-commitments
returns-clause-commitments c = grind (arith, common_steps, between_to_end, images_read)

pub returns-clause-responses : goal.returns-clause-responses
returns-clause-responses c =
    let k = length c.args.responses.now in
    let at = length c.args.challenges.now + 4 * length c.args.commitments.now in
    c.read-3.ensures ∙ pairs_read k _ ∙ ap (keys_in k) (between_to_end c.args.words.now at (length c.args.words.now) (omega arith))
