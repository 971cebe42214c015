use Rattle.std.proofs.Common.{arith}
use Rattle.std.proofs.lemmas.Result.{err_from_is_err_and}
use Rattle.releases.proofs.Checking.{all_passed}
use Rattle.settings.specs.Rules.{rule_in}
use Rattle.transcripts.specs.Transcripts.{transcript_in}
use Rattle.checking.proofs.Fitting.{commitments_told, responses_told}
use Rattle.checking.proofs.words.check_words.Goals as goal

pub returns-in_err-check_commitments : goal.returns-in_err-check_commitments
returns-in_err-check_commitments g c =
    let m = g.S.LeafKinds.meaning c.args.set.now in
    let t = transcript_in c.args.transcript.now in
    let scalars = (all_passed c.in_ok-check_challenges.ensures).0 in
    let p = err_from_is_err_and c.from_residual-in_err-check_commitments.result c.from_residual-in_err-check_commitments.ensures.1 in
    rw (p.1, p.2) (commitments_told m (rule_in c.args.rule.now) t c.requires.challenges (λ i l. scalars i (omega (arith, c.requires.challenges))) _ c.in_err-check_commitments.ensures)

pub returns : goal.returns
returns g c =
    let m = g.S.LeafKinds.meaning c.args.set.now in
    let t = transcript_in c.args.transcript.now in
    let scalars = (all_passed c.in_ok-check_challenges.ensures).0 in
    let images = (all_passed c.in_ok-check_commitments.ensures).0 in
    responses_told m (rule_in c.args.rule.now) t c.requires.challenges (λ i l. scalars i (omega (arith, c.requires.challenges))) images _ c.check_responses.ensures
