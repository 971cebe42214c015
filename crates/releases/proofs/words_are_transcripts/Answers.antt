use Rattle.releases.proofs.Spelling.{words}
use Rattle.releases.proofs.words_are_transcripts.Goals as goal

pub returns : goal.returns
returns c = words
