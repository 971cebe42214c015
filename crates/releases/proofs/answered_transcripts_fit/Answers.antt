use Rattle.releases.proofs.Making.{answered_fits}
use Rattle.releases.proofs.answered_transcripts_fit.Goals as goal

pub returns : goal.returns
returns c = answered_fits
