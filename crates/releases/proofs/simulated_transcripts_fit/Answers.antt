use Rattle.releases.proofs.Making.{simulated_fits}
use Rattle.releases.proofs.simulated_transcripts_fit.Goals as goal

pub returns : goal.returns
returns c = simulated_fits
