use Rattle.releases.proofs.Making.{chosen_fits}
use Rattle.releases.proofs.chosen_transcripts_fit.Goals as goal

pub returns : goal.returns
returns c = chosen_fits
