use Rattle.releases.proofs.Forking.{forks_satisfy}
use Rattle.releases.proofs.forks_satisfy.Goals as goal

pub returns : goal.returns
returns c = forks_satisfy
