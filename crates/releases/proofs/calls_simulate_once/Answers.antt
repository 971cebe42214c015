use Rattle.releases.proofs.Once.{simulated_once}
use Rattle.releases.proofs.calls_simulate_once.Goals as goal

pub returns : goal.returns
returns c = simulated_once
