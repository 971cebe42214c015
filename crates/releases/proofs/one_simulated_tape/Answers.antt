use Rattle.releases.proofs.Making.{one_simulated_tape}
use Rattle.releases.proofs.one_simulated_tape.Goals as goal

pub returns : goal.returns
returns c = one_simulated_tape
