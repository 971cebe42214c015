use Rattle.releases.proofs.Making.{one_honest_tape}
use Rattle.releases.proofs.one_honest_tape.Goals as goal

pub returns : goal.returns
returns c = one_honest_tape
