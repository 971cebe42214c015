use Rattle.releases.proofs.Satisfy.{satisfied_only}
use Rattle.releases.proofs.satisfied_by_children_alone.Goals as goal

pub returns : goal.returns
returns c = satisfied_only
