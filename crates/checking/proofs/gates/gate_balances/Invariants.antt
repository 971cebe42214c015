use Rattle.std.proofs.Common.{◌≡◌, map, get_or, take}
use Rattle.bounded.specs.Rows.{items}
use Rattle.fields.specs.Scalars.{scalar}
use Rattle.rules.specs.Views.{children_of}
use Rattle.checking.proofs.gates.gate_balances.Given as goal

abbrev pub invariant-loop-position : goal.invariant-loop-position
invariant-loop-position l = items l.row ≡ map (λ p. get_or l.challenges p (scalar 0)) (take l.position-index (children_of l.children))
