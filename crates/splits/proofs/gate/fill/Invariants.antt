use Rattle.polynomials.specs.Polynomials.{newton}
use Rattle.splits.proofs.Picked.{Filled}
use Rattle.splits.proofs.gate.fill.Given as goal

abbrev pub invariant-loop-j : goal.invariant-loop-j
invariant-loop-j g l =
    let m = g.F.Field.model l.field in
    Filled m l.known l.initial.children l.points (newton m l.nodes l.coefficients) l.children l.j
