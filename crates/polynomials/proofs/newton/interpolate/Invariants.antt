use Rattle.polynomials.proofs.Steps.{Begun}
use Rattle.polynomials.proofs.newton.interpolate.Given as goal

abbrev pub invariant-loop-i : goal.invariant-loop-i
invariant-loop-i g l = Begun (g.F.Field.model l.field) l.points l.initial.values l.values l.i
