use Rattle.fields.specs.Scalars.{scalars_model}
use Rattle.polynomials.specs.Polynomials.{Members}
use Rattle.splits_tests.proofs.gates.changes_refused.Given as goal

abbrev pub invariant-loop-j : goal.invariant-loop-j
invariant-loop-j l = Members (scalars_model l.field.q) l.children
