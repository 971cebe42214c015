use Rattle.std.proofs.Common.{◌≡◌, List, ◌++◌}
use Rattle.std.specs.Slice.Iter.{iter_rest}
use Rattle.std.specs.Iterator.Adapters.{rev_source}
use Rattle.polynomials.specs.Polynomials.{weight}
use Rattle.polynomials.proofs.newton.weight.Given as goal

abbrev pub invariant-loop-node : goal.invariant-loop-node
invariant-loop-node g l =
    (done : List g.row.F-Element.Denot) × (l.nodes ≡ iter_rest (rev_source l.node-iterator) ++ done) × (l.product ≡ weight (g.F.Field.model l.field) done l.x)
