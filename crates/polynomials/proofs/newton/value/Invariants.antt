use Rattle.std.proofs.Common.{◌≡◌, List, ◌++◌, length}
use Rattle.std.specs.Slice.Iter.{iter_rest}
use Rattle.std.specs.Iterator.Adapters.{rev_source, zip_first, zip_second}
use Rattle.polynomials.specs.Polynomials.{newton}
use Rattle.polynomials.proofs.newton.value.Given as goal

abbrev pub invariant-loop-node : goal.invariant-loop-node
invariant-loop-node g l =
    let nodes = iter_rest (rev_source (zip_first l.node-iterator)) in
    let coefficients = iter_rest (rev_source (zip_second l.node-iterator)) in
    (ns : List g.row.F-Element.Denot) × (cs : List g.row.F-Element.Denot) × (l.nodes ≡ nodes ++ ns) × (l.coefficients ≡ coefficients ++ cs)
    × (length nodes ≡ length coefficients) × (l.sum ≡ newton (g.F.Field.model l.field) ns cs l.x)
