use Rattle.std.specs.Slice.Iter.{iter_rest}
use Rattle.std.specs.Iterator.Adapters.{rev_source}
use Rattle.polynomials.specs.Polynomials.{weight}
use Rattle.polynomials.proofs.Carried.{weight_in}
use Rattle.polynomials.proofs.Steps.{same_in, difference_in, taken_back, members_back, taken_in}
use Rattle.polynomials.proofs.newton.weight.Goals as goal

pub product-product-requires : goal.product-product-requires
product-product-requires g c =
    let m = g.F.Field.model c.args.field.now in
    let laws = g.met.F.Field.lawful c.args.field.now in
    let ns = c.args.nodes.now in
    let inv = c.loop-node.invariant in
    let n = c.in-Some.node.now in
    let rest = iter_rest (rev_source c.loop-node.node-iterator) in
    let left = iter_rest (rev_source c.next.new.self) in
    let n-in = taken_in m ns left inv.0 n (taken_back ns rest left inv.0 n inv.1 c.in-Some.ensures.steps) c.requires.0 in (
      difference_in laws c.difference.result c.args.x n c.difference.ensures c.requires.1 n-in,
      same_in m c.loop-node.product (weight m inv.0 c.args.x) inv.2 (weight_in laws inv.0 (members_back m ns rest inv.0 inv.1 c.requires.0) c.args.x c.requires.1),
    )
