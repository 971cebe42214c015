use Rattle.std.proofs.Common.{◌≡◌, ◌-◌, ◌++◌, length, drop, take, sym, ap, ◌∙◌, ap₂, arith}
use Rattle.std.proofs.lemmas.List.{take-append-drop, length-take-le}
use Rattle.std.specs.Slice.Iter.{iter_rest}
use Rattle.std.specs.Iterator.Adapters.{rev_source, zip_first, zip_second}
use Rattle.polynomials.specs.Polynomials.{newton}
use Rattle.polynomials.proofs.Carried.{newton_in, newton_polynomial, vanishes_everywhere}
use Rattle.polynomials.proofs.Steps.{same_in, difference_in, product_in, newton_last, taken_back, all_taken, members_back, taken_in}
use Rattle.polynomials.proofs.newton.value.Goals as goal

pub loop-node-init : goal.loop-node-init
loop-node-init g c =
    let ns = c.args.nodes.now in
    let cs = c.args.coefficients.now in
    let last = length ns - 1 in
    let nodes : iter_rest (rev_source (zip_first c.into_iter-node-iterator.result)) ≡ take last ns = cc in
    let coefficients : iter_rest (rev_source (zip_second c.into_iter-node-iterator.result)) ≡ take last cs = cc in (
      drop last ns,
      drop last cs,
      sym (ap (λ u. u ++ drop last ns) nodes ∙ take-append-drop last ns),
      sym (ap (λ u. u ++ drop last cs) coefficients ∙ take-append-drop last cs),
      ap length nodes ∙ length-take-le last ns (omega arith) ∙ sym (ap length coefficients ∙ length-take-le last cs (omega (arith, c.requires.sizes))),
      newton_last (g.met.F.Field.lawful c.args.field.now) ns cs c.args.x last c.requires.sizes.0 (omega arith) c.requires.elements.0 c.requires.elements.1.0
          c.requires.elements.1.1 c.index-coefficients-last.result c.index-coefficients-last.is,
    )

pub difference-requires : goal.difference-requires
difference-requires g c =
    let ns = c.args.nodes.now in
    let inv = c.loop-node.invariant in
    let rest = iter_rest (rev_source (zip_first c.loop-node.node-iterator)) in
    let left = iter_rest (rev_source (zip_first c.next.new.self)) in
    (c.requires.elements.1.1, taken_in (g.F.Field.model c.args.field.now) ns left inv.0 c.in-Some.node.now (taken_back ns rest left inv.0 c.in-Some.node.now inv.2 c.in-Some.ensures.steps.0) c.requires.elements.0)

pub product-product-requires : goal.product-product-requires
product-product-requires g c =
    let m = g.F.Field.model c.args.field.now in
    let laws = g.met.F.Field.lawful c.args.field.now in
    let ns = c.args.nodes.now in
    let cs = c.args.coefficients.now in
    let x = c.args.x in
    let inv = c.loop-node.invariant in
    let n = c.in-Some.node.now in
    let nodes = iter_rest (rev_source (zip_first c.loop-node.node-iterator)) in
    let left = iter_rest (rev_source (zip_first c.next.new.self)) in
    let coefficients = iter_rest (rev_source (zip_second c.loop-node.node-iterator)) in (
      difference_in laws c.difference.result x n c.difference.ensures c.requires.elements.1.1
          (taken_in m ns left inv.0 n (taken_back ns nodes left inv.0 n inv.2 c.in-Some.ensures.steps.0) c.requires.elements.0),
      same_in m c.loop-node.sum (newton m inv.0 inv.1 x) inv.5
          (newton_in laws inv.0 inv.1 (members_back m ns nodes inv.0 inv.2 c.requires.elements.0) (members_back m cs coefficients inv.1 inv.3 c.requires.elements.1.0) x c.requires.elements.1.1),
    )

pub sum-sum-requires : goal.sum-sum-requires
sum-sum-requires g c =
    let m = g.F.Field.model c.args.field.now in
    let laws = g.met.F.Field.lawful c.args.field.now in
    let ns = c.args.nodes.now in
    let cs = c.args.coefficients.now in
    let x = c.args.x in
    let inv = c.loop-node.invariant in
    let n = c.in-Some.node.now in
    let k = c.in-Some.coefficient.now in
    let nodes = iter_rest (rev_source (zip_first c.loop-node.node-iterator)) in
    let nodes-left = iter_rest (rev_source (zip_first c.next.new.self)) in
    let coefficients = iter_rest (rev_source (zip_second c.loop-node.node-iterator)) in
    let coefficients-left = iter_rest (rev_source (zip_second c.next.new.self)) in (
      taken_in m cs coefficients-left inv.1 k (taken_back cs coefficients coefficients-left inv.1 k inv.3 c.in-Some.ensures.steps.1) c.requires.elements.1.0,
      product_in laws c.product-product.result c.difference.result c.loop-node.sum c.product-product.ensures
          (difference_in laws c.difference.result x n c.difference.ensures c.requires.elements.1.1 (taken_in m ns nodes-left inv.0 n (taken_back ns nodes nodes-left inv.0 n inv.2 c.in-Some.ensures.steps.0) c.requires.elements.0))
          (same_in m c.loop-node.sum (newton m inv.0 inv.1 x) inv.5
          (newton_in laws inv.0 inv.1 (members_back m ns nodes inv.0 inv.2 c.requires.elements.0) (members_back m cs coefficients inv.1 inv.3 c.requires.elements.1.0) x c.requires.elements.1.1)),
    )

pub returns : goal.returns
returns g c =
    let m = g.F.Field.model c.args.field.now in
    let laws = g.met.F.Field.lawful c.args.field.now in
    let ns = c.args.nodes.now in
    let cs = c.args.coefficients.now in
    let x = c.args.x in
    let inv = c.loop-node.invariant in
    let nodes = iter_rest (rev_source (zip_first c.loop-node.node-iterator)) in
    let coefficients = iter_rest (rev_source (zip_second c.loop-node.node-iterator)) in
    let done : length nodes ≡ 0 = grind arith in
    let is : c.loop-node.sum ≡ newton m ns cs x =
    inv.5 ∙ ap₂ (λ u v. newton m u v x) (all_taken ns nodes inv.0 inv.2 done) (all_taken cs coefficients inv.1 inv.3 (sym inv.4 ∙ done)) in
    record {
      value = is;
      few_roots = λ zs h apart few roots. is ∙ vanishes_everywhere laws (length ns) (newton m ns cs)
          (newton_polynomial laws ns cs c.requires.elements.0 c.requires.elements.1.0 c.requires.sizes.0) zs h apart few roots x c.requires.elements.1.1;
    }
