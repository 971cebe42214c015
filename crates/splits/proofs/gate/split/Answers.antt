use Rattle.std.proofs.Common.{◌≡◌, ◌∷◌, length, take, sym, ap, ◌∙◌, ap₂, subst, arith}
use Rattle.std.proofs.lemmas.List.{length-take-le}
use Rattle.polynomials.specs.Polynomials.{Members, Apart}
use Rattle.splits.specs.Marks.{marked, points_from}
use Rattle.splits.proofs.Sizes.{row_fits}
use Rattle.splits.proofs.Picked.{take_points, length_points, points_members}
use Rattle.splits.proofs.Splitting.{nodes, values, nodes_in, values_in, nodes_apart, as_long, solved_from, is_balanced, is_kept, is_in, is_only}
use Rattle.splits.proofs.gate.split.Goals as goal

pub pick-nodes-requires : goal.pick-nodes-requires
pick-nodes-requires g c =
    let n = length c.args.children.now in
    let points-long : length (take n c.child_points-points.result) ≡ n = length-take-le n c.child_points-points.result (omega (arith, c.requires.sizes, ap length c.child_points-points.ensures)) in
    (row_fits _ 9 (omega arith) g.met.F.Field.small, (c.requires.sizes.0 ∙ sym points-long, omega arith))

pub pick-values-requires : goal.pick-values-requires
pick-values-requires g c = (row_fits _ 9 (omega arith) g.met.F.Field.small, c.requires.sizes)

pub as_slice-nodes-requires : goal.as_slice-nodes-requires
as_slice-nodes-requires g c = row_fits _ 9 (omega arith) g.met.F.Field.small

pub as_slice-values-requires : goal.as_slice-values-requires
as_slice-values-requires g c = row_fits _ 9 (omega arith) g.met.F.Field.small

pub interpolate-requires : goal.interpolate-requires
interpolate-requires g c =
    let m = g.F.Field.model c.args.field.now in
    let laws = g.met.F.Field.lawful c.args.field.now in
    let own = c.args.own in
    let known = c.args.known.now in
    let given = c.args.children.now in
    let n = length given in
    let long = c.requires.sizes.0 in
    let few = c.requires.sizes.1 in
    let points-are : take n c.child_points-points.result ≡ points_from m 1 n = ap (take n) c.child_points-points.ensures ∙ take_points m 1 n 8 few in
    let ns-are : c.as_slice-nodes.result.now ≡ nodes m own known given = c.as_slice-nodes.ensures ∙ c.pick-nodes.ensures ∙ ap₂ (λ p ps. p ∷ marked known ps) c.point.ensures points-are in
    let vs-are : c.copy_from_slice.new.self ≡ values m own known given = c.copy_from_slice.ensures.after ∙ c.as_slice-values.ensures ∙ c.pick-values.ensures in
    record {
      sizes = ap length ns-are ∙ as_long laws own known given long few ∙ sym (ap length vs-are);
      elements = (
        subst (Members m) (sym ns-are) (nodes_in laws own known given long few),
        subst (Members m) (sym vs-are) (values_in laws own known given long few c.requires.elements.0 c.requires.elements.1),
      );
      apart = subst (Apart m) (sym ns-are) (nodes_apart laws own known given long few);
    }

pub fill-requires : goal.fill-requires
fill-requires g c =
    let m = g.F.Field.model c.args.field.now in
    let laws = g.met.F.Field.lawful c.args.field.now in
    let own = c.args.own in
    let known = c.args.known.now in
    let given = c.args.children.now in
    let n = length given in
    let long = c.requires.sizes.0 in
    let few = c.requires.sizes.1 in
    let points-are : take n c.child_points-points.result ≡ points_from m 1 n = ap (take n) c.child_points-points.ensures ∙ take_points m 1 n 8 few in
    let ns-are : c.as_slice-nodes.result.now ≡ nodes m own known given = c.as_slice-nodes.ensures ∙ c.pick-nodes.ensures ∙ ap₂ (λ p ps. p ∷ marked known ps) c.point.ensures points-are in
    let vs-are : c.copy_from_slice.new.self ≡ values m own known given = c.copy_from_slice.ensures.after ∙ c.as_slice-values.ensures ∙ c.pick-values.ensures in
    record {
      sizes = (
        ap length ns-are ∙ as_long laws own known given long few ∙ sym (ap length vs-are) ∙ sym c.interpolate.auto.values,
        (omega (arith, ap length ns-are), (long, ap length points-are ∙ length_points m 1 n)),
      );
      elements = (
        subst (Members m) (sym ns-are) (nodes_in laws own known given long few),
        (c.interpolate.ensures.elements, subst (Members m) (sym points-are) (points_members m laws 1 n (omega arith))),
      );
    }

pub returns : goal.returns
returns g c =
    let m = g.F.Field.model c.args.field.now in
    let laws = g.met.F.Field.lawful c.args.field.now in
    let own = c.args.own in
    let known = c.args.known.now in
    let given = c.args.children.now in
    let n = length given in
    let long = c.requires.sizes.0 in
    let few = c.requires.sizes.1 in
    let points-are : take n c.child_points-points.result ≡ points_from m 1 n = ap (take n) c.child_points-points.ensures ∙ take_points m 1 n 8 few in
    let nodes-are = c.pick-nodes.ensures ∙ ap₂ (λ p ps. p ∷ marked known ps) c.point.ensures points-are in
    let vs-are : c.copy_from_slice.new.self ≡ values m own known given = c.copy_from_slice.ensures.after ∙ c.as_slice-values.ensures ∙ c.pick-values.ensures in
    let cs = c.interpolate.new.values in
    let after = c.fill.new.children in
    let after-long : length after ≡ length given = c.fill.auto.children in
    let solved = solved_from laws own known given long few c.as_slice-nodes.result.now c.as_slice-nodes.result.now c.copy_from_slice.new.self cs (take n c.child_points-points.result) after
    (c.as_slice-nodes.ensures ∙ nodes-are) (c.as_slice-nodes.ensures ∙ nodes-are) vs-are points-are c.interpolate.ensures.polynomial c.interpolate.ensures.passes c.fill.ensures in
    record {
      elements = is_in laws own known given long few cs after after-long solved;
      balanced = is_balanced laws own known given long few cs after after-long solved;
      kept = is_kept laws own known given long few cs after after-long solved;
      only = is_only laws own known given long few cs after after-long solved;
    }
