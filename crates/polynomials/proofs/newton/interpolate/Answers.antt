use Rattle.std.proofs.Common.{◌≡◌, ◌<◌, length, get_or, take, sym, ap, ◌∙◌, ap₂, arith}
use Rattle.std.proofs.lemmas.List.{get_or_read, get_or-take, length-take-le}
use Rattle.fields.specs.Fields.{minus}
use Rattle.polynomials.specs.Polynomials.{newton, weight}
use Rattle.polynomials.proofs.Carried.{newton_polynomial}
use Rattle.polynomials.proofs.Steps.{read_in, members_take, begun_first, begun_more, begun_all, only_one}
use Rattle.polynomials.proofs.newton.interpolate.Goals as goal

pub loop-i-init : goal.loop-i-init
loop-i-init g c =
    begun_first (g.met.F.Field.lawful c.args.field.now) c.args.points.now c.args.values.now c.requires.sizes c.requires.elements.0 c.requires.elements.1

pub coefficient-next-requires-clause-elements : goal.coefficient-next-requires-clause-elements
coefficient-next-requires-clause-elements g c =
    let m = g.F.Field.model c.args.field.now in
    let points = c.args.points.now in
    let values = c.loop-i.values in
    let i = c.loop-i.i in (
      members_take m points i (omega arith) c.requires.elements.0,
      (
        members_take m values i (omega (arith, c.requires.sizes)) c.loop-i.invariant.0,
        (
          read_in m points c.requires.elements.0 i c.index-points-i.result (omega arith) c.index-points-i.is,
          read_in m values c.loop-i.invariant.0 i c.index-values-i.result (omega (arith, c.requires.sizes)) c.index-values-i.is,
        ),
      ),
    )

pub coefficient-next-requires-clause-away : goal.coefficient-next-requires-clause-away
coefficient-next-requires-clause-away g c j b e =
    let m = g.F.Field.model c.args.field.now in
    let points = c.args.points.now in
    let i = c.loop-i.i in
    let within : j < i = omega (arith, length-take-le i points (omega arith)) in
    let same : i ≡ j = c.requires.apart i j (omega arith) (omega arith)
    (sym (get_or_read points i c.index-points-i.result (omega arith) c.index-points-i.is m.zero) ∙ e ∙ get_or-take i points j m.zero within) in
    omega arith

pub loop-i-preserved : goal.loop-i-preserved
loop-i-preserved g c =
    let m = g.F.Field.model c.args.field.now in
    let laws = g.met.F.Field.lawful c.args.field.now in
    let points = c.args.points.now in
    let values = c.loop-i.values in
    let i = c.loop-i.i in
    let next = c.coefficient-next.result in
    let x-is : c.index-points-i.result ≡ get_or points i m.zero = get_or_read points i c.index-points-i.result (omega arith) c.index-points-i.is m.zero in
    let y-is : c.index-values-i.result ≡ get_or values i m.zero = get_or_read values i c.index-values-i.result (omega (arith, c.requires.sizes)) c.index-values-i.is m.zero in
    begun_more laws points c.args.values.now values i next (omega (arith, c.requires.sizes)) c.requires.elements.0 c.coefficient-next.ensures.member c.loop-i-test.true
    (ap (λ x. m.times next (weight m (take i points) x)) (sym x-is) ∙ c.coefficient-next.ensures.fits
    ∙ ap₂ (λ x y. minus m y (newton m (take i points) (take i values) x)) x-is y-is)
    c.loop-i.invariant

pub returns-clause-polynomial : goal.returns-clause-polynomial
returns-clause-polynomial g c =
    newton_polynomial (g.met.F.Field.lawful c.args.field.now) c.args.points.now c.loop-i.values c.requires.elements.0 c.loop-i.invariant.0 (omega (arith, c.requires.sizes))

pub returns-clause-only : goal.returns-clause-only
returns-clause-only g c =
    let laws = g.met.F.Field.lawful c.args.field.now in
    let points = c.args.points.now in
    let given = c.args.values.now in
    let values = c.loop-i.values in
    let long : length points ≡ length values = omega (arith, c.requires.sizes) in
    only_one laws points given values long c.requires.elements.0 c.loop-i.invariant.0 c.requires.apart (begun_all laws points given values c.loop-i.i long c.loop-i-test.false c.loop-i.invariant)
