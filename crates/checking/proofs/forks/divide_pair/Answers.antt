use Rattle.std.proofs.Common.{◌≡◌, ◌<◌, ap, ◌∙◌, ap₂, arith, lt→ltb}
use Rattle.fields.specs.Scalars.{scalars_model}
use Rattle.fields.specs.ScalarLaws.{scalar_laws}
use Rattle.checking.proofs.Dividing.{divided}
use Rattle.checking.proofs.forks.divide_pair.Goals as goal

pub returns-clause-divides : goal.returns-clause-divides
returns-clause-divides c =
    let f = c.args.field.now in
    let q = f.q in
    let pos : 0 < q = omega (arith, f.low) in
    let m = scalars_model q in
    let laws = scalar_laws q f.prime f.low in
    let by = c.args.by in
    let x = c.args.pair.0 in
    let y = c.args.pair.1 in
    let i = c.quotient-inverse.result in
    let hb = lt→ltb by.0 q c.requires.elements.1.1 in
    let hx = lt→ltb x.0 q c.requires.elements.0 in
    let hy = lt→ltb y.0 q c.requires.elements.1.0 in
    let hi = c.quotient-inverse.ensures.member in
    let e : m.times i by ≡ m.one = c.quotient-inverse.ensures.divides ∙ c.one.ensures in
    ap₂ (λ u v. (u, v)) (ap (m.times by) c.product.ensures ∙ divided laws by i x hb hi hx e) (ap (m.times by) c.product-2.ensures ∙ divided laws by i y hb hi hy e)
