use Rattle.std.proofs.Common.{sym, ◌∙◌}
use Rattle.polynomials.specs.Polynomials.{newton, weight}
use Rattle.polynomials.proofs.Carried.{newton_in, weight_in, weight_apart}
use Rattle.polynomials.proofs.Steps.{same_in, difference_in}
use Rattle.polynomials.proofs.newton.coefficient.Goals as goal

pub difference-requires : goal.difference-requires
difference-requires g c =
    let m = g.F.Field.model c.args.field.now in
    let laws = g.met.F.Field.lawful c.args.field.now in
    let ns = c.args.nodes.now in
    let cs = c.args.coefficients.now in
    let x = c.args.x in
    let h = c.requires.elements in
    (h.1.1.1, same_in m c.value-before.result (newton m ns cs x) c.value-before.ensures.value (newton_in laws ns cs h.0 h.1.0 x h.1.1.0))

pub quotient-requires : goal.quotient-requires
quotient-requires g c =
    let m = g.F.Field.model c.args.field.now in
    let laws = g.met.F.Field.lawful c.args.field.now in
    let ns = c.args.nodes.now in
    let cs = c.args.coefficients.now in
    let x = c.args.x in
    let h = c.requires.elements in
    let before-in = same_in m c.value-before.result (newton m ns cs x) c.value-before.ensures.value (newton_in laws ns cs h.0 h.1.0 x h.1.1.0) in (
      difference_in laws c.difference.result c.args.y c.value-before.result c.difference.ensures h.1.1.1 before-in,
      (
        same_in m c.weight.result (weight m ns x) c.weight.ensures (weight_in laws ns h.0 x h.1.1.0),
        λ e. weight_apart laws ns h.0 x h.1.1.0 c.requires.away (sym c.weight.ensures ∙ e),
      ),
    )
