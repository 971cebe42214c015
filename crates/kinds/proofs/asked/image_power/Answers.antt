use Rattle.std.proofs.Common.{sym, ◌∙◌, arith}
use Rattle.groups.specs.Monoids.{power}
use Rattle.kinds.specs.Sets.{power_outside}
use Rattle.kinds.proofs.asked.image_power.Goals as goal

pub returns-then-exponent-eq0 : goal.returns-then-exponent-eq0
unfolding power
returns-then-exponent-eq0 g c = rw c.if-exponent-eq0.true c.neutral_image.ensures

pub returns-else-exponent-eq0 : goal.returns-else-exponent-eq0
returns-else-exponent-eq0 g c =
    power_outside _ (g.met.S.LeafKinds.lawful c.args.set.now) c.args.kind c.args.image.now c.args.exponent
    (sym c.is_image.ensures ∙ c.if-is_image.false) (omega (arith, c.if-exponent-eq0.false))
