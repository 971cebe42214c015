use Rattle.std.proofs.Common.{rules}
use Rattle.splits.proofs.Picked.{points_made}
use Rattle.splits.proofs.rows.child_points.Goals as goal

pub returns : goal.returns
returns g c =
    points_made (g.F.Field.model c.args.field.now) _ _ c.from_fn.result 1 8 c.from_fn.ensures.items (λ i y q h. search rules)
