use Rattle.std.proofs.Common.{T, ltb, arith, rules, zero-le}
use Rattle.fields.specs.declared.scalar.Scalar.{Scalar}
use Rattle.fields.specs.Scalars.{scalar}
use Rattle.splits_tests.proofs.Reduced.{reduced, made_each}
use Rattle.splits_tests.proofs.gates.scalars.Goals as goal

pub returns-clause-elements : goal.returns-clause-elements
returns-clause-elements c i l =
    let q = c.args.field.now.q in
    made_each _ (λ (y : Scalar). T (ltb y.0 q)) _ c.args.values c.map.result (scalar 0) 0 8 i (λ x y p h. (search rules, reduced y.0 x c.order-q.result q (search rules) c.order-q.ensures c.args.field.now.low)) c.map.ensures.items.each zero-le (omega (arith, c.map.ensures.items.long))
