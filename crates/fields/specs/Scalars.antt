-- The scalars: the numbers below a prime q, counted modulo q.
--   scalar n          the scalar with value n
--   scalars_model q   their operations, each the one on numbers, modulo q; point j is j
use Rattle.std.specs.Prelude.{ℕ, nat_lt}
use Rattle.fields.specs.Fields.{FieldModel}
use Rattle.fields.specs.Modular.{sum_mod, product_mod, negative_mod}
use Rattle.fields.specs.declared.scalar.Scalar.{Scalar}

abbrev pub scalar : ℕ → Scalar
scalar n = record { 0 = n }

abbrev pub scalars_model : ℕ → FieldModel Scalar
scalars_model q = record {
  member = λ x. nat_lt x.0 q;
  zero = scalar 0;
  one = scalar 1;
  plus = λ x y. scalar (sum_mod q x.0 y.0);
  negative = λ x. scalar (negative_mod q x.0);
  times = λ x y. scalar (product_mod q x.0 y.0);
  point = λ j. scalar j;
}
