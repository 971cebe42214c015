-- The scalars modulo a prime are a field with nine different points.
use Rattle.std.specs.Prelude.{◌≡◌, ℕ, ◌+◌, ◌-◌, ◌*◌, ◌%◌, ◌<◌, ◌≤◌, T, nat_lt, refl}
use Rattle.std.proofs.Common.{ap, ◌∙◌, mod-lt, mod-eq_of_lt, add_assoc, add_comm, add-zero, mul_assoc, mul_comm, mul-one, mul-add, add-sub_of_le, pos_of_ne-zero, le_of_lt, arith, ltb→lt, lt→ltb}
use Rattle.std.proofs.Math.Nat.{mod-add-mod, add-mod-mod, mod_self}
use Rattle.std.proofs.Math.Decide.{ℕ_discrete}
use Rattle.fields.specs.Fields.{FieldLaws}
use Rattle.fields.specs.Primes.{Prime}
use Rattle.fields.specs.Scalars.{scalar, scalars_model}
use Rattle.fields.specs.declared.scalar.Scalar.{Scalar}
use Rattle.fields.specs.Residual.{mod_mul_mod, mul_mod_mod}
use Rattle.fields.specs.Inverses.{inverse, inverse_right}

module _ (q : ℕ) (prime : Prime q) where
  pos : 0 < q
  pos = omega (arith, prime.0)

  abbrev In : Scalar → Type 0
  In x = T (nat_lt x.0 q)

  reduced : (n : ℕ) → In (scalar (n % q))
  reduced n = lt→ltb (n % q) q (mod-lt n pos)

  below : (x : Scalar) → In x → x.0 < q
  below x h = ltb→lt x.0 q h

  same : (x : Scalar) → In x → scalar (x.0 % q) ≡ x
  same x h = ap scalar (mod-eq_of_lt (below x h))

  inverted : (x : Scalar) → In x → ¬ (x ≡ scalar 0) → (y : Scalar) × In y × (scalar (x.0 * y.0 % q) ≡ scalar 1)
  inverted x h n = (
    scalar (inverse q q x.0 % q),
    reduced (inverse q q x.0),
    ap scalar (mul_mod_mod x.0 (inverse q q x.0) q
        ∙ inverse_right q prime q x.0 (le_of_lt (below x h)) (pos_of_ne-zero (λ e. n (ap scalar e))) (below x h)),
  )

  alike : (x y : Scalar) → Dec (x ≡ y)
  alike x y = go (ℕ_discrete x.0 y.0)
    where
      go : Dec (x.0 ≡ y.0) → Dec (x ≡ y)
      go (yes e) = yes (ap scalar e)
      go (no n) = no (λ e. n (ap (λ (z : Scalar). z.0) e))

  pub scalar_laws : 11 ≤ q → FieldLaws (scalars_model q)
  scalar_laws low = record {
    zero_in = lt→ltb 0 q pos;
    one_in = lt→ltb 1 q (omega arith);
    plus_in = λ x y _ _. reduced (x.0 + y.0);
    negative_in = λ x _. reduced (q - x.0);
    times_in = λ x y _ _. reduced (x.0 * y.0);
    plus_assoc = λ x y z _ _ _. ap scalar (simp (mod-add-mod, add-mod-mod, add_assoc));
    plus_comm = λ x y _ _. ap (λ n. scalar (n % q)) (add_comm x.0 y.0);
    plus_zero = λ x h. ap (λ n. scalar (n % q)) (add-zero x.0) ∙ same x h;
    plus_negative = λ x h.
        ap scalar (add-mod-mod x.0 (q - x.0) q ∙ ap (λ u. u % q) (add-sub_of_le (le_of_lt (below x h))) ∙ mod_self q);
    times_assoc = λ x y z _ _ _. ap scalar (simp (mod_mul_mod, mul_mod_mod, mul_assoc));
    times_comm = λ x y _ _. ap (λ n. scalar (n % q)) (mul_comm x.0 y.0);
    times_one = λ x h. ap (λ n. scalar (n % q)) (mul-one x.0) ∙ same x h;
    times_plus = λ x y z _ _ _. ap scalar (simp (mul_mod_mod, mod-add-mod, add-mod-mod, mul-add));
    inverse = inverted;
    one_apart = λ e. let k : 1 ≡ 0 = ap (λ (z : Scalar). z.0) e in omega arith;
    same? = alike;
    point_in = λ j h. lt→ltb j q (omega arith);
    point_zero = refl;
    points_apart = λ i j _ _ e. ap (λ (z : Scalar). z.0) e;
  }
