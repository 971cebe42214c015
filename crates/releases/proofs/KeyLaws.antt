-- Keys of a width: sums, differences and multiples of keys are keys.
--   Fits q n w    w is a key of width n, as what its two scalars are
use Rattle.std.proofs.Common.{◌≡◌, ℕ, zero, suc, ◌+◌, ◌-◌, ◌*◌, ◌%◌, ◌<◌, ◌≤◌, cond, ◌&&◌, T, eqb, ltb, sym, refl, ap, ◌∙◌, subst, ap₂, mod-lt, mul-zero, arith, eqb→eq, ltb→lt, lt→ltb}
use native.Mathlib.Nat.{zero-mod, mod_self}
use lib.Ieee.Fits.{and_i, and_l, and_r}
use Rattle.fields.specs.Fields.{FieldLaws}
use Rattle.fields.specs.Scalars.{scalar, scalars_model}
use Rattle.fields.specs.declared.scalar.Scalar.{Scalar}
use Rattle.kinds.specs.Kinds.{Key, is_key, add_keys}
use Rattle.releases.specs.Keys.{sub_keys, scale_key}
use Rattle.releases.proofs.Arithmetic.{minus_plus, plus_minus}

pub record Fits (q n : ℕ) (w : Key) : Type 0 where
  pub first : w.0.0 < q
  pub second : w.1.0 < q
  pub narrow : n ≡ 1 → w.1.0 ≡ 0

module _ (q n : ℕ) (pos : 0 < q) (low : 1 ≤ n) (high : n ≤ 2) where
  second_fits : (n x : ℕ) → 1 ≤ n → n ≤ 2 → T (cond (eqb n 2) (ltb x q) (eqb n 1 && eqb x 0)) → (x < q) × (n ≡ 1 → x ≡ 0)
  second_fits zero x l h t = absurd (omega arith)
  second_fits (suc zero) x l h t = let z = eqb→eq x 0 t in (omega arith, λ _. z)
  second_fits (suc (suc zero)) x l h t = (ltb→lt x q t, λ e. absurd (omega arith))
  second_fits (suc (suc (suc n))) x l h t = absurd (omega arith)

  fits_second : (n x : ℕ) → 1 ≤ n → n ≤ 2 → x < q → (n ≡ 1 → x ≡ 0) → T (cond (eqb n 2) (ltb x q) (eqb n 1 && eqb x 0))
  fits_second zero x l h a b = absurd (omega arith)
  fits_second (suc zero) x l h a b = subst (λ y. T (eqb y 0)) (sym (b refl)) tt
  fits_second (suc (suc zero)) x l h a b = lt→ltb x q a
  fits_second (suc (suc (suc n))) x l h a b = absurd (omega arith)

  pub key_fits : (w : Key) → T (is_key q n w) → Fits q n w
  key_fits w t =
      let s = second_fits n w.1.0 low high (and_r (ltb w.0.0 q) _ t) in
      record { first = ltb→lt w.0.0 q (and_l (ltb w.0.0 q) _ t); second = s.0; narrow = s.1 }

  pub fits_key : (w : Key) → Fits q n w → T (is_key q n w)
  fits_key w f = and_i _ _ (lt→ltb w.0.0 q f.first) (fits_second n w.1.0 low high f.second f.narrow)

  pub zero_key : Fits q n (scalar 0, scalar 0)
  zero_key = record { first = pos; second = pos; narrow = λ _. refl }

  pub add_key : (v w : Key) → Fits q n v → Fits q n w → Fits q n (add_keys q v w)
  add_key v w h k = record {
    first = mod-lt (v.0.0 + w.0.0) pos;
    second = mod-lt (v.1.0 + w.1.0) pos;
    narrow = λ one. ap₂ (λ x y. (x + y) % q) (h.narrow one) (k.narrow one) ∙ zero-mod q;
  }

  pub sub_key : (v w : Key) → Fits q n v → Fits q n w → Fits q n (sub_keys q v w)
  sub_key v w h k = record {
    first = mod-lt (v.0.0 + (q - w.0.0) % q) pos;
    second = mod-lt (v.1.0 + (q - w.1.0) % q) pos;
    narrow = λ one.
        ap₂ (λ x y. (x + (q - y) % q) % q) (h.narrow one) (k.narrow one)
        ∙ ap (λ x. (0 + x) % q) (ap (λ x. x % q) (omega arith) ∙ mod_self q) ∙ zero-mod q;
  }

  pub scaled_key : (c : Scalar) (w : Key) → Fits q n w → Fits q n (scale_key q c w)
  scaled_key c w h = record {
    first = mod-lt (c.0 * w.0.0) pos;
    second = mod-lt (c.0 * w.1.0) pos;
    narrow = λ one. ap (λ x. c.0 * x % q) (h.narrow one) ∙ ap (λ x. x % q) (mul-zero c.0) ∙ zero-mod q;
  }

  module _ (laws : FieldLaws (scalars_model q)) where
    -- (v - w) + w = v and (v + w) - w = v
    pub key_back : (v w : Key) → Fits q n v → Fits q n w → add_keys q (sub_keys q v w) w ≡ v
    key_back v w h k =
        ap₂ (λ a b. (a, b))
        (minus_plus laws v.0 w.0 (lt→ltb v.0.0 q h.first) (lt→ltb w.0.0 q k.first))
        (minus_plus laws v.1 w.1 (lt→ltb v.1.0 q h.second) (lt→ltb w.1.0 q k.second))

    pub key_forth : (v w : Key) → Fits q n v → Fits q n w → sub_keys q (add_keys q v w) w ≡ v
    key_forth v w h k =
        ap₂ (λ a b. (a, b))
        (plus_minus laws v.0 w.0 (lt→ltb v.0.0 q h.first) (lt→ltb w.0.0 q k.first))
        (plus_minus laws v.1 w.1 (lt→ltb v.1.0 q h.second) (lt→ltb w.1.0 q k.second))
