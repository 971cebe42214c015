-- The circle modulo p, and its pairs whose q-th power is (1, 0).
use Rattle.std.specs.Prelude.{◌≡◌, ℕ, ◌+◌, ◌-◌, ◌*◌, ◌%◌, ◌<◌, ◌≤◌, ◌&&◌, T, ◌==◌, nat_lt, refl}
use Rattle.std.proofs.Common.{sym, ap, ap₂, subst, ◌∙◌, mod-lt, mod-eq_of_lt, one-mul, zero-mul, add-zero, le_of_lt, arith, ltb→lt, lt→ltb, eqb→eq}
use Rattle.std.proofs.Math.Nat.{mod-mod, add-mul-mod_self_left}
use Rattle.std.specs.Float.Ieee.Fits.{and_i, and_l, and_r}
use Rattle.fields.specs.Residual.{same_sum}
use Rattle.groups.specs.Monoids.{MonoidLaws, power}
use Rattle.groups.specs.Groups.{GroupLaws}
use Rattle.groups.specs.Ambients.{AmbientLaws, Torsion}
use Rattle.groups.specs.PrimeLaws.{group_monoid, group_laws}
use Rattle.groups.specs.Passing.{Quiet}
use Rattle.groups.specs.Circles.{Pair, pair, circle_product, circle_modulo, is_one, circle_element, circle_elements, circle_model, circle_refusal, circle}
use Rattle.groups.specs.Quadratic.{low, high, low_assoc, high_assoc, low_comm, high_comm, same_low, same_high, negated}

abbrev Inside : ℕ → Pair → Type 0
Inside p x = T (nat_lt x.0.0 p && nat_lt x.1.0 p)

pub first_below : (p : ℕ) (x : Pair) → Inside p x → x.0.0 < p
first_below p x h = ltb→lt x.0.0 p (and_l (nat_lt x.0.0 p) (nat_lt x.1.0 p) h)

pub second_below : (p : ℕ) (x : Pair) → Inside p x → x.1.0 < p
second_below p x h = ltb→lt x.1.0 p (and_r (nat_lt x.0.0 p) (nat_lt x.1.0 p) h)

pub element_inside : (q p : ℕ) (x : Pair) → T (circle_element q p x) → Inside p x
element_inside q p x h = and_l (nat_lt x.0.0 p && nat_lt x.1.0 p) (is_one (power (circle_modulo p) x q)) h

both : (a b c d : ℕ) → a ≡ c → b ≡ d → pair a b ≡ pair c d
both a b c d e f = ap₂ pair e f

module _ (p : ℕ) (wide : 1 < p) where
  pos : 0 < p
  pos = omega arith

  product_inside : (x y : Pair) → Inside p (circle_product p x y)
  product_inside x y = and_i _ _ (lt→ltb _ p (mod-lt _ pos)) (lt→ltb _ p (mod-lt _ pos))

  -- the product with p - 1 for -1
  plain : (x y : Pair) → x.1.0 ≤ p
      → circle_product p x y ≡ pair (low (p - 1) x.0.0 x.1.0 y.0.0 y.1.0 % p) (high x.0.0 x.1.0 y.0.0 y.1.0 % p)
  plain x y h =
      both _ _ _ _
      (same_sum p (x.0.0 * y.0.0) ((p - x.1.0) * y.1.0) (x.0.0 * y.0.0) ((p - 1) * (x.1.0 * y.1.0)) refl (negated p x.1.0 y.1.0 pos h)) refl

  abbrev lo : Pair → Pair → ℕ
  lo x y = low (p - 1) x.0.0 x.1.0 y.0.0 y.1.0

  abbrev hi : Pair → Pair → ℕ
  hi x y = high x.0.0 x.1.0 y.0.0 y.1.0

  abbrev whole : Pair → Pair → Pair
  whole x y = pair (lo x y) (hi x y)

  abbrev reduced : Pair → Pair
  reduced x = pair (x.0.0 % p) (x.1.0 % p)

  -- a factor may be reduced before or after
  left_reduced : (x y : Pair) → reduced (whole (reduced x) y) ≡ reduced (whole x y)
  left_reduced x y =
      both _ _ _ _
      (same_low p (p - 1) (x.0.0 % p) (x.1.0 % p) y.0.0 y.1.0 x.0.0 x.1.0 y.0.0 y.1.0 (mod-mod x.0.0 p) (mod-mod x.1.0 p) refl refl)
      (same_high p (x.0.0 % p) (x.1.0 % p) y.0.0 y.1.0 x.0.0 x.1.0 y.0.0 y.1.0 (mod-mod x.0.0 p) (mod-mod x.1.0 p) refl refl)

  commuted : (x y : Pair) → whole x y ≡ whole y x
  commuted x y =
      both _ _ _ _ (low_comm (p - 1) x.0.0 x.1.0 y.0.0 y.1.0) (high_comm x.0.0 x.1.0 y.0.0 y.1.0)

  right_reduced : (x y : Pair) → reduced (whole x (reduced y)) ≡ reduced (whole x y)
  right_reduced x y = ap reduced (commuted x (reduced y)) ∙ left_reduced y x ∙ ap reduced (commuted y x)

  regrouped : (x y z : Pair) → whole (whole x y) z ≡ whole x (whole y z)
  regrouped x y z =
      both _ _ _ _ (low_assoc (p - 1) x.0.0 x.1.0 y.0.0 y.1.0 z.0.0 z.1.0)
      (high_assoc (p - 1) x.0.0 x.1.0 y.0.0 y.1.0 z.0.0 z.1.0)

  below_le : (x : Pair) → Inside p x → x.1.0 ≤ p
  below_le x h = le_of_lt (second_below p x h)

  associated : (x y z : Pair) → Inside p x → Inside p y → circle_product p (circle_product p x y) z ≡ circle_product p x (circle_product p y z)
  associated x y z hx hy =
      plain (circle_product p x y) z (below_le (circle_product p x y) (product_inside x y))
      ∙ ap (λ (u : Pair). reduced (whole u z)) (plain x y (below_le x hx))
      ∙ left_reduced (whole x y) z ∙ ap reduced (regrouped x y z) ∙ sym (right_reduced x (whole y z))
      ∙ sym (plain x (circle_product p y z) (below_le x hx) ∙ ap (λ (u : Pair). reduced (whole x u)) (plain y z (below_le y hy)))

  unchanged : (x : Pair) → Inside p x → circle_product p (pair 1 0) x ≡ x
  unchanged x h =
      let all : p - 0 ≡ p = omega arith in
      both _ _ _ _
      (ap (λ u. (1 * x.0.0 + u * x.1.0) % p) all ∙ ap (λ u. (u + p * x.1.0) % p) (one-mul x.0.0) ∙ add-mul-mod_self_left x.0.0 p x.1.0 ∙ mod-eq_of_lt (first_below p x h))
      (ap (λ u. u % p) (ap₂ ◌+◌ (one-mul x.1.0) (zero-mul x.0.0) ∙ add-zero x.1.0) ∙ mod-eq_of_lt (second_below p x h))

  pub circle_monoid : MonoidLaws (circle_modulo p)
  circle_monoid = record {
    one_in = λ _ _. and_i (nat_lt 1 p) (nat_lt 0 p) (lt→ltb 1 p wide) (lt→ltb 0 p pos);
    times_in = λ x y _ _. product_inside x y;
    assoc = λ x y z hx hy _. associated x y z hx hy;
    comm = λ x y hx hy. plain x y (below_le x hx) ∙ ap reduced (commuted x y) ∙ sym (plain y x (below_le y hy));
    one_left = unchanged;
  }

  pub circle_torsion : (q : ℕ) → Torsion (circle_modulo p) q (circle_element q p)
  circle_torsion q =
      let n : Pair → Pair = λ x. power (circle_modulo p) x q in
      record {
        inside = element_inside q p;
        turns = λ x h.
            let one = and_r (nat_lt x.0.0 p && nat_lt x.1.0 p) (is_one (n x)) h in
            both _ _ _ _ (eqb→eq (n x).0.0 1 (and_l ((n x).0.0 == 1) ((n x).1.0 == 0) one)) (eqb→eq (n x).1.0 0 (and_r ((n x).0.0 == 1) ((n x).1.0 == 0) one));
        back = λ x h e. and_i (nat_lt x.0.0 p && nat_lt x.1.0 p) (is_one (n x)) h (subst (λ (u : Pair). T (is_one u)) (sym e) tt);
      }

pub circle_cut : AmbientLaws circle
circle_cut = record {
  multiplies = circle_monoid;
  turns = λ q p _ wide. circle_torsion p wide q;
  neutral = λ _. tt;
  only = λ _ x h. both _ _ _ _ (eqb→eq x.0.0 1 (and_l (x.0.0 == 1) (x.1.0 == 0) h)) (eqb→eq x.1.0 0 (and_r (x.0.0 == 1) (x.1.0 == 0) h));
  reads_words = λ _. refl;
  reads_in = λ w x e. cc;
}

module _ (q p : ℕ) (g h : Pair) (t : Quiet (circle_refusal q p g h)) where
  pub circle_group_monoid : MonoidLaws (circle_elements q p)
  circle_group_monoid = group_monoid circle_cut q p g h t

  pub circle_laws : GroupLaws (circle_elements q p) (circle_model q p g h)
  circle_laws = group_laws circle_cut q p g h t
