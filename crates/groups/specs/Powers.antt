-- Powers in a commutative monoid: sums in the exponent, and the turns of square and multiply.
use Rattle.std.specs.Prelude.{◌≡◌, ℕ, zero, suc, ◌+◌, ◌/◌, ◌%◌, T}
use Rattle.std.proofs.Math.Path.{refl, sym, ap}
use Rattle.std.proofs.Common.{◌∙◌, zero-add, suc-add}
use native.Mathlib.Omega.{arith}
use Rattle.groups.specs.Monoids.{MonoidModel, MonoidLaws, power}

module _ {E : Type 0} {m : MonoidModel E} (laws : MonoidLaws m) where
  pub power_in : (x : E) (k : ℕ) → T (m.member x) → T (m.member (power m x k))
  unfolding power
  power_in x zero h = laws.one_in x h
  power_in x (suc k) h = laws.times_in x (power m x k) h (power_in x k h)

  pub one_right : (x : E) → T (m.member x) → m.times x m.one ≡ x
  one_right x h = laws.comm x m.one h (laws.one_in x h) ∙ laws.one_left x h

  pub power_suc : (x : E) (k : ℕ) → power m x (suc k) ≡ m.times x (power m x k)
  unfolding power
  power_suc x k = refl

  pub power_zero : (x : E) → power m x 0 ≡ m.one
  unfolding power
  power_zero x = refl

  pub power_add : (x : E) (j k : ℕ) → T (m.member x) → power m x (j + k) ≡ m.times (power m x j) (power m x k)
  unfolding power
  power_add x zero k h = ap (power m x) (zero-add k) ∙ sym (laws.one_left (power m x k) (power_in x k h))
  power_add x (suc j) k h =
      ap (power m x) (suc-add j k) ∙ power_suc x (j + k) ∙ ap (m.times x) (power_add x j k h)
      ∙ sym (laws.assoc x (power m x j) (power m x k) h (power_in x j h) (power_in x k h))

  pub square_power : (x : E) (k : ℕ) → T (m.member x) → power m (m.times x x) k ≡ power m x (k + k)
  unfolding power
  square_power x zero h = refl
  square_power x (suc k) h =
      let step : suc k + suc k ≡ suc (suc (k + k)) = omega arith in
      ap (m.times (m.times x x)) (square_power x k h) ∙ laws.assoc x x (power m x (k + k)) h h (power_in x (k + k) h)
      ∙ sym (ap (power m x) step ∙ power_suc x (suc (k + k)) ∙ ap (m.times x) (power_suc x (k + k)))

  -- one turn of square-and-multiply
  pub even_turn : (r s : E) (n : ℕ) → T (m.member s) → n % 2 ≡ 0 → m.times r (power m (m.times s s) (n / 2)) ≡ m.times r (power m s n)
  even_turn r s n h e =
      let halves : n / 2 + n / 2 ≡ n = omega arith in
      ap (m.times r) (square_power s (n / 2) h ∙ ap (power m s) halves)

  pub odd_turn : (r s : E) (n : ℕ) → T (m.member r) → T (m.member s) → n % 2 ≡ 1
      → m.times (m.times r s) (power m (m.times s s) (n / 2)) ≡ m.times r (power m s n)
  odd_turn r s n hr h e =
      let halves : suc (n / 2 + n / 2) ≡ n = omega arith in
      ap (m.times (m.times r s)) (square_power s (n / 2) h)
      ∙ laws.assoc r s (power m s (n / 2 + n / 2)) hr h (power_in s (n / 2 + n / 2) h)
      ∙ ap (m.times r) (sym (power_suc s (n / 2 + n / 2)) ∙ ap (power m s) halves)
