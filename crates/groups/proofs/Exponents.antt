-- Where every q-th power is neutral, exponents count modulo q.
use Rattle.std.proofs.Common.{◌≡◌, ℕ, zero, suc, ◌+◌, ◌*◌, ◌/◌, ◌%◌, T, sym, ap, ◌∙◌, add-zero, add_assoc, suc-mul, zero-mul}
use native.Mathlib.Nat.{mod-add-div'}
use Rattle.groups.specs.Monoids.{MonoidModel, MonoidLaws, power}
use Rattle.groups.specs.Powers.{power_in, power_add, one_right}

module _ {E : Type 0} {m : MonoidModel E} (laws : MonoidLaws m) (q : ℕ) (x : E) (h : T (m.member x)) (turns : power m x q ≡ m.one) where
  power_turns : (r k : ℕ) → power m x (r + k * q) ≡ power m x r
  power_turns r zero = ap (power m x) (ap (λ n. r + n) (zero-mul q) ∙ add-zero r)
  power_turns r (suc k) =
      ap (power m x) (ap (λ n. r + n) (suc-mul k q) ∙ sym (add_assoc r (k * q) q))
      ∙ power_add laws x (r + k * q) q h ∙ ap (m.times (power m x (r + k * q))) turns
      ∙ one_right laws (power m x (r + k * q)) (power_in laws x (r + k * q) h) ∙ power_turns r k

  pub power_mod : (n : ℕ) → power m x (n % q) ≡ power m x n
  power_mod n = sym (power_turns (n % q) (n / q)) ∙ ap (power m x) (mod-add-div' n q)

  -- the power of a sum modulo q
  pub power_sum : (a b : ℕ) → power m x ((a + b) % q) ≡ m.times (power m x a) (power m x b)
  power_sum a b = power_mod (a + b) ∙ power_add laws x a b h
