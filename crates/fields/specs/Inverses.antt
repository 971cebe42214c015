-- Every number below a prime but 0 has an inverse modulo it.
use Rattle.std.specs.Prelude.{◌≡◌, ℕ, zero, suc, ◌+◌, ◌-◌, ◌*◌, ◌/◌, ◌%◌, ◌<◌, ◌≤◌}
use Rattle.std.proofs.Common.{sym, ap, ◌∙◌, mod-lt, mod-eq_of_lt, mul_assoc, mul_right_comm, add-mul, arith}
use Rattle.std.proofs.Math.Nat.{mul-add-mod_self_right, div-add-mod}
use Rattle.fields.specs.Primes.{Prime}

-- 1 at 1, else from the inverse of q % a, which is smaller
pub inverse : ℕ → ℕ → ℕ → ℕ
inverse q zero a = 0
inverse q (suc f) zero = 0
inverse q (suc f) (suc zero) = 1
inverse q (suc f) (suc (suc a)) = (q - q / suc (suc a)) * inverse q f (q % suc (suc a))

whole : (a t r w : ℕ) → suc a * t + r ≡ t + w → suc a * w ≡ a * (t + w) + r
whole a t r w h = omega arith

drop_multiple : (k q r s : ℕ) → (k * q + r) * s % q ≡ r * s % q
drop_multiple k q r s = ap (λ u. u % q) (add-mul (k * q) r s ∙ ap (λ u. u + r * s) (mul_right_comm k q s)) ∙ mul-add-mod_self_right (k * s) q (r * s)

-- a * (q - t) is r and a multiple of q, where q is a * t + r
turned : (q a t r : ℕ) → suc a * t + r ≡ q → suc a * (q - t) ≡ a * q + r
turned q a t r h =
    let le : t ≤ q = omega arith in
    let e : t + (q - t) ≡ q = omega arith in
    whole a t r (q - t) (h ∙ sym e) ∙ ap (λ u. a * u + r) e

pub inverse_right : (q : ℕ) → Prime q → (f a : ℕ) → a ≤ f → 0 < a → a < q → a * inverse q f a % q ≡ 1
unfolding inverse
inverse_right q prime zero a l p h = absurd (omega arith)
inverse_right q prime (suc f) zero l p h = absurd (omega arith)
inverse_right q prime (suc f) (suc zero) l p h = mod-eq_of_lt h
inverse_right q prime (suc f) (suc (suc a)) l p h =
    let b = suc (suc a) in
    let small : q % b < b = mod-lt q (omega arith) in
    let some : ¬ (q % b ≡ 0) = prime.1 b (omega arith) h in
    let ih = inverse_right q prime f (q % b) (omega arith) (omega arith) (omega arith) in
    ap (λ u. u % q) (sym (mul_assoc b (q - q / b) (inverse q f (q % b)))
    ∙ ap (λ u. u * inverse q f (q % b)) (turned q (suc a) (q / b) (q % b) (div-add-mod q b)))
    ∙ drop_multiple (suc a) q (q % b) (inverse q f (q % b)) ∙ ih
