-- Pairs a + bi with i squared m: their product is associative and commutative, also modulo p.
use Rattle.std.specs.Prelude.{◌≡◌, ℕ, ◌+◌, ◌-◌, ◌*◌, ◌%◌, ◌<◌, ◌≤◌, refl}
use Rattle.std.proofs.Common.{sym, ap, ◌∙◌, mul-add, add-mul, mul_assoc, mul_comm, mul_left_comm, one-mul, arith}
use Rattle.std.proofs.Math.Nat.{mul-mod_right}
use Rattle.fields.specs.Residual.{same_sum, same_product, cancel}

abbrev pub low : ℕ → ℕ → ℕ → ℕ → ℕ → ℕ
low m a b c d = a * c + m * (b * d)

abbrev pub high : ℕ → ℕ → ℕ → ℕ → ℕ
high a b c d = a * d + b * c

pub low_assoc : (m a b c d e f : ℕ) → low m (low m a b c d) (high a b c d) e f ≡ low m a b (low m c d e f) (high c d e f)
low_assoc m a b c d e f = simp (mul-add, add-mul, mul_assoc) (omega (arith, mul_left_comm a m (d * f)))

pub high_assoc : (m a b c d e f : ℕ) → high (low m a b c d) (high a b c d) e f ≡ high a b (low m c d e f) (high c d e f)
high_assoc m a b c d e f = simp (mul-add, add-mul, mul_assoc) (omega (arith, mul_left_comm b m (d * f)))

pub low_comm : (m a b c d : ℕ) → low m a b c d ≡ low m c d a b
low_comm m a b c d = omega (arith, mul_comm a c, ap (λ u. m * u) (mul_comm b d))

pub high_comm : (a b c d : ℕ) → high a b c d ≡ high c d a b
high_comm a b c d = omega (arith, mul_comm a d, mul_comm b c)

-- equal remainders give equal remainders
pub same_low : (p m a b c d a' b' c' d' : ℕ) → a % p ≡ a' % p → b % p ≡ b' % p → c % p ≡ c' % p → d % p ≡ d' % p
    → low m a b c d % p ≡ low m a' b' c' d' % p
same_low p m a b c d a' b' c' d' ea eb ec ed =
    same_sum p (a * c) (m * (b * d)) (a' * c') (m * (b' * d')) (same_product p a c a' c' ea ec)
    (same_product p m (b * d) m (b' * d') refl (same_product p b d b' d' eb ed))

pub same_high : (p a b c d a' b' c' d' : ℕ) → a % p ≡ a' % p → b % p ≡ b' % p → c % p ≡ c' % p → d % p ≡ d' % p
    → high a b c d % p ≡ high a' b' c' d' % p
same_high p a b c d a' b' c' d' ea eb ec ed =
    same_sum p (a * d) (b * c) (a' * d') (b' * c') (same_product p a d a' d' ea ed) (same_product p b c b' c' eb ec)

-- p - b and p - 1 times b are both -b
pub negated : (p b d : ℕ) → 0 < p → b ≤ p → (p - b) * d % p ≡ (p - 1) * (b * d) % p
negated p b d pos h =
    let all : (x y n : ℕ) → n ≤ p → (p - n) * x + n * x ≡ p * x = λ x y n le. sym (add-mul (p - n) n x) ∙ ap (λ u. u * x) (omega arith) in
    cancel p ((p - b) * d) ((p - 1) * (b * d)) (b * d) pos
    (ap (λ u. u % p) (all d d b h) ∙ mul-mod_right p d
    ∙ sym (ap (λ u. ((p - 1) * (b * d) + u) % p) (sym (one-mul (b * d))) ∙ ap (λ u. u % p) (all (b * d) d 1 pos) ∙ mul-mod_right p (b * d)))
