-- Euclid's steps: remainders keep their common divisors, and each keeps its factor.
use Rattle.std.proofs.Common.{◌≡◌, ℕ, zero, suc, ◌+◌, ◌-◌, ◌*◌, ◌/◌, ◌%◌, ◌<◌, sym, refl, ap, ◌∙◌, mod-lt, mod-eq_of_lt, mul_assoc, mul_comm, add-mul, one-mul, zero-mul, arith}
use native.Mathlib.Nat.{zero-mod, mod_self, div-add-mod}
use native.Mathlib.Decide.{dec_lt}
use Rattle.fields.specs.Primes.{Prime}
use Rattle.fields.specs.Modular.{difference_mod, product_mod}
use Rattle.fields.specs.Residual.{mod_mul_mod, same_sum, same_product, turn, cancel}

-- 1 alone divides both
abbrev pub Coprime : ℕ → ℕ → Type 0
Coprime a b = (k : ℕ) → 0 < k → a % k ≡ 0 → b % k ≡ 0 → k ≡ 1

pub coprime_start : (q d : ℕ) → Prime q → 0 < d → d < q → Coprime q d
coprime_start q d prime p h zero pos e f = absurd (omega arith)
coprime_start q d prime p h (suc zero) pos e f = refl
coprime_start q d prime p h (suc (suc k)) pos e f = go (dec_lt d (suc (suc k)))
  where
    go : Dec (d < suc (suc k)) → suc (suc k) ≡ 1
    go (yes l) = absurd (let z : d ≡ 0 = sym (mod-eq_of_lt l) ∙ f in omega arith)
    go (no l) = absurd (prime.1 (suc (suc k)) (omega arith) (omega arith) e)

pub coprime_step : (a b : ℕ) → Coprime a b → Coprime b (a % b)
coprime_step a b co k pos e f = co k pos whole e
  where
    multiple : b * (a / b) % k ≡ 0 % k
    multiple = sym (mod_mul_mod b (a / b) k) ∙ ap (λ u. u * (a / b) % k) e ∙ ap (λ u. u % k) (zero-mul (a / b))

    whole : a % k ≡ 0
    whole =
        ap (λ u. u % k) (sym (div-add-mod a b)) ∙ same_sum k (b * (a / b)) (a % b) 0 0 multiple (f ∙ sym (zero-mod k)) ∙ zero-mod k

pub coprime_end : (a : ℕ) → 0 < a → Coprime a 0 → a ≡ 1
coprime_end a p co = co a p (mod_self a) (zero-mod a)

-- the factor f times the divisor d is the remainder r times the dividend a
abbrev pub Factor : ℕ → ℕ → ℕ → ℕ → ℕ → Type 0
Factor q d a r f = f * d % q ≡ r * a % q

-- f less `taken`, and `taken` more
off_and_on : (q d f taken : ℕ) → taken < q → ((f + (q - taken)) % q * d + taken * d) % q ≡ f * d % q
off_and_on q d f taken small =
    let back : (f + (q - taken)) + taken ≡ f + q = omega arith in
    same_sum q ((f + (q - taken)) % q * d) (taken * d) ((f + (q - taken)) * d) (taken * d) (mod_mul_mod (f + (q - taken)) d q) refl
    ∙ ap (λ u. u % q) (sym (add-mul (f + (q - taken)) taken d) ∙ ap (λ u. u * d) back)
    ∙ same_product q (f + q) d f d (turn q f) refl

-- r is what is left of it and whole r'
left_and_whole : (a r r' : ℕ) → r % r' * a + (r / r') * (r' * a) ≡ r * a
left_and_whole a r r' =
    let parts : r % r' + (r / r') * r' ≡ r = let c = mul_comm (r / r') r' in let w = div-add-mod r r' in omega arith in
    ap (λ u. r % r' * a + u) (sym (mul_assoc (r / r') r' a)) ∙ sym (add-mul (r % r') ((r / r') * r') a) ∙ ap (λ u. u * a) parts

pub factor_step : (q d a r f r' f' : ℕ) → 0 < q → Factor q d a r f → Factor q d a r' f'
    → Factor q d a (r % r') (difference_mod q f (product_mod q (r / r') f'))
factor_step q d a r f r' f' pos old new =
    let taken = (r / r') * f' % q in
    let moved : taken * d % q ≡ (r / r') * (r' * a) % q =
    mod_mul_mod ((r / r') * f') d q ∙ ap (λ u. u % q) (mul_assoc (r / r') f' d) ∙ same_product q (r / r') (f' * d) (r / r') (r' * a) refl new in
    let right : (r % r' * a + taken * d) % q ≡ r * a % q =
    same_sum q (r % r' * a) (taken * d) (r % r' * a) ((r / r') * (r' * a)) refl moved ∙ ap (λ u. u % q) (left_and_whole a r r') in
    cancel q ((f + (q - taken)) % q * d) (r % r' * a) (taken * d) pos
    (off_and_on q d f taken (mod-lt ((r / r') * f') pos) ∙ old ∙ sym right)

pub factor_end : (q d a r f : ℕ) → a < q → r ≡ 1 → Factor q d a r f → f * d % q ≡ a
factor_end q d a r f h one e = e ∙ ap (λ u. u * a % q) one ∙ ap (λ u. u % q) (one-mul a) ∙ mod-eq_of_lt h
