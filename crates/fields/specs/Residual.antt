-- Sums and products of remainders.
use Rattle.std.specs.Prelude.{◌≡◌, ℕ, ◌+◌, ◌-◌, ◌*◌, ◌/◌, ◌%◌, ◌<◌, refl}
use Rattle.std.proofs.Common.{sym, ap, ◌∙◌, mod-lt, add-mul, mul_assoc, mul_comm, arith}
use Rattle.std.proofs.Math.Nat.{mod-add-div, mod_self, add-mod-mod, mod-add-mod, add-mul-mod_self_left}

pub mod_mul_mod : (a b m : ℕ) → (a % m) * b % m ≡ a * b % m
mod_mul_mod a b m =
    sym (add-mul-mod_self_left ((a % m) * b) m ((a / m) * b))
    ∙ ap (λ u. u % m) (ap (λ u. (a % m) * b + u) (sym (mul_assoc m (a / m) b)) ∙ sym (add-mul (a % m) (m * (a / m)) b) ∙ ap (λ u. u * b) (mod-add-div a m))

pub mul_mod_mod : (a b m : ℕ) → a * (b % m) % m ≡ a * b % m
mul_mod_mod a b m = ap (λ u. u % m) (mul_comm a (b % m)) ∙ mod_mul_mod b a m ∙ ap (λ u. u % m) (mul_comm b a)

-- equal remainders stay equal under sums and products
pub same_sum : (m a b c d : ℕ) → a % m ≡ c % m → b % m ≡ d % m → (a + b) % m ≡ (c + d) % m
same_sum m a b c d e f =
    sym (mod-add-mod a m b) ∙ ap (λ u. (u + b) % m) e ∙ mod-add-mod c m b
    ∙ sym (add-mod-mod c b m) ∙ ap (λ u. (c + u) % m) f ∙ add-mod-mod c d m

pub same_product : (m a b c d : ℕ) → a % m ≡ c % m → b % m ≡ d % m → (a * b) % m ≡ (c * d) % m
same_product m a b c d e f =
    sym (mod_mul_mod a b m) ∙ ap (λ u. (u * b) % m) e ∙ mod_mul_mod c b m
    ∙ sym (mul_mod_mod c b m) ∙ ap (λ u. (c * u) % m) f ∙ mul_mod_mod c d m

-- a whole turn changes nothing
pub turn : (m a : ℕ) → (a + m) % m ≡ a % m
turn m a = sym (add-mod-mod a m m) ∙ ap (λ u. (a + u) % m) (mod_self m) ∙ ap (λ u. u % m) (omega arith)

-- what is added to both sides can be taken off
pub cancel : (m a b c : ℕ) → 0 < m → (a + c) % m ≡ (b + c) % m → a % m ≡ b % m
cancel m a b c pos e =
    let small : c % m < m = mod-lt c pos in
    let off : (x : ℕ) → (x + c) % m ≡ (x + c % m) % m = λ x. sym (add-mod-mod x c m) in
    let back : (x : ℕ) → (x + c % m) + (m - c % m) ≡ x + m = λ x. omega arith in
    sym (turn m a) ∙ ap (λ u. u % m) (sym (back a))
    ∙ same_sum m (a + c % m) (m - c % m) (b + c % m) (m - c % m) (sym (off a) ∙ e ∙ off b) refl
    ∙ ap (λ u. u % m) (back b) ∙ turn m b
