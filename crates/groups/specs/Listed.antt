-- The numbers that groups are made of.
--   listed_order q     q is 11, 13, 331 or 166,667
--   listed_modulus p   p is 23, 43, 53, 103, 2,647, 1,000,003, 2,000,003 or 2,147,483,647
--   number_refusal q p why no group has the order q and the modulus p, as far as the two lists tell
use Rattle.std.specs.Prelude.{ℕ, Bool, ◌||◌, [], ◌∷◌, Option, ◌==◌}
use Rattle.refusals.specs.declared.Refusal.{Refusal}
use Rattle.refusals.specs.declared.Refusal.TheVariants.{OutOfRange, NotListed}
use Rattle.refusals.specs.declared.Parameter.TheVariants.{Order, Modulus}
use Rattle.refusals.specs.Checks.{unless, first}
use Rattle.fields.specs.Primes.{in_range}

abbrev pub listed_order : ℕ → Bool
listed_order q = q == 11 || (q == 13 || (q == 331 || q == 166667))

abbrev pub listed_modulus : ℕ → Bool
listed_modulus p =
    (p == 23) || (p == 43 || (p == 53 || (p == 103 || (p == 2647 || (p == 1000003 || (p == 2000003 || p == 2147483647))))))

abbrev pub number_refusal : ℕ → ℕ → Option Refusal
number_refusal q p =
    first (unless (in_range q) (OutOfRange Order) ∷ unless (in_range p) (OutOfRange Modulus)
    ∷ unless (listed_order q) (NotListed Order) ∷ unless (listed_modulus p) (NotListed Modulus) ∷ [])
