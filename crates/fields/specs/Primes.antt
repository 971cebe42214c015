-- Primes.
--   Prime n    n is at least 2, and no number between 1 and n divides it
--   in_range q q is from 11 to 2,147,483,647: the orders that are served
use Rattle.std.specs.Prelude.{ℕ, ◌%◌, ◌<◌, ◌≤◌, Bool, ◌&&◌, ◌≢◌, nat_le}

abbrev pub Prime : ℕ → Type 0
Prime n = (2 ≤ n) × ((d : ℕ) → 1 < d → d < n → n % d ≢ 0)

abbrev pub in_range : ℕ → Bool
in_range q = nat_le 11 q && nat_le q 2147483647
