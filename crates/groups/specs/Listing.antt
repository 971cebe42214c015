-- The listed orders are primes in range.
use Rattle.std.specs.Prelude.{ℕ, ◌≤◌, Bool, true, false, ◌||◌, T, ◌==◌, nat_le}
use Rattle.std.proofs.Common.{sym, subst, eqb→eq, leb→le}
use Rattle.std.specs.Float.Ieee.Fits.{and_l, and_r}
use Rattle.refusals.specs.declared.Refusal.TheVariants.{OutOfRange, NotListed}
use Rattle.refusals.specs.declared.Parameter.TheVariants.{Order, Modulus}
use Rattle.fields.specs.Primes.{Prime, in_range}
use Rattle.fields.proofs.Primality.{prime_11, prime_13, prime_331, prime_166667}
use Rattle.groups.specs.Listed.{listed_order, number_refusal}
use Rattle.groups.specs.Passing.{Quiet, passes}

either : {X : Type 0} (a b : Bool) → T (a || b) → (T a → X) → (T b → X) → X
either true b t f g = f tt
either false b t f g = g t

moved : (q n : ℕ) → Prime n → T (q == n) → Prime q
moved q n h e = subst (λ k. Prime k) (sym (eqb→eq q n e)) h

pub listed_prime : (q : ℕ) → T (listed_order q) → Prime q
listed_prime q t =
    either (q == 11) (q == 13 || (q == 331 || q == 166667)) t (moved q 11 prime_11)
    (λ u. either (q == 13) (q == 331 || q == 166667) u (moved q 13 prime_13)
    (λ v. either (q == 331) (q == 166667) v (moved q 331 prime_331) (moved q 166667 prime_166667)))

pub record Numbers (q p : ℕ) : Type 0 where
  pub prime : Prime q
  pub low : 11 ≤ q
  pub high : q ≤ 2147483647
  pub modulus_low : 11 ≤ p
  pub modulus_high : p ≤ 2147483647

pub numbers : (q p : ℕ) → Quiet (number_refusal q p) → Numbers q p
numbers q p t =
    let a = passes (in_range q) (OutOfRange Order) _ t in
    let b = passes (in_range p) (OutOfRange Modulus) _ a.1 in
    let c = passes (listed_order q) (NotListed Order) _ b.1 in
    record {
      prime = listed_prime q c.0;
      low = leb→le 11 q (and_l (nat_le 11 q) (nat_le q 2147483647) a.0);
      high = leb→le q 2147483647 (and_r (nat_le 11 q) (nat_le q 2147483647) a.0);
      modulus_low = leb→le 11 p (and_l (nat_le 11 p) (nat_le p 2147483647) b.0);
      modulus_high = leb→le p 2147483647 (and_r (nat_le 11 p) (nat_le p 2147483647) b.0);
    }
