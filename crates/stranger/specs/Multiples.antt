-- Multiples of a base modulo a prime q as leaf kinds: images are numbers below q, and their product is the sum.
--   written a            the number a as an image: the words a, 0, 0, 0
--   is_written q x       x is a number below q as an image
--   multiples q b        the kind of width 1 whose key (w, 0) has the image w times b
--   multiples_set q g n  n kinds; kind k is that of the base k times g
--   is_base q g          g is from 1 to q - 1
--   Refused q g why      why the set is not made: the first of what is wrong with q, then with g
use Rattle.std.specs.Prelude.{◌≡◌, ℕ, Bool, cond, not, ◌&&◌, T, ◌==◌, nat_le, nat_lt}
use Rattle.refusals.specs.declared.Refusal.{Refusal}
use Rattle.refusals.specs.declared.Refusal.TheVariants.{OutOfRange, NotPrime, UnfitBase}
use Rattle.refusals.specs.declared.Parameter.TheVariants.{Order}
use Rattle.refusals.specs.declared.Base.TheVariants.{First}
use Rattle.fields.specs.Primes.{Prime, in_range}
use Rattle.fields.specs.Modular.{sum_mod, product_mod}
use Rattle.kinds.specs.Kinds.{zeros, Kind, no_kind, is_key, KindModel}
use Rattle.kinds.specs.declared.image.Image.{Image}

abbrev pub written : ℕ → Image
written a = record { 0 = (a, 0); 1 = (0, 0) }

abbrev pub is_written : ℕ → Image → Bool
is_written q x = nat_lt x.0.0 q && (x.0.1 == 0 && (x.1.0 == 0 && x.1.1 == 0))

abbrev pub multiples : ℕ → ℕ → Kind
multiples q b = record {
  width = 1;
  is_image = is_written q;
  product = λ x y. cond (is_written q x && is_written q y) (written (sum_mod q x.0.0 y.0.0)) zeros;
  neutral = zeros;
  image = λ w. cond (is_key q 1 w) (written (product_mod q w.0.0 b)) zeros;
}

abbrev pub multiples_set : ℕ → ℕ → ℕ → KindModel
multiples_set q g n = record {
  q = q;
  count = n;
  kind = λ k. cond (nat_lt 0 k && nat_le k n) (multiples q (product_mod q k g)) no_kind;
}

abbrev pub is_base : ℕ → ℕ → Bool
is_base q g = nat_lt 0 g && nat_lt g q

pub record Refused (q g : ℕ) (why : Refusal) : Type 0 where
  pub out_of_range : T (not (in_range q)) → why ≡ OutOfRange Order
  pub no_prime : T (in_range q) → (Prime q → ⊥) → why ≡ NotPrime
  pub no_base : T (in_range q) → Prime q → (why ≡ UnfitBase First) × T (not (is_base q g))
