-- The multiples are a lawful set.
use Rattle.std.specs.Prelude.{◌≡◌, ℕ, zero, suc, ◌+◌, ◌*◌, ◌%◌, ◌<◌, ◌≤◌, ◌&&◌, T, nat_le, nat_lt, refl}
use Rattle.std.proofs.Common.{sym, ap₂, subst, ◌∙◌, mod-lt, mod-eq_of_lt, add_assoc, add_comm, add-mul, lit≤, lt→ltb, le→leb}
use Rattle.std.proofs.Math.Path.{ap}
use Rattle.std.proofs.Math.Nat.{add-mod-mod, mod-add-mod, zero-mod}
use native.Mathlib.Omega.{arith}
use Rattle.std.specs.Float.Ieee.Fits.{and_i}
use Rattle.std.proofs.lemmas.Bool.{cond-false, and_right, lt-leb}
use Rattle.fields.specs.Primes.{Prime}
use Rattle.fields.specs.Modular.{sum_mod, product_mod}
use Rattle.fields.specs.Residual.{mod_mul_mod}
use Rattle.groups.specs.Monoids.{MonoidLaws, power}
use Rattle.groups.specs.Passing.{picks}
use Rattle.kinds.specs.Kinds.{Key, zeros, Kind, no_kind, images, is_key, add_keys, KindLaws, Lawful}
use Rattle.kinds.specs.declared.image.Image.{Image}
use Rattle.kinds.specs.Keys.{key_adds}
use Rattle.stranger.specs.Multiples.{written, is_written, multiples, multiples_set}
use Rattle.stranger.specs.Numbers.{below, written_in, same, one_more, whole}

module _ (q : ℕ) (pos : 0 < q) (b : ℕ) where
  abbrev kind : Kind
  kind = multiples q b

  abbrev Is : Image → Type 0
  Is x = T (is_written q x)

  sum_in : (n : ℕ) → Is (written (n % q))
  sum_in n = written_in q (n % q) (mod-lt n pos)

  sum_is : (x y : Image) → Is x → Is y → kind.product x y ≡ written (sum_mod q x.0.0 y.0.0)
  sum_is x y h k = picks (is_written q x && is_written q y) _ zeros (and_i (is_written q x) (is_written q y) h k)

  product_in : (x y : Image) → Is x → Is y → Is (kind.product x y)
  product_in x y h k = subst Is (sym (sum_is x y h k)) (sum_in (x.0.0 + y.0.0))

  sums : MonoidLaws (images kind)
  sums = record {
    one_in = λ _ _. written_in q 0 pos;
    times_in = product_in;
    assoc = λ x y z hx hy hz.
        ap (λ u. kind.product u z) (sum_is x y hx hy) ∙ sum_is (written (sum_mod q x.0.0 y.0.0)) z (sum_in (x.0.0 + y.0.0)) hz
        ∙ ap written (mod-add-mod (x.0.0 + y.0.0) q z.0.0 ∙ ap (λ n. n % q) (add_assoc x.0.0 y.0.0 z.0.0) ∙ sym (add-mod-mod x.0.0 (y.0.0 + z.0.0) q))
        ∙ sym (ap (kind.product x) (sum_is y z hy hz) ∙ sum_is x (written (sum_mod q y.0.0 z.0.0)) hx (sum_in (y.0.0 + z.0.0)));
    comm = λ x y hx hy. sum_is x y hx hy ∙ ap (λ n. written (n % q)) (add_comm x.0.0 y.0.0) ∙ sym (sum_is y x hy hx);
    one_left = λ x h.
        sum_is zeros x (written_in q 0 pos) h ∙ ap written (ap (λ n. n % q) (let e : 0 + x.0.0 ≡ x.0.0 = omega arith in e) ∙ mod-eq_of_lt (below q x h)) ∙ same q x h;
  }

  nth : (x : Image) → Is x → (n : ℕ) → power (images kind) x n ≡ written (n * x.0.0 % q)
  unfolding power
  nth x h zero = ap written (sym (ap (λ n. n % q) (let e : 0 * x.0.0 ≡ 0 = omega arith in e) ∙ zero-mod q))
  nth x h (suc n) =
      ap (kind.product x) (nth x h n) ∙ sum_is x (written (n * x.0.0 % q)) h (sum_in (n * x.0.0)) ∙ ap written (one_more q n x.0.0)

  image_is : (w : Key) → T (is_key q 1 w) → kind.image w ≡ written (product_mod q w.0.0 b)
  image_is w h = picks (is_key q 1 w) _ zeros h

  image_in : (w : Key) → T (is_key q 1 w) → Is (kind.image w)
  image_in w h = subst Is (sym (image_is w h)) (sum_in (w.0.0 * b))

  adds : (v w : Key) → T (is_key q 1 v) → T (is_key q 1 w) → kind.image (add_keys q v w) ≡ kind.product (kind.image v) (kind.image w)
  adds v w h k =
      image_is (add_keys q v w) (key_adds q 1 pos v w h k)
      ∙ ap written (mod_mul_mod (v.0.0 + w.0.0) b q ∙ ap (λ n. n % q) (add-mul v.0.0 w.0.0 b)
      ∙ sym (mod-add-mod (v.0.0 * b) q (product_mod q w.0.0 b) ∙ add-mod-mod (v.0.0 * b) (w.0.0 * b) q))
      ∙ sym (ap₂ kind.product (image_is v h) (image_is w k) ∙ sum_is (written (product_mod q v.0.0 b)) (written (product_mod q w.0.0 b)) (sum_in (v.0.0 * b)) (sum_in (w.0.0 * b)))

  multiples_laws : KindLaws q (multiples q b)
  multiples_laws = record {
    width_low = lit≤ tt;
    width_high = lit≤ tt;
    neutral_in = written_in q 0 pos;
    monoid = sums;
    exponent = λ x h. nth x h q ∙ ap written (whole q x.0.0);
    image_in = image_in;
    adds = adds;
    no_product = λ x y e. cond-false (is_written q x && is_written q y) _ zeros e;
    no_key = λ w e. cond-false (is_key q 1 w) _ zeros e;
  }

module _ (q g n : ℕ) (prime : Prime q) (low : 11 ≤ q) (high : q ≤ 2147483647) (few : n ≤ 255) where
  pos : 0 < q
  pos = omega arith

  pub multiples_lawful : Lawful (multiples_set q g n)
  multiples_lawful = record {
    prime = prime;
    low = low;
    high = high;
    few = few;
    each = λ k one last.
        subst (KindLaws q) (sym (picks (nat_lt 0 k && nat_le k n) (multiples q (product_mod q k g)) no_kind (and_i (nat_lt 0 k) (nat_le k n) (lt→ltb 0 k (omega arith)) (le→leb k n last))))
        (multiples_laws q pos (product_mod q k g));
    none = refl;
    others = λ k past. cond-false (nat_lt 0 k && nat_le k n) (multiples q (product_mod q k g)) no_kind (and_right (nat_lt 0 k) (nat_le k n) (lt-leb k n past));
  }
