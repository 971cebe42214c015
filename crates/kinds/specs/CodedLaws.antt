-- The images of a coded kind keep the laws of the elements that they stand for.
use Rattle.std.specs.Prelude.{◌≡◌, ℕ, zero, suc, ◌<◌, ◌≤◌, false, ◌&&◌, T, is_some, Some, None, Option}
use Rattle.std.proofs.Math.Path.{refl, ap}
use Rattle.std.proofs.Common.{sym, ap₂, subst, ◌∙◌}
use Rattle.std.proofs.lemmas.Bool.{cond-false}
use Rattle.groups.specs.Monoids.{MonoidModel, MonoidLaws, power}
use Rattle.groups.specs.Powers.{power_in}
use Rattle.groups.specs.Passing.{picks}
use Rattle.kinds.specs.Kinds.{Key, zeros, Kind, images, is_key, add_keys, KindLaws}
use Rattle.kinds.specs.Coded.{Coding, combined, coded}
use Rattle.kinds.specs.declared.image.Image.{Image}
use Rattle.kinds.specs.Keys.{key_adds}

-- what is written is read back, and what is read is an element that is written so
pub record CodingLaws {E : Type 0} (m : MonoidModel E) (c : Coding E) : Type 0 where
  pub reads : (x : E) → T (m.member x) → c.decode (c.encode x) ≡ Some x
  pub inside : (i : Image) (x : E) → c.decode i ≡ Some x → T (m.member x)
  pub writes : (i : Image) (x : E) → c.decode i ≡ Some x → c.encode x ≡ i

-- what a key opens: an element, and sums open products
pub record Opening {E : Type 0} (q n : ℕ) (m : MonoidModel E) (open' : Key → E) : Type 0 where
  pub inside : (w : Key) → T (is_key q n w) → T (m.member (open' w))
  pub adds : (v w : Key) → T (is_key q n v) → T (is_key q n w) → open' (add_keys q v w) ≡ m.times (open' v) (open' w)

found : {E : Type 0} (o : Option E) → T (is_some o) → (x : E) × (o ≡ Some x)
found None t = absurd t
found (Some x) t = (x, refl)

unread : {E : Type 0} (m : MonoidModel E) (c : Coding E) (a b : Option E) → (is_some a && is_some b) ≡ false → combined m c a b ≡ zeros
unread m c None b e = refl
unread m c (Some x) None e = refl
unread m c (Some x) (Some y) e = cc

module _ {E : Type 0} {m : MonoidModel E} {c : Coding E} (laws : MonoidLaws m) (codes : CodingLaws m c) (q n : ℕ) (open' : Key → E) where
  abbrev kind : Kind
  kind = coded q n m c open'

  abbrev Is : Image → E → Type 0
  Is i x = c.decode i ≡ Some x

  element : (i : Image) → T (kind.is_image i) → (x : E) × Is i x
  element i h = found (c.decode i) h

  written : (x : E) → T (m.member x) → T (kind.is_image (c.encode x))
  written x h = subst (λ o. T (is_some o)) (sym (codes.reads x h)) tt

  times_is : (i j : Image) (x y : E) → Is i x → Is j y → kind.product i j ≡ c.encode (m.times x y)
  times_is i j x y e f = ap₂ (combined m c) e f

  times_read : (i j : Image) (x y : E) → Is i x → Is j y → Is (kind.product i j) (m.times x y)
  times_read i j x y e f = ap c.decode (times_is i j x y e f) ∙ codes.reads (m.times x y) (laws.times_in x y (codes.inside i x e) (codes.inside j y f))

  images_monoid : T (m.member m.one) → MonoidLaws (images kind)
  images_monoid one = record {
    one_in = λ _ _. written m.one one;
    times_in = λ i j hi hj.
        let x = element i hi in
        let y = element j hj in
        subst (λ o. T (is_some o)) (sym (times_read i j x.0 y.0 x.1 y.1)) tt;
    assoc = λ i j k hi hj hk.
        let x = element i hi in
        let y = element j hj in
        let z = element k hk in
        times_is (kind.product i j) k (m.times x.0 y.0) z.0 (times_read i j x.0 y.0 x.1 y.1) z.1
        ∙ ap c.encode (laws.assoc x.0 y.0 z.0 (codes.inside i x.0 x.1) (codes.inside j y.0 y.1) (codes.inside k z.0 z.1))
        ∙ sym (times_is i (kind.product j k) x.0 (m.times y.0 z.0) x.1 (times_read j k y.0 z.0 y.1 z.1));
    comm = λ i j hi hj.
        let x = element i hi in
        let y = element j hj in
        times_is i j x.0 y.0 x.1 y.1 ∙ ap c.encode (laws.comm x.0 y.0 (codes.inside i x.0 x.1) (codes.inside j y.0 y.1))
        ∙ sym (times_is j i y.0 x.0 y.1 x.1);
    one_left = λ i hi.
        let x = element i hi in
        times_is (c.encode m.one) i m.one x.0 (codes.reads m.one one) x.1
        ∙ ap c.encode (laws.one_left x.0 (codes.inside i x.0 x.1)) ∙ codes.writes i x.0 x.1;
  }

  -- a power of an image is the image of a power
  image_power : (i : Image) (x : E) → Is i x → (k : ℕ) → power (images kind) i k ≡ c.encode (power m x k)
  unfolding power
  image_power i x e zero = refl
  image_power i x e (suc k) =
      ap (kind.product i) (image_power i x e k)
      ∙ times_is i (c.encode (power m x k)) x (power m x k) e (codes.reads (power m x k) (power_in laws x k (codes.inside i x e)))

  pub coded_laws : T (m.member m.one) → 0 < q → 1 ≤ n → n ≤ 2 → ((x : E) → T (m.member x) → power m x q ≡ m.one) → Opening q n m open'
      → KindLaws q (coded q n m c open')
  coded_laws one pos low high turns opening = record {
    width_low = low;
    width_high = high;
    neutral_in = written m.one one;
    monoid = images_monoid one;
    exponent = λ i h.
        let x = element i h in
        image_power i x.0 x.1 q ∙ ap c.encode (turns x.0 (codes.inside i x.0 x.1));
    image_in = λ w h. subst (λ i. T (is_some (c.decode i))) (sym (picks (is_key q n w) (c.encode (open' w)) zeros h)) (written (open' w) (opening.inside w h));
    adds = λ v w h k.
        let im : (u : Key) → T (is_key q n u) → kind.image u ≡ c.encode (open' u) = λ u t. picks (is_key q n u) (c.encode (open' u)) zeros t in
        let rd : (u : Key) → T (is_key q n u) → Is (kind.image u) (open' u) = λ u t. ap c.decode (im u t) ∙ codes.reads (open' u) (opening.inside u t) in
        im (add_keys q v w) (key_adds q n pos v w h k) ∙ ap c.encode (opening.adds v w h k)
        ∙ sym (times_is (kind.image v) (kind.image w) (open' v) (open' w) (rd v h) (rd w k));
    no_product = λ i j e. unread m c (c.decode i) (c.decode j) e;
    no_key = λ w e. cond-false (is_key q n w) (c.encode (open' w)) zeros e;
  }
