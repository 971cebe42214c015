-- Leaves: forking, simulating and answering, from the laws of one kind alone.
use Rattle.std.proofs.Common.{◌≡◌, ℕ, zero, suc, ◌+◌, ◌-◌, ◌*◌, ◌%◌, ◌<◌, ◌≤◌, T, ltb, sym, ap, ◌∙◌, ap₂, suc-mul, add_comm, mul-zero, zero-mul, mul-suc, arith, ltb→lt, lt→ltb}
use native.Mathlib.Nat.{zero-mod, add-mod-mod}
use Rattle.fields.specs.Primes.{Prime}
use Rattle.fields.specs.Fields.{FieldLaws, minus}
use Rattle.fields.specs.Scalars.{scalar, scalars_model}
use Rattle.fields.specs.declared.scalar.Scalar.{Scalar}
use Rattle.fields.specs.ScalarLaws.{scalar_laws}
use Rattle.groups.specs.Monoids.{MonoidModel, MonoidLaws, power}
use Rattle.groups.specs.Powers.{power_in, one_right, power_suc, power_zero, power_add}
use Rattle.groups.proofs.Exponents.{power_mod, power_sum}
use Rattle.kinds.specs.Kinds.{Key, Kind, is_key, add_keys, images, KindLaws}
use Rattle.kinds.specs.declared.image.Image.{Image}
use Rattle.releases.specs.Keys.{sub_keys, scale_key}
use Rattle.releases.specs.Forks.{Quotient}
use Rattle.releases.proofs.Arithmetic.{minus_in, minus_plus, minus_apart, times_zero, cancel_times}
use Rattle.releases.proofs.KeyLaws.{Fits, zero_key, add_key, sub_key, scaled_key, key_fits, fits_key, key_back}

-- a power of a power
power_power : {E : Type 0} {m : MonoidModel E} (laws : MonoidLaws m) (x : E) (a b : ℕ) → T (m.member x) → power m (power m x a) b ≡ power m x (a * b)
power_power {m = m} laws x a zero h = power_zero laws (power m x a) ∙ sym (ap (power m x) (mul-zero a) ∙ power_zero laws x)
power_power {m = m} laws x a (suc b) h =
    power_suc laws (power m x a) b ∙ ap (m.times (power m x a)) (power_power laws x a b h) ∙ sym (power_add laws x a (a * b) h)
    ∙ ap (power m x) (add_comm a (a * b) ∙ sym (mul-suc a b))

module _ (q : ℕ) (prime : Prime q) (eleven : 11 ≤ q) (k : Kind) (law : KindLaws q k) where
  abbrev In : Image → Type 0
  In x = T (k.is_image x)

  abbrev IsKey : Key → Type 0
  IsKey w = T (is_key q k.width w)

  abbrev raised : Image → ℕ → Image
  raised x c = power (images k) x c

  pos : 0 < q
  pos = omega arith

  pub scalars : FieldLaws (scalars_model q)
  scalars = scalar_laws q prime eleven

  fits : (w : Key) → IsKey w → Fits q k.width w
  fits w h = key_fits q k.width pos law.width_low law.width_high w h

  back : (w : Key) → Fits q k.width w → IsKey w
  back w h = fits_key q k.width pos law.width_low law.width_high w h

  pub add_in : (v w : Key) → IsKey v → IsKey w → IsKey (add_keys q v w)
  add_in v w h g = back (add_keys q v w) (add_key q k.width pos law.width_low law.width_high v w (fits v h) (fits w g))

  pub sub_in : (v w : Key) → IsKey v → IsKey w → IsKey (sub_keys q v w)
  sub_in v w h g = back (sub_keys q v w) (sub_key q k.width pos law.width_low law.width_high v w (fits v h) (fits w g))

  pub scale_in : (c : Scalar) (w : Key) → IsKey w → IsKey (scale_key q c w)
  scale_in c w h = back (scale_key q c w) (scaled_key q k.width pos law.width_low law.width_high c w (fits w h))

  pub raised_in : (x : Image) (c : ℕ) → In x → In (raised x c)
  raised_in x c h = power_in law.monoid x c h

  -- x to the power of q - 1 undoes x
  inverse_right : (x : Image) → In x → k.product x (raised x (q - 1)) ≡ k.neutral
  inverse_right x h =
      let e : suc (q - 1) ≡ q = omega arith in
      sym (power_suc law.monoid x (q - 1)) ∙ ap (raised x) e ∙ law.exponent x h

  cancel_right : (x u v : Image) → In x → In u → In v → k.product u x ≡ k.product v x → u ≡ v
  cancel_right x u v hx hu hv e =
      let i = raised x (q - 1) in
      let hi = raised_in x (q - 1) hx in
      let off : (w : Image) → In w → k.product (k.product w x) i ≡ w =
      λ w hw. law.monoid.assoc w x i hw hx hi ∙ ap (k.product w) (inverse_right x hx) ∙ one_right law.monoid w hw in
      sym (off u hu) ∙ ap (λ y. k.product y i) e ∙ off v hv

  -- images of keys
  zero_is_key : IsKey (scalar 0, scalar 0)
  zero_is_key = back (scalar 0, scalar 0) (zero_key q k.width pos law.width_low law.width_high)

  image_zero : k.image (scalar 0, scalar 0) ≡ k.neutral
  image_zero =
      let z = k.image (scalar 0, scalar 0) in
      let hz = law.image_in (scalar 0, scalar 0) zero_is_key in
      let twice : add_keys q (scalar 0, scalar 0) (scalar 0, scalar 0) ≡ (scalar 0, scalar 0) = ap₂ (λ a b. (scalar a, scalar b)) (zero-mod q) (zero-mod q) in
      cancel_right z z k.neutral hz hz law.neutral_in
      (sym (law.adds (scalar 0, scalar 0) (scalar 0, scalar 0) zero_is_key zero_is_key) ∙ ap k.image twice ∙ sym (law.monoid.one_left z hz))

  scale_zero : (w : Key) → scale_key q (scalar 0) w ≡ (scalar 0, scalar 0)
  scale_zero w =
      ap₂ (λ a b. (scalar a, scalar b)) (ap (λ u. u % q) (zero-mul w.0.0) ∙ zero-mod q) (ap (λ u. u % q) (zero-mul w.1.0) ∙ zero-mod q)

  times_suc : (n a : ℕ) → suc n * a % q ≡ (a + n * a % q) % q
  times_suc n a = ap (λ u. u % q) (suc-mul n a ∙ add_comm (n * a) a) ∙ sym (add-mod-mod a (n * a) q)

  scale_suc : (n : ℕ) (w : Key) → scale_key q (scalar (suc n)) w ≡ add_keys q w (scale_key q (scalar n) w)
  scale_suc n w = ap₂ (λ a b. (scalar a, scalar b)) (times_suc n w.0.0) (times_suc n w.1.0)

  image_scale : (c : ℕ) (w : Key) → IsKey w → k.image (scale_key q (scalar c) w) ≡ raised (k.image w) c
  image_scale zero w h = ap k.image (scale_zero w) ∙ image_zero ∙ sym (power_zero law.monoid (k.image w))
  image_scale (suc c) w h =
      ap k.image (scale_suc c w) ∙ law.adds w (scale_key q (scalar c) w) h (scale_in (scalar c) w h)
      ∙ ap (k.product (k.image w)) (image_scale c w h) ∙ sym (power_suc law.monoid (k.image w) c)

  -- powers by scalars that undo each other
  root_of : (x : Image) → In x → (c i : Scalar) → (scalars_model q).times c i ≡ scalar 1 → raised (raised x c.0) i.0 ≡ x
  root_of x h c i e =
      power_power law.monoid x c.0 i.0 h ∙ sym (power_mod law.monoid q x h (law.exponent x h) (c.0 * i.0))
      ∙ ap (λ (z : Scalar). raised x z.0) e ∙ power_suc law.monoid x 0 ∙ ap (k.product x) (power_zero law.monoid x) ∙ one_right law.monoid x h

  module _ (s : Image) (image-s : In s) where
    split_power : (c c' : Scalar) → T (ltb c.0 q) → T (ltb c'.0 q)
        → raised s c.0 ≡ k.product (raised s (minus (scalars_model q) c c').0) (raised s c'.0)
    split_power c c' h h' =
        let d = minus (scalars_model q) c c' in
        ap (λ (z : Scalar). raised s z.0) (sym (minus_plus scalars c c' h h')) ∙ power_sum law.monoid q s image-s (law.exponent s image-s) d.0 c'.0

    -- two responses to one commitment differ by a key of the power of the statement
    difference_image : (a : Image) → In a → (c c' : Scalar) → T (ltb c.0 q) → T (ltb c'.0 q) → (r r' : Key) → IsKey r → IsKey r'
        → k.image r ≡ k.product a (raised s c.0) → k.image r' ≡ k.product a (raised s c'.0)
        → k.image (sub_keys q r r') ≡ raised s (minus (scalars_model q) c c').0
    difference_image a ha c c' hc hc' r r' hr hr' e e' =
        let d = sub_keys q r r' in
        let hd = sub_in r r' hr hr' in
        let x = (minus (scalars_model q) c c').0 in
        let S = raised s x in
        let S' = raised s c'.0 in
        let hS = raised_in s x image-s in
        let hS' = raised_in s c'.0 image-s in
        cancel_right (k.product a S') (k.image d) S (law.monoid.times_in a S' ha hS') (law.image_in d hd) hS
        (ap (k.product (k.image d)) (sym e') ∙ sym (law.adds d r' hd hr')
        ∙ ap k.image (key_back q k.width pos law.width_low law.width_high scalars r r' (fits r hr) (fits r' hr'))
        ∙ e ∙ ap (k.product a) (split_power c c' hc hc')
        ∙ sym (law.monoid.assoc a S S' ha hS hS') ∙ ap (λ u. k.product u S') (law.monoid.comm a S ha hS) ∙ law.monoid.assoc S a S' hS ha hS')

    quotient_key : (c c' : Scalar) → ¬ (minus (scalars_model q) c c' ≡ scalar 0) → T (ltb c.0 q) → T (ltb c'.0 q)
        → (r r' x : Key) → IsKey r → IsKey r' → Quotient q c c' r r' x → IsKey x
    quotient_key c c' ne hc hc' r r' x hr hr' o =
        back x (record {
          first = o.first;
          second = o.second;
          narrow = λ one.
              ap (λ (z : Scalar). z.0)
              (cancel_times scalars d x.1 (scalar 0) (minus_in scalars c c' hc hc') (lt→ltb x.1.0 q o.second) scalars.zero_in ne
              (ap (λ (w : Key). w.1) o.product
              ∙ ap scalar ((sub_key q k.width pos law.width_low law.width_high r r' (fits r hr) (fits r' hr')).narrow one)
              ∙ sym (times_zero scalars d (minus_in scalars c c' hc hc'))));
        })
      where
        d : Scalar
        d = minus (scalars_model q) c c'

    -- two responses to one commitment give the key
    pub fork_leaf : (a : Image) → In a → (c c' : Scalar) → T (ltb c.0 q) → T (ltb c'.0 q) → ¬ (c ≡ c') → (r r' x : Key) → IsKey r → IsKey r'
        → k.image r ≡ k.product a (raised s c.0) → k.image r' ≡ k.product a (raised s c'.0) → Quotient q c c' r r' x → IsKey x × (k.image x ≡ s)
    fork_leaf a ha c c' hc hc' ne r r' x hr hr' e e' o =
        let d = minus (scalars_model q) c c' in
        let away = minus_apart scalars c c' hc hc' ne in
        let hx : IsKey x = quotient_key c c' away hc hc' r r' x hr hr' o in
        let i = scalars.inverse d (minus_in scalars c c' hc hc') away in
        let same : raised (k.image x) d.0 ≡ raised s d.0 =
        sym (image_scale d.0 x hx) ∙ ap k.image o.product ∙ difference_image a ha c c' hc hc' r r' hr hr' e e' in
        (hx, sym (root_of (k.image x) (law.image_in x hx) d i.0 i.2) ∙ ap (λ u. raised u i.0.0) same ∙ root_of s image-s d i.0 i.2)

    -- the commitment that fits a response and a challenge
    abbrev fitting : Key → Scalar → Image
    fitting r c = k.product (k.image r) (raised s (q - c.0))

    pub fitting_in : (r : Key) → IsKey r → (c : Scalar) → In (fitting r c)
    fitting_in r hr c = law.monoid.times_in (k.image r) (raised s (q - c.0)) (law.image_in r hr) (raised_in s (q - c.0) image-s)

    pub simulate_leaf : (r : Key) → IsKey r → (c : Scalar) → T (ltb c.0 q) → k.image r ≡ k.product (fitting r c) (raised s c.0)
    simulate_leaf r hr c h =
        let below : c.0 < q = ltb→lt c.0 q h in
        let i = k.image r in
        let hi = law.image_in r hr in
        let around : (q - c.0) + c.0 ≡ q = omega arith in
        sym (one_right law.monoid i hi)
        ∙ ap (k.product i) (sym (sym (power_add law.monoid s (q - c.0) c.0 image-s) ∙ ap (raised s) around ∙ law.exponent s image-s))
        ∙ sym (law.monoid.assoc i (raised s (q - c.0)) (raised s c.0) hi (raised_in s (q - c.0) image-s) (raised_in s c.0 image-s))

    pub only_fitting : (r : Key) → IsKey r → (c : Scalar) → T (ltb c.0 q) → (a : Image) → In a → k.image r ≡ k.product a (raised s c.0) → a ≡ fitting r c
    only_fitting r hr c h a ha e =
        cancel_right (raised s c.0) a (fitting r c) (raised_in s c.0 image-s) ha (fitting_in r hr c) (sym e ∙ simulate_leaf r hr c h)

    -- nonce + challenge · key
    pub answer_leaf : (x y : Key) → IsKey x → IsKey y → k.image x ≡ s → (c : Scalar)
        → k.image (add_keys q y (scale_key q c x)) ≡ k.product (k.image y) (raised s c.0)
    answer_leaf x y hx hy opens c =
        law.adds y (scale_key q c x) hy (scale_in c x hx) ∙ ap (k.product (k.image y)) (image_scale c.0 x hx ∙ ap (λ u. raised u c.0) opens)

    -- the nonce of a response
    abbrev nonce : Key → Scalar → Key → Key
    nonce x c r = sub_keys q r (scale_key q c x)

    pub nonce_back : (x : Key) → IsKey x → (c : Scalar) (r : Key) → IsKey r → r ≡ add_keys q (nonce x c r) (scale_key q c x)
    nonce_back x hx c r hr =
        sym (key_back q k.width pos law.width_low law.width_high scalars r (scale_key q c x) (fits r hr) (fits (scale_key q c x) (scale_in c x hx)))

    pub nonce_image : (x : Key) → IsKey x → k.image x ≡ s → (c : Scalar) (r : Key) → IsKey r → (a : Image) → In a
        → k.image r ≡ k.product a (raised s c.0) → a ≡ k.image (nonce x c r)
    nonce_image x hx opens c r hr a ha e =
        let y = nonce x c r in
        let hy : IsKey y = sub_in r (scale_key q c x) hr (scale_in c x hx) in
        cancel_right (raised s c.0) a (k.image y) (raised_in s c.0 image-s) ha (law.image_in y hy)
        (sym e ∙ ap k.image (nonce_back x hx c r hr) ∙ answer_leaf x y hx hy opens c)
