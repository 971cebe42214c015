-- Sets of leaf kinds. A leaf kind is a homomorphism from keys to images, after Maurer (2009).
--   Key                a pair of scalars, the witness of a leaf; at width 1 the second is 0
--   zeros              the four words 0, 0, 0, 0
--   Kind               one kind: its width (scalars to a key), its images, their product, the neutral image, the image of a key
--   no_kind            what stands at a number that no kind has
--   is_key q n w       w is a key of width n
--   add_keys q v w     keys add scalar by scalar, modulo q
--   images k           the images of a kind under their product
--   KindModel          a set: q, the number of kinds, and the kind at each number, counted from 1
--   KindLaws q k       the laws of one kind
--   Lawful m           the laws of a set
use Rattle.std.specs.Prelude.{◌≡◌, ℕ, ◌<◌, ◌≤◌, Bool, false, cond, ◌&&◌, T, ◌==◌, nat_lt}
use Rattle.fields.specs.Primes.{Prime}
use Rattle.fields.specs.Modular.{sum_mod}
use Rattle.fields.specs.Scalars.{scalar}
use Rattle.fields.specs.declared.scalar.Scalar.{Scalar}
use Rattle.groups.specs.Monoids.{MonoidModel, MonoidLaws, power}
use Rattle.kinds.specs.declared.image.Image.{Image}

abbrev pub Key : Type 0
Key = Scalar × Scalar

abbrev pub zeros : Image
zeros = record { 0 = (0, 0); 1 = (0, 0) }

pub record Kind : Type 0 where
  pub width : ℕ
  pub is_image : Image → Bool
  pub product : Image → Image → Image
  pub neutral : Image
  pub image : Key → Image

abbrev pub no_kind : Kind
no_kind = record { width = 0; is_image = λ _. false; product = λ _ _. zeros; neutral = zeros; image = λ _. zeros }

abbrev pub is_key : ℕ → ℕ → Key → Bool
is_key q n w = nat_lt w.0.0 q && cond (n == 2) (nat_lt w.1.0 q) (n == 1 && w.1.0 == 0)

abbrev pub add_keys : ℕ → Key → Key → Key
add_keys q v w = (scalar (sum_mod q v.0.0 w.0.0), scalar (sum_mod q v.1.0 w.1.0))

abbrev pub images : Kind → MonoidModel Image
images k = record { member = k.is_image; one = k.neutral; times = k.product }

pub record KindModel : Type 0 where
  pub q : ℕ
  pub count : ℕ
  pub kind : ℕ → Kind

pub record KindLaws (q : ℕ) (k : Kind) : Type 0 where
  pub width_low : 1 ≤ k.width
  pub width_high : k.width ≤ 2
  pub neutral_in : T (k.is_image k.neutral)
  pub monoid : MonoidLaws (images k)
  pub exponent : (x : Image) → T (k.is_image x) → power (images k) x q ≡ k.neutral
  pub image_in : (w : Key) → T (is_key q k.width w) → T (k.is_image (k.image w))
  pub adds : (v w : Key) → T (is_key q k.width v) → T (is_key q k.width w) → k.image (add_keys q v w) ≡ k.product (k.image v) (k.image w)
  -- what is no image has no product, and what is no key has no image
  pub no_product : (x y : Image) → (k.is_image x && k.is_image y) ≡ false → k.product x y ≡ zeros
  pub no_key : (w : Key) → is_key q k.width w ≡ false → k.image w ≡ zeros

pub record Lawful (m : KindModel) : Type 0 where
  pub prime : Prime m.q
  pub low : 11 ≤ m.q
  pub high : m.q ≤ 2147483647
  pub few : m.count ≤ 255
  pub each : (n : ℕ) → 1 ≤ n → n ≤ m.count → KindLaws m.q (m.kind n)
  pub none : m.kind 0 ≡ no_kind
  pub others : (n : ℕ) → m.count < n → m.kind n ≡ no_kind
