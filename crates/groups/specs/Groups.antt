-- A commutative group of prime order with two bases, as one value and its laws.
--   GroupModel E     its order, its bases g and h, the two words of an element, the element that two words stand for, if any
--   GroupLaws m p    the laws, over the monoid m of its elements
use Rattle.std.specs.Prelude.{◌≡◌, ℕ, ◌≤◌, T, Some, Option}
use Rattle.fields.specs.Primes.{Prime}
use Rattle.groups.specs.Monoids.{MonoidModel, power}

pub record GroupModel (E : Type 0) : Type 0 where
  pub order : ℕ
  pub base_g : E
  pub base_h : E
  pub words : E → ℕ × ℕ
  pub reads : ℕ × ℕ → Option E

pub record GroupLaws {E : Type 0} (m : MonoidModel E) (p : GroupModel E) : Type 0 where
  pub prime : Prime p.order
  pub low : 11 ≤ p.order
  pub high : p.order ≤ 2147483647
  pub g_in : T (m.member p.base_g)
  pub h_in : T (m.member p.base_h)
  -- every q-th power is neutral
  pub ordered : (x : E) → T (m.member x) → power m x p.order ≡ m.one
  -- the words of an element are read back as it, and whatever is read is an element with these words
  pub reads_words : (x : E) → T (m.member x) → p.reads (p.words x) ≡ Some x
  pub reads_in : (w : ℕ × ℕ) (x : E) → p.reads w ≡ Some x → T (m.member x) × (p.words x ≡ w)
