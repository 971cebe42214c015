-- What a group of prime order is cut from, as one value, and the group.
--   AmbientModel E           for each modulus p a product on some of the values of E, which orders fit p, which elements have
--                            a neutral q-th power, which of them is neutral, and the two words of an element
--   Torsion m q element      the elements are the members whose q-th power is neutral
--   elements m element       the elements under the product
--   AmbientLaws a            the laws
--   group_elements a q p     the elements modulo p whose q-th power is neutral, under the product
--   base a q p x             x is such an element, and not the neutral one
--   group_model a q p g h    the group
--   group_refusal a q p g h  why the group is not made
use Rattle.std.specs.Prelude.{◌≡◌, ℕ, ◌<◌, Bool, cond, not, ◌&&◌, T, [], ◌∷◌, Some, None, Option}
use Rattle.refusals.specs.declared.Refusal.{Refusal}
use Rattle.refusals.specs.declared.Refusal.TheVariants.{NoSuchGroup, UnfitBase}
use Rattle.refusals.specs.declared.Base.TheVariants.{First, Second}
use Rattle.refusals.specs.Checks.{unless, first}
use Rattle.groups.specs.Monoids.{MonoidModel, MonoidLaws, power}
use Rattle.groups.specs.Groups.{GroupModel}
use Rattle.groups.specs.Listed.{number_refusal}

pub record AmbientModel (E : Type 0) : Type 0 where
  -- of the modulus
  pub product : ℕ → MonoidModel E
  -- of an order and the modulus
  pub fits : ℕ → ℕ → Bool
  pub element : ℕ → ℕ → E → Bool
  pub is_one : E → Bool
  pub words : E → ℕ × ℕ
  -- the value that is written as two words, if there is one
  pub read : ℕ × ℕ → Option E

-- `element` is membership and a neutral q-th power
pub record Torsion {E : Type 0} (m : MonoidModel E) (q : ℕ) (element : E → Bool) : Type 0 where
  pub inside : (x : E) → T (element x) → T (m.member x)
  pub turns : (x : E) → T (element x) → power m x q ≡ m.one
  pub back : (x : E) → T (m.member x) → power m x q ≡ m.one → T (element x)

abbrev pub elements : {E : Type 0} → MonoidModel E → (E → Bool) → MonoidModel E
elements m element = record { member = element; one = m.one; times = m.times }

pub record AmbientLaws {E : Type 0} (a : AmbientModel E) : Type 0 where
  pub multiplies : (p : ℕ) → 1 < p → MonoidLaws (a.product p)
  -- an element is one whose q-th power is neutral
  pub turns : (q p : ℕ) → 0 < q → 1 < p → Torsion (a.product p) q (a.element q p)
  -- one value is neutral, whatever the modulus
  pub neutral : (p : ℕ) → T (a.is_one (a.product p).one)
  pub only : (p : ℕ) (x : E) → T (a.is_one x) → x ≡ (a.product p).one
  -- words and values stand for each other
  pub reads_words : (x : E) → a.read (a.words x) ≡ Some x
  pub reads_in : (w : ℕ × ℕ) (x : E) → a.read w ≡ Some x → a.words x ≡ w

abbrev pub group_elements : {E : Type 0} → AmbientModel E → ℕ → ℕ → MonoidModel E
group_elements a q p = elements (a.product p) (a.element q p)

abbrev pub base : {E : Type 0} → AmbientModel E → ℕ → ℕ → E → Bool
base a q p x = a.element q p x && not (a.is_one x)

-- the value, if there is one and the test lets it pass
abbrev pub passing : {E : Type 0} → (E → Bool) → Option E → Option E
passing test None = None
passing test (Some x) = cond (test x) (Some x) None

abbrev pub group_model : {E : Type 0} → AmbientModel E → ℕ → ℕ → E → E → GroupModel E
group_model a q p g h = record { order = q; base_g = g; base_h = h; words = a.words; reads = λ w. passing (a.element q p) (a.read w) }

abbrev pub group_refusal : {E : Type 0} → AmbientModel E → ℕ → ℕ → E → E → Option Refusal
group_refusal a q p g h =
    first (number_refusal q p
    ∷ unless (a.fits q p) NoSuchGroup ∷ unless (base a q p g) (UnfitBase First) ∷ unless (base a q p h) (UnfitBase Second) ∷ [])
