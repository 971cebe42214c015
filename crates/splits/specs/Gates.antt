-- A gate: k of n children, a challenge of its own, and a challenge for each child.
--   Balanced m k own children    the own challenge at point 0 and child j's at point j, from 1, lie on one polynomial with n - k + 1 coefficients
--   Agree m marks xs ys          xs and ys have the same entry at each place that is marked
--   AgreeFirst m n xs ys         xs and ys have the same first n entries
--   Differing xs ys n            xs and ys, of one length, differ at n places
use Rattle.std.specs.Prelude.{◌≡◌, ℕ, suc, ◌+◌, ◌-◌, ◌<◌, Bool, false, T, List, [], ◌∷◌, length, slice_index_or}
use Rattle.fields.specs.Fields.{FieldModel}
use Rattle.polynomials.specs.Polynomials.{value, Members}

module _ {E : Type 0} (m : FieldModel E) where
  abbrev pub Balanced : ℕ → E → List E → Type 0
  Balanced k own children =
      (cs : List E) × (length cs ≡ length children - k + 1) × Members m cs
      × (value m cs (m.point 0) ≡ own)
      × ((j : ℕ) → j < length children → value m cs (m.point (j + 1)) ≡ slice_index_or children j m.zero)

  abbrev pub Agree : List Bool → List E → List E → Type 0
  Agree marks xs ys = (j : ℕ) → j < length marks → T (slice_index_or marks j false) → slice_index_or xs j m.zero ≡ slice_index_or ys j m.zero

  abbrev pub AgreeFirst : ℕ → List E → List E → Type 0
  AgreeFirst n xs ys = (j : ℕ) → j < n → slice_index_or xs j m.zero ≡ slice_index_or ys j m.zero

pub data Differing {E : Type 0} : List E → List E → ℕ → Type 0 where
  none : Differing [] [] 0
  same : {x y : E} {xs ys : List E} {n : ℕ} → x ≡ y → Differing xs ys n → Differing (x ∷ xs) (y ∷ ys) n
  other : {x y : E} {xs ys : List E} {n : ℕ} → ¬ (x ≡ y) → Differing xs ys n → Differing (x ∷ xs) (y ∷ ys) (suc n)
