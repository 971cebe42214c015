-- Rows of values that belong to the children of a gate.
--   SpreadOut cs row xs ys   ys is xs with the entries of row at the positions cs
use Rattle.std.specs.Prelude.{◌≡◌, List, ℕ, ◌<◌, length, get_or}

pub record SpreadOut {E : Type 0} (cs : List ℕ) (row xs ys : List E) : Type 0 where
  pub placed : (j : ℕ) (d : E) → j < length cs → get_or ys (get_or cs j 0) d ≡ get_or row j d
  pub kept : (p : ℕ) (d : E) → ((j : ℕ) → j < length cs → get_or cs j 0 ≡ p → ⊥) → get_or ys p d ≡ get_or xs p d
