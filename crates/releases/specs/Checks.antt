-- Checks in order: the first that fails is told, at the first place where it fails.
--   Clear o              nothing is told
--   Test P why next o    P holds and the next check tells o, or P fails and o is why
--   Each n P why next o  P holds at the places 0 to n - 1 and the next check tells o, or it fails first at some place, and o is why of that place
use Rattle.std.specs.Prelude.{◌≡◌, ℕ, ◌<◌, ◌⊎◌, Some, None, Option}
use Rattle.refusals.specs.declared.Refusal.{Refusal}

abbrev pub Clear : Option Refusal → Type 0
Clear o = o ≡ None

abbrev pub Test : Type 0 → Refusal → (Option Refusal → Type 0) → Option Refusal → Type 0
Test P why next o = (P × next o) ⊎ ((¬ P) × (o ≡ Some why))

abbrev pub Each : ℕ → (ℕ → Type 0) → (ℕ → Refusal) → (Option Refusal → Type 0) → Option Refusal → Type 0
Each n P why next o =
    (((i : ℕ) → i < n → P i) × next o) ⊎ ((i : ℕ) × (i < n) × ((j : ℕ) → j < i → P j) × (¬ P i) × (o ≡ Some (why i)))
