-- Marks on the children of a gate, and the points at which they stand.
--   missing marks          how many places are not marked
--   marked marks xs        the entries at the marked places, in their order
--   First marks n          the first n places are marked, and no others
--   points_from m j n      point j, point j + 1, ..: n of them
use Rattle.std.specs.Prelude.{ℕ, zero, suc, ◌<◌, Bool, false, cond, T, List, [], ◌∷◌, slice_index_or}
use Rattle.fields.specs.Fields.{FieldModel}

abbrev pub missing : List Bool → ℕ
missing [] = 0
missing (b ∷ marks) = cond b (missing marks) (suc (missing marks))

abbrev pub marked : {A : Type 0} → List Bool → List A → List A
marked [] xs = []
marked (b ∷ marks) [] = []
marked (b ∷ marks) (x ∷ xs) = cond b (x ∷ marked marks xs) (marked marks xs)

abbrev pub First : List Bool → ℕ → Type 0
First marks n = (j : ℕ) → (T (slice_index_or marks j false) → j < n) × (j < n → T (slice_index_or marks j false))

abbrev pub points_from : {E : Type 0} → FieldModel E → ℕ → ℕ → List E
points_from m j zero = []
points_from m j (suc n) = m.point j ∷ points_from m (suc j) n
