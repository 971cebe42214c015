-- The table of a rule: its items in the order in which they begin in the text.
--   Row                   a leaf with its key's number and the byte at which its K stands, or a gate with its threshold and
--                         the positions of its children
--   size                  how many rows a rule takes
--   starts rs p           where each item's first row stands, if the first item's stands at position p
--   rows r p b            the rows of a rule whose first row stands at position p, and whose text begins at byte b
--   table                 the rows of a whole rule
--   leaves                how many of the rows are leaves
--   LeafAt, GateAt      which row stands at a position
--   Child i p j           row i is child j of the gate at p
--   WellFormed            children stand after their gate in rising order, every row but the first is one child of one gate,
--                         and everything is within its bounds
use Rattle.std.specs.Prelude.{◌≡◌, ℕ, suc, ◌+◌, ◌<◌, ◌≤◌, List, [], ◌∷◌, ◌++◌, length, slice_index}
use Rattle.std.proofs.Math.Option.{some}
use Rattle.std.proofs.Math.ListN.{get_elem?}
use Rattle.rules.specs.Grammar.{Rule, Rules, key, gate, none, more, text}

pub data Row : Type 0 where
  leaf : ℕ → ℕ → Row
  node : ℕ → List ℕ → Row

abbrev mutual
  pub size : Rule → ℕ
  size (key n) = 1
  size (gate k rs) = suc (size_of rs)

  pub size_of : Rules → ℕ
  size_of none = 0
  size_of (more r rs) = size r + size_of rs

abbrev pub starts : Rules → ℕ → List ℕ
starts none p = []
starts (more r rs) p = p ∷ starts rs (p + size r)

-- four bytes open a gate, and one stands between its items
abbrev mutual
  pub rows : Rule → ℕ → ℕ → List Row
  rows (key n) p b = leaf n b ∷ []
  rows (gate k rs) p b = node k (starts rs (p + 1)) ∷ rows_of rs (p + 1) (b + 4)

  pub rows_of : Rules → ℕ → ℕ → List Row
  rows_of none p b = []
  rows_of (more r rs) p b = rows r p b ++ rows_of rs (p + size r) (b + length (text r) + 1)

abbrev pub table : Rule → List Row
table r = rows r 0 0

abbrev pub leaves : List Row → ℕ
leaves [] = 0
leaves (leaf n b ∷ es) = suc (leaves es)
leaves (node k cs ∷ es) = leaves es

module _ (es : List Row) where
  abbrev pub LeafAt : ℕ → ℕ → ℕ → Type 0
  LeafAt i n b = get_elem? es i ≡ some (leaf n b)

  abbrev pub GateAt : ℕ → ℕ → List ℕ → Type 0
  GateAt p k cs = get_elem? es p ≡ some (node k cs)

  abbrev pub Child : ℕ → ℕ → ℕ → Type 0
  Child i p j = (k : ℕ) × (cs : List ℕ) × GateAt p k cs × (j < length cs) × (slice_index cs j ≡ i)

-- exactly one has the property
abbrev pub Only : {A : Type 0} → (A → Type 0) → Type 0
Only {A = A} P = (a : A) × P a × ((b : A) → P b → b ≡ a)

pub record WellFormed (es : List Row) : Type 0 where
  pub some_row : 0 < length es
  pub few_rows : length es ≤ 31
  pub few_leaves : leaves es ≤ 16
  pub numbered : (i n b : ℕ) → LeafAt es i n b → (1 ≤ n) × (n ≤ 255)
  pub fits : (p k : ℕ) (cs : List ℕ) → GateAt es p k cs → (1 ≤ k) × (k ≤ length cs) × (2 ≤ length cs) × (length cs ≤ 8)
  pub later : (p k : ℕ) (cs : List ℕ) → GateAt es p k cs → (j : ℕ) → j < length cs → (p < slice_index cs j) × (slice_index cs j < length es)
  pub rising : (p k : ℕ) (cs : List ℕ) → GateAt es p k cs → (i j : ℕ) → i < j → j < length cs → slice_index cs i < slice_index cs j
  pub parent : (i : ℕ) → 0 < i → i < length es → Only {A = ℕ × ℕ} (λ at. Child es i at.0 at.1)
