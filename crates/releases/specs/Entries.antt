-- A rule with its ring: the entries of the table, each leaf with the kind and the statement of its line.
--   Entry                 a leaf with its kind's number and its statement, or a gate with its threshold and the positions of its children
--   entries rows lines    the entries of a table, the leaves with these lines in order
--   LeafAt, GateAt        which entry stands at a position
--   Child i p j           entry i is child j of the gate at p
--   WellFormed rule       children stand after their gate, and every entry but the first is one child of one gate
--   Known m kind          kinds are numbered from 1
--   Stated m rule         every leaf's statement is an image of a known kind
--   laid f rule           what f gives for each entry, in their order
--   before size rule i    the sum of the sizes of the entries before entry i
--   total size rule       the sum of all sizes
--   number rule i         how many leaves stand before entry i: the number of the leaf at i, counted from 0
--   leaves rule           how many leaves there are
--   count f cs            how many of the list f marks
use Rattle.std.specs.Prelude.{◌≡◌, ℕ, zero, suc, ◌+◌, ◌<◌, ◌≤◌, Bool, cond, T, List, [], ◌∷◌, ◌++◌, length, slice_index}
use Rattle.std.proofs.Math.Option.{some}
use Rattle.std.proofs.Math.ListN.{get_elem?}
use Rattle.kinds.specs.Kinds.{KindModel, zeros}
use Rattle.kinds.specs.declared.image.Image.{Image}
use Rattle.rules.specs.Tables.{Row, leaf as key_row, node as gate_row, Only}
use Rattle.rings.specs.declared.line.Line.{Line}

pub data Entry : Type 0 where
  leaf : ℕ → Image → Entry
  gate : ℕ → List ℕ → Entry

-- a leaf without a line has no kind
abbrev pub entries : List Row → List Line → List Entry
entries [] lines = []
entries (key_row n b ∷ rows) [] = leaf 0 zeros ∷ entries rows []
entries (key_row n b ∷ rows) (l ∷ lines) = leaf l.kind l.image ∷ entries rows lines
entries (gate_row k children ∷ rows) lines = gate k children ∷ entries rows lines

module _ (rule : List Entry) where
  abbrev pub LeafAt : ℕ → ℕ → Image → Type 0
  LeafAt i kind s = get_elem? rule i ≡ some (leaf kind s)

  abbrev pub GateAt : ℕ → ℕ → List ℕ → Type 0
  GateAt p k children = get_elem? rule p ≡ some (gate k children)

  abbrev pub Child : ℕ → ℕ → ℕ → Type 0
  Child i p j = (k : ℕ) × (children : List ℕ) × GateAt p k children × (j < length children) × (slice_index children j ≡ i)

  pub record WellFormed : Type 0 where
    pub some_entry : 0 < length rule
    pub fits : (p k : ℕ) (children : List ℕ) → GateAt p k children → (k ≤ length children) × (length children ≤ 8)
    pub later : (p k : ℕ) (children : List ℕ) → GateAt p k children → (j : ℕ) → j < length children → (p < slice_index children j) × (slice_index children j < length rule)
    pub parent : (i : ℕ) → 0 < i → i < length rule → Only {A = ℕ × ℕ} (λ at. Child i at.0 at.1)

abbrev pub Known : KindModel → ℕ → Type 0
Known m kind = (1 ≤ kind) × (kind ≤ m.count)

abbrev pub Stated : KindModel → List Entry → Type 0
Stated m rule = (i kind : ℕ) (s : Image) → LeafAt rule i kind s → Known m kind × T ((m.kind kind).is_image s)

abbrev pub laid : {A : Type 0} → (ℕ → Entry → List A) → List Entry → List A
laid f [] = []
laid f (e ∷ es) = f zero e ++ laid (λ i. f (suc i)) es

abbrev pub before : (Entry → ℕ) → List Entry → ℕ → ℕ
before size [] i = 0
before size (e ∷ es) zero = 0
before size (e ∷ es) (suc i) = size e + before size es i

abbrev pub total : (Entry → ℕ) → List Entry → ℕ
total size [] = 0
total size (e ∷ es) = size e + total size es

-- one to a leaf
abbrev pub to_leaf : Entry → ℕ
to_leaf (leaf kind s) = 1
to_leaf (gate k children) = 0

abbrev pub number : List Entry → ℕ → ℕ
number rule i = before to_leaf rule i

abbrev pub leaves : List Entry → ℕ
leaves rule = total to_leaf rule

abbrev pub count : (ℕ → Bool) → List ℕ → ℕ
count f [] = 0
count f (c ∷ cs) = cond (f c) (suc (count f cs)) (count f cs)
