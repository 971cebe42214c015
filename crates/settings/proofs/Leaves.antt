-- Going through the nodes of a rule, a leaf at a time.
use Rattle.std.proofs.Common.{◌≡◌, ℕ, zero, suc, ◌+◌, ◌<◌, List, [], ◌∷◌, map, length, get_or, drop, refl, ap, ◌∙◌, arith}
use Rattle.kinds.specs.declared.image.Image.{Image}
use Rattle.bounded.specs.declared.row.Row.{Row}
use Rattle.releases.specs.Entries.{Entry, leaf, gate, leaves, LeafAt, number}
use Rattle.releases.proofs.Places.{none_some, some_inj}
use Rattle.settings.specs.declared.node.Node.{Node}
use Rattle.settings.specs.declared.node.Node.TheVariants.{Leaf, Gate}
use Rattle.settings.specs.Nodes.{entry_of}
use Rattle.settings.specs.declared.node.Leaf.{Leaf as Listed}
use Rattle.settings.specs.Leaves.{leaves_from, leaves_of}
use Rattle.settings.proofs.Listing.{drop-map_next}

-- as many as are counted
pub length-leaves_from : (i : ℕ) (rule : List Entry) → length (leaves_from i rule) ≡ leaves rule
length-leaves_from i [] = refl
length-leaves_from i (leaf kind s ∷ es) = let r = length-leaves_from (i + 1) es in omega arith
length-leaves_from i (gate k cs ∷ es) = let r = length-leaves_from (i + 1) es in omega arith

module _ (nodes : List Node) (i : ℕ) (n : Node) (l : i < length nodes) (is : n ≡ get_or nodes i n) where
  pub next_leaf : (kind : ℕ) (s : Image) → n ≡ Leaf kind s
      → leaves_from i (drop i (map entry_of nodes)) ≡ record { entry = i; kind = kind; statement = s } ∷ leaves_from (i + 1) (drop (i + 1) (map entry_of nodes))
  unfolding entry_of
  next_leaf kind s e = ap (leaves_from i) (drop-map_next entry_of nodes i n l is ∙ ap (λ m. entry_of m ∷ drop (i + 1) (map entry_of nodes)) e)

  pub next_gate : (k : ℕ) (cs : Row ℕ 8) → n ≡ Gate k cs → leaves_from i (drop i (map entry_of nodes)) ≡ leaves_from (i + 1) (drop (i + 1) (map entry_of nodes))
  unfolding entry_of
  next_gate k cs e = ap (leaves_from i) (drop-map_next entry_of nodes i n l is ∙ ap (λ m. entry_of m ∷ drop (i + 1) (map entry_of nodes)) e)

abbrev pub leaf_at : ℕ → ℕ → Image → Listed
leaf_at i kind s = record { entry = i; kind = kind; statement = s }

abbrev at_of : Listed → ℕ → Entry → Listed
at_of x i (leaf kind s) = leaf_at i kind s
at_of x i (gate k cs) = x

from_is : (b : ℕ) (rule : List Entry) (i kind : ℕ) (s : Image) (d : Listed) → LeafAt rule i kind s → get_or (leaves_from b rule) (number rule i) d ≡ leaf_at (b + i) kind s
from_is b [] i kind s d h = none_some (leaf kind s) h
from_is b (leaf k t ∷ es) zero kind s d h =
    let e : b ≡ b + 0 = omega arith in
    ap (at_of d b) (some_inj (leaf k t) (leaf kind s) h) ∙ ap (λ n. leaf_at n kind s) e
from_is b (leaf k t ∷ es) (suc i) kind s d h =
    let n : 1 + number es i ≡ suc (number es i) = omega arith in
    let e : b + 1 + i ≡ b + suc i = omega arith in
    ap (λ n. get_or (leaf_at b k t ∷ leaves_from (b + 1) es) n d) n ∙ from_is (b + 1) es i kind s d h ∙ ap (λ n. leaf_at n kind s) e
from_is b (gate k cs ∷ es) zero kind s d h = absurd (let z : gate k cs ≡ leaf kind s = some_inj (gate k cs) (leaf kind s) h in cc)
from_is b (gate k cs ∷ es) (suc i) kind s d h =
    let n : 0 + number es i ≡ number es i = omega arith in
    let e : b + 1 + i ≡ b + suc i = omega arith in
    ap (λ n. get_or (leaves_from (b + 1) es) n d) n ∙ from_is (b + 1) es i kind s d h ∙ ap (λ n. leaf_at n kind s) e

-- a leaf is listed at its number
pub leaf_listed : (rule : List Entry) (i kind : ℕ) (s : Image) (d : Listed) → LeafAt rule i kind s → get_or (leaves_of rule) (number rule i) d ≡ leaf_at i kind s
leaf_listed rule i kind s d h = let e : 0 + i ≡ i = omega arith in from_is 0 rule i kind s d h ∙ ap (λ n. leaf_at n kind s) e
