-- Checks place by place: what is asked at a leaf and at a gate, and what is told where all passed or one failed.
use Rattle.std.proofs.Common.{◌≡◌, ℕ, ◌<◌, ◌≤◌, List, Some, None, Option, sym, refl, ap, ◌∙◌, subst, inl, inr, arith}
use mathlib.Core.Option.{Option as Found, some, none}
use native.Mathlib.Decide.{dec_lt}
use lib.ListN.{get_elem?}
use Rattle.refusals.specs.declared.Refusal.{Refusal}
use Rattle.kinds.specs.declared.image.Image.{Image}
use Rattle.bounded.specs.declared.row.Row.{Row as Bounded}
use Rattle.rules.specs.Views.{children_of}
use Rattle.releases.proofs.Decided.{LeafCase, GateCase}
use Rattle.releases.specs.Entries.{Entry, leaf, gate, LeafAt, GateAt, to_leaf, number}
use Rattle.releases.specs.Calls.{AtLeaf, AtGate}
use Rattle.releases.specs.Checks.{Clear, Each}
use Rattle.releases.proofs.Places.{none_some}
use Rattle.releases.proofs.Checking.{not_Some}
use Rattle.releases.proofs.Laid.{before_rises, leaf_before}
use Rattle.settings.specs.declared.node.Node.{Node}
use Rattle.settings.specs.declared.node.Node.TheVariants.{Leaf, Gate}
use Rattle.settings.specs.Nodes.{entry_of}

module _ {n : ℕ} {P : ℕ → Type 0} {why : ℕ → Refusal} where
  pub each_clear : (i : ℕ) → n ≤ i → ((j : ℕ) → j < i → P j) → Each n P why Clear None
  each_clear i h passed = inl ((λ j l. passed j (omega arith)), refl)

  pub each_told : (i : ℕ) (o : Option Refusal) → i < n → ((j : ℕ) → j < i → P j) → ¬ P i → o ≡ Some (why i) → Each n P why Clear o
  each_told i o l passed fails is = inr (i, l, passed, fails, is)

  -- what is told without a further check is told with it, and where nothing is told the further check goes on
  pub each_refused : (next : Option Refusal → Type 0) (x : Refusal) → Each n P why Clear (Some x) → Each n P why next (Some x)
  each_refused next x (inl a) = not_Some a.1
  each_refused next x (inr f) = inr f

  pub each_then : (next : Option Refusal → Type 0) (o : Option Refusal) → Each n P why Clear None → next o → Each n P why next o
  each_then next o (inl a) h = inl (a.0, h)
  each_then next o (inr f) h = not_Some (sym f.4)

-- the entry that a node stands for
pub leaf_entry : (rule : List Entry) (i kind : ℕ) (s : Image) (n : Node) → get_elem? rule i ≡ some (entry_of n) → n ≡ Leaf kind s → LeafAt rule i kind s
unfolding entry_of
leaf_entry rule i kind s n h is = h ∙ ap (λ x. some (entry_of x)) is

pub gate_entry : (rule : List Entry) (i k : ℕ) (cs : Bounded ℕ 8) (n : Node) → get_elem? rule i ≡ some (entry_of n) → n ≡ Gate k cs → GateAt rule i k (children_of cs)
unfolding entry_of
gate_entry rule i k cs n h is = h ∙ ap (λ x. some (entry_of x)) is

module _ (rule : List Entry) (P : ℕ → ℕ → Image → Type 0) (i : ℕ) where
  -- nothing is asked of a gate
  no_leaf : (k : ℕ) (cs : List ℕ) → GateAt rule i k cs → AtLeaf rule P i
  no_leaf k cs g kind s h = subst (LeafCase (P i)) (sym g ∙ h) tt

  -- so what fails stands at a leaf
  pub leaf_fails : ¬ AtLeaf rule P i → (kind : ℕ) × (s : Image) × LeafAt rule i kind s
  leaf_fails fails = go (get_elem? rule i) refl
    where
      go : (e : Found Entry) → get_elem? rule i ≡ e → (kind : ℕ) × (s : Image) × LeafAt rule i kind s
      go none e = absurd (fails (λ kind s h. none_some (leaf kind s) (sym e ∙ h)))
      go (some (leaf kind s)) e = (kind, s, e)
      go (some (gate k cs)) e = absurd (fails (no_leaf k cs e))

module _ (rule : List Entry) (P : ℕ → ℕ → List ℕ → Type 0) (i : ℕ) where
  pub at_gate : (k : ℕ) (cs : List ℕ) → GateAt rule i k cs → P i k cs → AtGate rule P i
  at_gate k cs h p k' cs' h' = subst (GateCase (P i)) (sym h ∙ h') p

  -- nothing is asked of a leaf
  pub no_gate : (kind : ℕ) (s : Image) → LeafAt rule i kind s → AtGate rule P i
  no_gate kind s h k cs g = subst (GateCase (P i)) (sym h ∙ g) tt

-- leaves stand in the order of their numbers
pub earlier : (rule : List Entry) (i j : ℕ) → number rule j < number rule i → j < i
earlier rule i j l = go (dec_lt j i)
  where
    go : Dec (j < i) → j < i
    go (yes h) = h
    go (no n) = let r = before_rises to_leaf rule i j (omega arith) in absurd (omega arith)

pub same_place : (rule : List Entry) (i kind : ℕ) (s : Image) → LeafAt rule i kind s → (j kind' : ℕ) (s' : Image) → LeafAt rule j kind' s' → number rule j ≡ number rule i → j ≡ i
same_place rule i kind s h j kind' s' h' e = go (dec_lt i j) (dec_lt j i)
  where
    go : Dec (i < j) → Dec (j < i) → j ≡ i
    go (yes l) d = let b = leaf_before rule i kind s h j l in absurd (omega arith)
    go (no n) (yes l) = let b = leaf_before rule j kind' s' h' i l in absurd (omega arith)
    go (no n) (no n') = omega arith
