-- Splitting a challenge down a whole rule, every gate as a simulated one.
--   share_size e          how many scalars an entry takes from the shares: n - k at a gate, none at a leaf
--   before es i           how many the entries before i take
--   at_children m ch cs   the challenges of the entries at the positions cs
--   AtGate m k cs own ss xs ys   ys is xs but at the positions cs, where it balances a gate with the challenge own that
--                         wants k, the first of them being those of ss
--   Descends m es c ss ch the challenges ch of a rule's entries: entry 0 has c, every gate is balanced, and its share
--                         gives the challenges of its first n - k children
use Rattle.std.specs.Prelude.{◌≡◌, List, [], ◌∷◌, map, ℕ, zero, suc, ◌+◌, ◌-◌, ◌<◌, T, length, get_or}
use Rattle.fields.specs.Fields.{FieldModel}
use Rattle.rules.specs.Tables.{Row, leaf, node, GateAt}
use Rattle.splits.specs.Gates.{Balanced}

abbrev pub share_size : Row → ℕ
share_size (leaf n b) = 0
share_size (node k cs) = length cs - k

abbrev pub before : List Row → ℕ → ℕ
before [] i = 0
before (e ∷ es) zero = 0
before (e ∷ es) (suc i) = share_size e + before es i

module _ {E : Type 0} (m : FieldModel E) where
  abbrev pub at_children : List E → List ℕ → List E
  at_children ch cs = map (λ c. get_or ch c m.zero) cs

  pub record AtGate (k : ℕ) (cs : List ℕ) (own : E) (ss xs ys : List E) : Type 0 where
    pub balanced : Balanced m k own (at_children ys cs)
    pub given : (j : ℕ) → j < length cs - k → get_or ys (get_or cs j 0) m.zero ≡ get_or ss j m.zero
    pub members : (j : ℕ) → j < length cs → T (m.member (get_or ys (get_or cs j 0) m.zero))
    pub kept : (p : ℕ) → ((j : ℕ) → j < length cs → get_or cs j 0 ≡ p → ⊥) → get_or ys p m.zero ≡ get_or xs p m.zero

  pub record Descends (es : List Row) (c : E) (ss ch : List E) : Type 0 where
    pub root : get_or ch 0 m.zero ≡ c
    pub balanced : (p k : ℕ) (cs : List ℕ) → GateAt es p k cs → Balanced m k (get_or ch p m.zero) (at_children ch cs)
    pub given : (p k : ℕ) (cs : List ℕ) → GateAt es p k cs → (j : ℕ) → j < length cs - k → get_or ch (get_or cs j 0) m.zero ≡ get_or ss (before es p + j) m.zero
