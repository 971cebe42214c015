-- Going down a rule gate by gate: what holds of the gates that were passed.
use mathlib.Core.Path.{◌≡◌, refl, sym, ap, ap₂, subst, ◌∙◌}
use mathlib.Core.List.{List, [], ◌∷◌}
use mathlib.Core.Logic.{◌⊎◌, inl, inr}
use mathlib.Core.Option.{some}
use Prim.Native.Nat.{ℕ, zero, suc, ◌+◌, ◌-◌, ◌<◌, ◌≤◌}
use native.Mathlib.Decide.{ℕ_discrete}
use native.Mathlib.Omega.{arith}
use lib.Dec.{T}
use lib.ListN.{length, get_or, drop, get_elem?}
use lib.Seq.{get_or-drop}
use Rattle.fields.specs.Fields.{FieldModel}
use Rattle.rules.specs.Tables.{Row, leaf, node, GateAt, WellFormed}
use Rattle.splits.specs.Gates.{Balanced}
use Rattle.descent.specs.Descents.{before, at_children, AtGate, Descends}
use Rattle.descent.proofs.Moved.{taken}

-- a number stands in a list, or nowhere in it
stands : (cs : List ℕ) (p : ℕ) → ((j : ℕ) × (j < length cs) × (get_or cs j 0 ≡ p)) ⊎ ((j : ℕ) → j < length cs → get_or cs j 0 ≡ p → ⊥)
stands [] p = inr (λ j h e. omega arith)
stands (c ∷ cs) p = go (ℕ_discrete c p) (stands cs p)
  where
    go : Dec (c ≡ p) → ((j : ℕ) × (j < length cs) × (get_or cs j 0 ≡ p)) ⊎ ((j : ℕ) → j < length cs → get_or cs j 0 ≡ p → ⊥)
        → ((j : ℕ) × (j < suc (length cs)) × (get_or (c ∷ cs) j 0 ≡ p)) ⊎ ((j : ℕ) → j < suc (length cs) → get_or (c ∷ cs) j 0 ≡ p → ⊥)
    go (yes e) rest = inl (zero, omega arith, e)
    go (no n) (inl f) = inl (suc f.0, omega (arith, f.1), f.2)
    go (no n) (inr f) = inr none
      where
        none : (j : ℕ) → j < suc (length cs) → get_or (c ∷ cs) j 0 ≡ p → ⊥
        none zero h e = n e
        none (suc j) h e = f j (omega arith) e

module _ {E : Type 0} (m : FieldModel E) (es : List Row) (formed : WellFormed es) (c : E) (ss : List E) where
  abbrev z : E
  z = m.zero

  -- what holds where the gates before i were passed
  pub record Passed (i : ℕ) (ch : List E) : Type 0 where
    pub members : (p : ℕ) → p < length ch → T (m.member (get_or ch p z))
    pub root : get_or ch 0 z ≡ c
    pub balanced : (p k : ℕ) (cs : List ℕ) → p < i → GateAt es p k cs → Balanced m k (get_or ch p z) (at_children m ch cs)
    pub given : (p k : ℕ) (cs : List ℕ) → p < i → GateAt es p k cs → (j : ℕ) → j < length cs - k → get_or ch (get_or cs j 0) z ≡ get_or ss (before es p + j) z

  pub passed_none : (ch : List E) → ((p : ℕ) → p < length ch → T (m.member (get_or ch p z))) → get_or ch 0 z ≡ c → Passed 0 ch
  passed_none ch inside first = record {
    members = inside;
    root = first;
    balanced = λ p k cs h _. absurd (omega arith);
    given = λ p k cs h _ j _. absurd (omega arith);
  }

  pub passed_all : (ch : List E) (i : ℕ) → length es ≤ i → Passed i ch → Descends m es c ss ch
  passed_all ch i h s = record {
    root = s.root;
    balanced = λ p k cs at. s.balanced p k cs (omega (arith, (taken es p (node k cs) (node k cs) at).0)) at;
    given = λ p k cs at. s.given p k cs (omega (arith, (taken es p (node k cs) (node k cs) at).0)) at;
  }

  -- a leaf is passed as it is
  pub passed_leaf : (ch : List E) (i n b : ℕ) → get_elem? es i ≡ some (leaf n b) → Passed i ch → Passed (i + 1) ch
  passed_leaf ch i n b at s = record {
    members = s.members;
    root = s.root;
    balanced = λ p k cs h g. s.balanced p k cs (below p k cs h g) g;
    given = λ p k cs h g. s.given p k cs (below p k cs h g) g;
  }
    where
      other : (k : ℕ) (cs : List ℕ) → get_elem? es i ≡ some (node k cs) → ⊥
      other k cs g = let w : ◌≡◌ {A = ℕ} 0 1 = cc in omega arith

      below : (p k : ℕ) (cs : List ℕ) → p < i + 1 → GateAt es p k cs → p < i
      below p k cs h g = go (ℕ_discrete p i)
        where
          go : Dec (p ≡ i) → p < i
          go (yes e) = absurd (other k cs (subst (λ x. get_elem? es x ≡ some (node k cs)) e g))
          go (no ne) = omega arith

  -- one gate more
  module _ (i k : ℕ) (cs : List ℕ) (at : GateAt es i k cs) (xs ys : List E) (long : length ys ≡ length xs)
      (gate : AtGate m k cs (get_or xs i z) (drop (before es i) ss) xs ys) (s : Passed i xs) where
    -- up to i nothing changes
    early : (p : ℕ) → p ≤ i → get_or ys p z ≡ get_or xs p z
    early p h = gate.kept p (λ j l e. let f = (formed.later i k cs at j l).0 in omega arith)

    -- nor at the children of an earlier gate
    apart : (p k' : ℕ) (ds : List ℕ) → p < i → GateAt es p k' ds → (j : ℕ) → j < length ds → get_or ys (get_or ds j 0) z ≡ get_or xs (get_or ds j 0) z
    apart p k' ds h g j l =
        let x = get_or ds j 0 in
        let later = formed.later p k' ds g j l in
        let only = formed.parent x (omega (arith, later.0)) later.1 in
        gate.kept x (λ j' l' e.
        let one = only.2 (p, j) (k', ds, g, l, refl) in
        let two = only.2 (i, j') (k, cs, at, l', e) in
        let same : p ≡ i = ap (λ (a : ℕ × ℕ). a.0) (one ∙ sym two) in
        omega arith)

    all_apart : (p k' : ℕ) (ds : List ℕ) → p < i → GateAt es p k' ds → at_children m ys ds ≡ at_children m xs ds
    all_apart p k' ds h g = go ds (apart p k' ds h g)
      where
        go : (ts : List ℕ) → ((j : ℕ) → j < length ts → get_or ys (get_or ts j 0) z ≡ get_or xs (get_or ts j 0) z) → at_children m ys ts ≡ at_children m xs ts
        go [] f = refl
        go (t ∷ ts) f = ap₂ ◌∷◌ (f zero (omega arith)) (go ts (λ j l. f (suc j) (omega arith)))

    members : (p : ℕ) → p < length ys → T (m.member (get_or ys p z))
    members p h = go (stands cs p)
      where
        go : ((j : ℕ) × (j < length cs) × (get_or cs j 0 ≡ p)) ⊎ ((j : ℕ) → j < length cs → get_or cs j 0 ≡ p → ⊥) → T (m.member (get_or ys p z))
        go (inl f) = subst (λ x. T (m.member (get_or ys x z))) f.2 (gate.members f.0 f.1)
        go (inr f) = subst (λ x. T (m.member x)) (sym (gate.kept p f)) (s.members p (omega arith))

    same_gate : (k' : ℕ) (ds : List ℕ) → GateAt es i k' ds → (k' ≡ k) × (ds ≡ cs)
    same_gate k' ds g = (cc, cc)

    pub passed_gate : Passed (i + 1) ys
    passed_gate = record {
      members = members;
      root = early 0 (omega arith) ∙ s.root;
      balanced = λ p k' ds h g. balance p k' ds h g (ℕ_discrete p i);
      given = λ p k' ds h g j l. give p k' ds h g j l (ℕ_discrete p i);
    }
      where
        balance : (p k' : ℕ) (ds : List ℕ) → p < i + 1 → GateAt es p k' ds → Dec (p ≡ i) → Balanced m k' (get_or ys p z) (at_children m ys ds)
        balance p k' ds h g (no n) =
            let lt : p < i = omega arith in
            subst (λ own. Balanced m k' own (at_children m ys ds)) (sym (early p (omega arith)))
            (subst (λ row. Balanced m k' (get_or xs p z) row) (sym (all_apart p k' ds lt g)) (s.balanced p k' ds lt g))
        balance p k' ds h g (yes e) =
            let is = same_gate k' ds (subst (λ x. get_elem? es x ≡ some (node k' ds)) e g) in
            subst (λ own. Balanced m k' own (at_children m ys ds)) (sym (ap (λ x. get_or ys x z) e ∙ early i (omega arith)))
            (subst (λ t. Balanced m t (get_or xs i z) (at_children m ys ds)) (sym is.0)
            (subst (λ ts. Balanced m k (get_or xs i z) (at_children m ys ts)) (sym is.1) gate.balanced))

        give : (p k' : ℕ) (ds : List ℕ) → p < i + 1 → GateAt es p k' ds → (j : ℕ) → j < length ds - k' → Dec (p ≡ i) → get_or ys (get_or ds j 0) z ≡ get_or ss (before es p + j) z
        give p k' ds h g j l (no n) = let lt : p < i = omega arith in apart p k' ds lt g j (omega arith) ∙ s.given p k' ds lt g j l
        give p k' ds h g j l (yes e) =
            let is = same_gate k' ds (subst (λ x. get_elem? es x ≡ some (node k' ds)) e g) in
            let l' : j < length cs - k = subst (λ t. j < length cs - t) is.0 (subst (λ ts. j < length ts - k') is.1 l) in
            ap (λ ts. get_or ys (get_or ts j 0) z) is.1 ∙ gate.given j l' ∙ get_or-drop (before es i) ss j z ∙ ap (λ x. get_or ss (before es x + j) z) (sym e)
