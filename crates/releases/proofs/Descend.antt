-- A value for every entry of a table from its gate's, starting at the first.
use Rattle.std.proofs.Common.{◌≡◌, ℕ, zero, suc, ◌<◌, List, length, get_or, sym, refl, ap, ◌∙◌, subst, arith}
use native.Mathlib.Decide.{dec_le}
use Rattle.releases.specs.Entries.{Entry, GateAt, Child, WellFormed}
use Rattle.releases.proofs.Order.{from_front}

above : (i : ℕ) → 0 < suc i
above i = omega arith

module _ (rule : List Entry) (wf : WellFormed rule) where
  -- the first entry, and every child by its gate
  pub by_parent : (P : ℕ → Type 0) → P 0
      → ((p k : ℕ) (cs : List ℕ) → GateAt rule p k cs → P p → (j : ℕ) → j < length cs → P (get_or cs j 0)) → (i : ℕ) → i < length rule → P i
  by_parent P root child = from_front (length rule) P go
    where
      go : (i : ℕ) → i < length rule → ((p : ℕ) → p < i → P p) → P i
      go zero l ih = root
      go (suc i) l ih =
          let w = wf.parent (suc i) (above i) l in
          let c = w.1 in
          let p = w.0.0 in
          let after : p < get_or c.1 w.0.1 0 = (wf.later p c.0 c.1 c.2 w.0.1 c.3).0 in
          subst P c.4 (child p c.0 c.1 c.2 (ih p (subst (λ u. p < u) c.4 after)) w.0.1 c.3)

  -- the gate and the place of an entry
  up_by : (i : ℕ) → 0 < i → Dec (i < length rule) → ℕ × ℕ
  up_by i h (yes l) = (wf.parent i h l).0
  up_by i h (no _) = (0, 0)

  up : ℕ → ℕ × ℕ
  up zero = (0, 0)
  up (suc i) = up_by (suc i) (above i) (dec_le (suc (suc i)) (length rule))

  up_is : (i : ℕ) → 0 < i → i < length rule → (p j : ℕ) → Child rule i p j → up i ≡ (p, j)
  unfolding up up_by
  up_is zero h l p j c = absurd (omega arith)
  up_is (suc i) h l p j c = go (dec_le (suc (suc i)) (length rule))
    where
      go : (d : Dec (suc i < length rule)) → up_by (suc i) (above i) d ≡ (p, j)
      go (yes k) = sym ((wf.parent (suc i) (above i) k).2 (p, j) c)
      go (no n) = absurd (n l)

  up_before : (i : ℕ) → 0 < i → i < length rule → (up i).0 < i
  up_before i h l =
      let w = wf.parent i h l in
      let c = w.1 in
      let e : up i ≡ w.0 = up_is i h l w.0.0 w.0.1 c in
      subst (λ (a : ℕ × ℕ). a.0 < i) (sym e) (subst (λ u. w.0.0 < u) c.4 (wf.later w.0.0 c.0 c.1 c.2 w.0.1 c.3).0)

  module _ {A : Type 0} (root : A) (step : ℕ → A → ℕ → A) where
    -- looking at most d entries up
    down : ℕ → ℕ → A
    down zero i = root
    down (suc d) zero = root
    down (suc d) (suc i) = step (up (suc i)).0 (down d (up (suc i)).0) (up (suc i)).1

    settled : (d d' i : ℕ) → i < d → i < d' → i < length rule → down d i ≡ down d' i
    unfolding down
    settled zero d' i h h' l = absurd (omega arith)
    settled (suc d) zero i h h' l = absurd (omega arith)
    settled (suc d) (suc d') zero h h' l = refl
    settled (suc d) (suc d') (suc i) h h' l =
        let u = up_before (suc i) (above i) l in
        ap (λ o. step (up (suc i)).0 o (up (suc i)).1) (settled d d' (up (suc i)).0 (omega arith) (omega arith) (omega arith))

    down_step : (d i : ℕ) → 0 < i → (p j : ℕ) → up i ≡ (p, j) → down (suc d) i ≡ step p (down d p) j
    unfolding down
    down_step d zero h p j e = absurd (omega arith)
    down_step d (suc i) h p j e = ap (λ (a : ℕ × ℕ). step a.0 (down d a.0) a.1) e

    pub descend : ℕ → A
    descend i = down (length rule) i

    pub descend_root : descend 0 ≡ root
    unfolding descend down
    descend_root = settled (length rule) (suc (length rule)) 0 wf.some_entry (above (length rule)) wf.some_entry

    pub descend_child : (p k : ℕ) (cs : List ℕ) → GateAt rule p k cs → (j : ℕ) → j < length cs → descend (get_or cs j 0) ≡ step p (descend p) j
    unfolding descend
    descend_child p k cs h j l =
        let w = wf.later p k cs h j l in
        let i = get_or cs j 0 in
        let after : p < i = w.0 in
        let within : i < length rule = w.1 in
        settled (length rule) (suc (length rule)) i within (omega arith) within
        ∙ down_step (length rule) i (omega arith) p j (up_is i (omega arith) within p j (k, cs, h, l, refl))
