-- The first k satisfied children: there is one such choice, and it is a choice of real entries.
use Rattle.std.proofs.Common.{◌≡◌, ℕ, zero, suc, ◌+◌, ◌-◌, ◌<◌, ◌≤◌, min, Bool, true, false, cond, not, ◌&&◌, T, ltb, List, [], ◌∷◌, length, get_or, take, Some, None, Option, sym, refl, ap, ◌∙◌, subst, ap₂, arith, ltb→lt, leb→le, nltb→le}
use mathlib.Core.Path.{fun_ext}
use mathlib.Core.Option.{Option as Found, some, none}
use native.Mathlib.Decide.{dec_le}
use lib.ListN.{get_elem?}
use Rattle.rules.specs.Tables.{Only}
use Rattle.kinds.specs.Kinds.{KindModel, Key}
use Rattle.kinds.specs.declared.image.Image.{Image}
use Rattle.releases.specs.Entries.{Entry, leaf, gate, LeafAt, GateAt, WellFormed, count}
use Rattle.releases.specs.Transcripts.{IsKey}
use Rattle.releases.specs.Keys.{key, opens, holds, satisfied, Satisfied, Opening}
use Rattle.releases.specs.Making.{held, Chosen, First}
use Rattle.releases.proofs.Places.{inside, is_true, is_false}
use Rattle.releases.proofs.Satisfy.{satisfied_marks}
use Rattle.releases.proofs.Given.{Sound}
use Rattle.releases.proofs.Descend.{by_parent, descend, descend_root, descend_child}

and_left : (a b : Bool) → T (a && b) → T a
and_left true b t = tt
and_left false b t = t

and_right : (a b : Bool) → T (a && b) → T b
and_right true b t = t
and_right false b t = absurd t

-- the first of those that g marks, up to k with the a seen before
count_first : (f g : ℕ → Bool) (k a : ℕ) (cs : List ℕ) → ((j : ℕ) → j < length cs → f (get_or cs j 0) ≡ (g (get_or cs j 0) && ltb (a + count g (take j cs)) k))
    → count f cs ≡ min (k - a) (count g cs)
count_first f g k a [] h = omega arith
count_first f g k a (c ∷ cs) h =
    go (g c) (f c) refl (h zero (omega arith)) (λ e. count_first f g k a cs (λ j l. h (suc j) (omega arith) ∙ ap (λ b. g (get_or cs j 0) && ltb (a + cond b (suc (count g (take j cs))) (count g (take j cs))) k) e))
    (λ e. count_first f g k (suc a) cs (λ j l. h (suc j) (omega arith) ∙ ap (λ b. g (get_or cs j 0) && ltb (a + cond b (suc (count g (take j cs))) (count g (take j cs))) k) e
    ∙ ap (λ n. g (get_or cs j 0) && ltb n k) (omega arith)))
  where
    test : (b : Bool) → ltb (a + 0) k ≡ b → count f cs ≡ min (k - suc a) (count g cs) → cond b (suc (count f cs)) (count f cs) ≡ min (k - a) (suc (count g cs))
    test true e r = let l : a + 0 < k = ltb→lt (a + 0) k (subst T (sym e) tt) in omega arith
    test false e r = let l : k ≤ a + 0 = nltb→le (a + 0) k (subst (λ b. T (not b)) (sym e) tt) in omega arith

    go : (gc fc : Bool) → g c ≡ gc → fc ≡ (gc && ltb (a + 0) k) → (g c ≡ false → count f cs ≡ min (k - a) (count g cs)) → (g c ≡ true → count f cs ≡ min (k - suc a) (count g cs))
        → cond fc (suc (count f cs)) (count f cs) ≡ min (k - a) (cond gc (suc (count g cs)) (count g cs))
    go true fc e e' r r' = ap (λ b. cond b (suc (count f cs)) (count f cs)) e' ∙ test (ltb (a + 0) k) refl (r' e)
    go false fc e e' r r' = ap (λ b. cond b (suc (count f cs)) (count f cs)) e' ∙ r e

module _ (m : KindModel) (rule : List Entry) (wf : WellFormed rule) (keys : List (Option Key)) where
  -- whether a child of a real gate is real
  mark : Found Entry → ℕ → Bool
  mark none j = false
  mark (some (leaf kind s)) j = false
  mark (some (gate k cs)) j = satisfied m rule keys (get_or cs j 0) && ltb (count (satisfied m rule keys) (take j cs)) k

  chosen_by : ℕ → Bool
  chosen_by = descend rule wf true (λ p b j. b && mark (get_elem? rule p) j)

  within : (i : ℕ) → Dec (i < length rule) → Bool → Bool
  within i (yes _) b = b
  within i (no _) b = false

  first : ℕ → Bool
  first i = within i (dec_le (suc i) (length rule)) (chosen_by i)

  first_inside : (i : ℕ) → i < length rule → first i ≡ chosen_by i
  unfolding first within
  first_inside i l = go (dec_le (suc i) (length rule))
    where
      go : (d : Dec (i < length rule)) → within i d (chosen_by i) ≡ chosen_by i
      go (yes _) = refl
      go (no n) = absurd (n l)

  first_outside : (i : ℕ) → length rule ≤ i → first i ≡ false
  unfolding first within
  first_outside i l = go (dec_le (suc i) (length rule))
    where
      go : (d : Dec (i < length rule)) → within i d (chosen_by i) ≡ false
      go (yes h) = absurd (omega arith)
      go (no n) = refl

  first_exists : First m rule keys first
  unfolding chosen_by mark
  first_exists = record {
    root = first_inside 0 wf.some_entry ∙ descend_root rule wf true (λ p b j. b && mark (get_elem? rule p) j);
    child = λ p k cs h j l.
        first_inside (get_or cs j 0) (wf.later p k cs h j l).1
        ∙ descend_child rule wf true (λ p b j. b && mark (get_elem? rule p) j) p k cs h j l
        ∙ ap₂ (λ b e. b && mark e j) (sym (first_inside p (inside rule p (gate k cs) h))) h;
    outside = first_outside;
  }

  first_same : (real real' : ℕ → Bool) → First m rule keys real → First m rule keys real' → real ≡ real'
  first_same real real' a b = fun_ext (λ i. go i (dec_le (suc i) (length rule)))
    where
      go : (i : ℕ) → Dec (i < length rule) → real i ≡ real' i
      go i (yes l) =
          by_parent rule wf (λ i. real i ≡ real' i) (a.root ∙ sym b.root)
          (λ p k cs h e j l. a.child p k cs h j l ∙ ap (λ x. x && (satisfied m rule keys (get_or cs j 0) && ltb (count (satisfied m rule keys) (take j cs)) k)) e ∙ sym (b.child p k cs h j l)) i l
      go i (no n) = a.outside i (omega arith) ∙ sym (b.outside i (omega arith))

  pub one_first : Only (First m rule keys)
  one_first = (first, first_exists, λ real a. first_same real first a first_exists)

  -- a satisfied gate has k satisfied children
  gate_satisfied : (p k : ℕ) (cs : List ℕ) → GateAt rule p k cs → T (satisfied m rule keys p) → k ≤ count (satisfied m rule keys) cs
  gate_satisfied p k cs h t =
      leb→le k (count (satisfied m rule keys) cs)
      (subst (λ e. T (holds m e (key rule keys p) (satisfied m rule keys))) h (subst T (satisfied_marks m rule wf keys p (inside rule p (gate k cs) h)) t))

  pub first_chosen : (real : ℕ → Bool) → First m rule keys real → Satisfied m rule keys → Chosen m rule keys real
  first_chosen real a sat = record {
    root = subst T (sym a.root) tt;
    some_children = λ p k cs h r.
        let n = gate_satisfied p k cs h (real_satisfied p (inside rule p (gate k cs) h) r) in
        let e = count_first real (satisfied m rule keys) k 0 cs (λ j l. a.child p k cs h j l
        ∙ ap₂ (λ b c. b && (satisfied m rule keys (get_or cs j 0) && ltb c k)) (is_true (real p) r) (omega arith)) in
        omega arith;
    no_child = λ p k cs h r j l. subst (λ b. T (not b)) (sym (a.child p k cs h j l ∙ ap (λ b. b && (satisfied m rule keys (get_or cs j 0) && ltb (count (satisfied m rule keys) (take j cs)) k)) (is_false (real p) r))) tt;
    satisfied = real_satisfied;
  }
    where
      real_satisfied : (i : ℕ) → i < length rule → T (real i) → T (satisfied m rule keys i)
      real_satisfied =
          by_parent rule wf (λ i. T (real i) → T (satisfied m rule keys i)) (λ _. sat)
          (λ p k cs h _ j l r. and_left _ _ (and_right (real p) _ (subst T (a.child p k cs h j l) r)))

  -- the keys of real leaves open them
  pub chosen_sound : Opening m rule keys → (real : ℕ → Bool) → Chosen m rule keys real → Sound m rule keys real
  chosen_sound open' real ch = record {
    some_children = ch.some_children;
    opened = λ i kind s h r. go i kind s h (key rule keys i) refl
        (subst (λ e. T (holds m e (key rule keys i) (satisfied m rule keys))) h
        (subst T (satisfied_marks m rule wf keys i (inside rule i (leaf kind s) h)) (ch.satisfied i (inside rule i (leaf kind s) h) r)));
  }
    where
      go : (i kind : ℕ) (s : Image) → LeafAt rule i kind s → (o : Option Key) → key rule keys i ≡ o → T (opens m kind s (key rule keys i))
          → IsKey m kind (held (key rule keys i)) × ((m.kind kind).image (held (key rule keys i)) ≡ s)
      go i kind s h None e t = absurd (subst (λ o. T (opens m kind s o)) e t)
      go i kind s h (Some x) e t = subst (λ o. IsKey m kind (held o) × ((m.kind kind).image (held o) ≡ s)) (sym e) (open'.each i kind s h x e)

-- nothing is real: simulate
pub simulated_sound : (m : KindModel) (rule : List Entry) → Sound m rule [] (λ _. false)
simulated_sound m rule = record {
  some_children = λ p k cs h r. absurd r;
  opened = λ i kind s h r. absurd r;
}
