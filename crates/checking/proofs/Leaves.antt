-- The leaves of a rule one after another, and what is asked of each: told is the first that fails, as an entry or as a leaf.
use Rattle.std.proofs.Common.{◌≡◌, ℕ, zero, suc, ◌+◌, ◌<◌, ◌≤◌, List, [], ◌∷◌, length, get_or, None, Some, Option, sym, refl, ap, ◌∙◌, subst, inl, inr, arith}
use Rattle.refusals.specs.declared.Refusal.{Refusal}
use Rattle.kinds.specs.Kinds.{zeros}
use Rattle.kinds.specs.declared.image.Image.{Image}
use Rattle.releases.specs.Entries.{Entry, leaf, gate, LeafAt, number}
use Rattle.releases.specs.Calls.{AtLeaf}
use Rattle.releases.specs.Checks.{Clear, Each}
use Rattle.releases.proofs.Places.{inside}
use Rattle.releases.proofs.Laid.{leaf_before, number_small}
use Rattle.settings.specs.declared.node.Leaf.{Leaf}
use Rattle.settings.specs.Leaves.{leaves_from, leaves_of}
use Rattle.settings.proofs.Leaves.{length-leaves_from, leaf_at, leaf_listed}

-- what stands past the last leaf
abbrev pub blank : Leaf
blank = leaf_at 0 0 zeros

record Stands (b : ℕ) (rule : List Entry) (j : ℕ) (x : Leaf) : Type 0 where
  at : ℕ
  is : x.entry ≡ b + at
  stands : LeafAt rule at x.kind x.statement
  numbered : number rule at ≡ j

stands_from : (b : ℕ) (rule : List Entry) (j : ℕ) (d : Leaf) → j < length (leaves_from b rule) → Stands b rule j (get_or (leaves_from b rule) j d)
stands_from b [] j d l = absurd (omega arith)
stands_from b (leaf k s ∷ es) zero d l = record { at = 0; is = omega arith; stands = refl; numbered = refl }
stands_from b (leaf k s ∷ es) (suc j) d l =
    let r = stands_from (b + 1) es j d (omega arith) in
    record { at = suc r.at; is = omega (arith, r.is); stands = r.stands; numbered = omega (arith, r.numbered) }
stands_from b (gate k cs ∷ es) j d l =
    let r = stands_from (b + 1) es j d l in
    record { at = suc r.at; is = omega (arith, r.is); stands = r.stands; numbered = omega (arith, r.numbered) }

-- what is listed stands at its entry, and its number is its place
module _ (rule : List Entry) (ls : List Leaf) (is : ls ≡ leaves_of rule) (j : ℕ) (l : j < length ls) where
  abbrev it : Leaf
  it = get_or ls j blank

  there : Stands 0 rule j it
  there =
      let e = ap length is in
      subst (λ ls. Stands 0 rule j (get_or ls j blank)) (sym is) (stands_from 0 rule j blank (omega arith))

  pub leaf_stands : LeafAt rule it.entry it.kind it.statement
  leaf_stands = let e : there.at ≡ it.entry = omega (arith, there.is) in subst (λ i. LeafAt rule i it.kind it.statement) e there.stands

  pub leaf_number : number rule it.entry ≡ j
  leaf_number = let e : there.at ≡ it.entry = omega (arith, there.is) in subst (λ i. number rule i ≡ j) e there.numbered

  pub leaf_inside : it.entry < length rule
  leaf_inside = inside rule it.entry (leaf it.kind it.statement) leaf_stands

-- what is asked of each leaf in its place is asked of each entry
module _ (rule : List Entry) (R : Leaf → ℕ → Type 0) (ls : List Leaf) (is : ls ≡ leaves_of rule) where
  asked : (i kind : ℕ) (s : Image) → LeafAt rule i kind s → R (get_or ls (number rule i) blank) (number rule i) → R (leaf_at i kind s) (number rule i)
  asked i kind s h r = subst (λ x. R x (number rule i)) (ap (λ ls. get_or ls (number rule i) blank) is ∙ leaf_listed rule i kind s blank h) r

  pub leaf_asked : (n : ℕ) → length ls ≤ n → ((k : ℕ) → k < n → R (get_or ls k blank) k) → (i kind : ℕ) (s : Image) → LeafAt rule i kind s → R (leaf_at i kind s) (number rule i)
  leaf_asked n past all i kind s h =
      let e = ap length is in
      let f = length-leaves_from 0 rule in
      let m = number_small rule i kind s h in
      asked i kind s h (all (number rule i) (omega arith))

-- what a loop over the leaves has found, told of the entries
module _ (rule : List Entry) (R : Leaf → ℕ → Type 0) (why : ℕ → Refusal) (ls : List Leaf) (is : ls ≡ leaves_of rule) where
  abbrev pub EachAsked : Option Refusal → Type 0
  EachAsked = Each (length rule) (AtLeaf rule (λ i kind s. R (leaf_at i kind s) (number rule i))) (λ i. why (number rule i)) Clear

  pub leaves_clear : (n : ℕ) → length ls ≤ n → ((k : ℕ) → k < n → R (get_or ls k blank) k) → EachAsked None
  leaves_clear n past all = inl ((λ i small. leaf_asked rule R ls is n past all i), refl)

  pub leaves_told : (j : ℕ) (o : Option Refusal) → j < length ls → ((k : ℕ) → k < j → R (get_or ls k blank) k) → ¬ R (get_or ls j blank) j → o ≡ Some (why j) → EachAsked o
  leaves_told j o here before fails told =
      let x = get_or ls j blank in
      let at = leaf_stands rule ls is j here in
      let n = leaf_number rule ls is j here in
      inr (
        x.entry,
        leaf_inside rule ls is j here,
        (λ i sooner kind s h. asked rule R ls is i kind s h (before (number rule i) (let b = leaf_before rule i kind s h x.entry sooner in omega arith))),
        (λ all. fails (subst (R x) n (all x.kind x.statement at))),
        told ∙ ap (λ n. Some (why n)) (sym n),
      )
