-- How many rows and bytes there are, and how much a bounded row holds.
use Rattle.std.proofs.Common.{map, set, ◌≡◌, ℕ, suc, ◌+◌, ◌≤◌, [], ◌∷◌, ◌++◌, length, refl, ap, ◌∙◌, ap₂, length-take, arith, eq-eqb, ne_eqb}
use native.Mathlib.Decide.{ℕ_discrete}
use Rattle.std.proofs.lemmas.List.{length-append, length-map, map_push, map-set}
use Rattle.bounded.specs.Rows.{items}
use Rattle.bounded.specs.declared.row.Row.{Row}
use Rattle.rules.specs.declared.entry.Entry.{Entry}
use Rattle.rules.specs.declared.entry.Entries.{Entries}
use Rattle.rules.specs.Views.{listing, row_of}
use Rattle.rules.specs.Grammar.{Rule, Rules, key, gate, none, more, count, text, marked, opening}
use Rattle.rules.specs.Tables.{size, size_of, rows, rows_of, starts}

pub starts_length : (rs : Rules) (p : ℕ) → length (starts rs p) ≡ count rs
starts_length none p = refl
starts_length (more r rs) p = ap suc (starts_length rs (p + size r))

mutual
  pub rows_length : (r : Rule) (p b : ℕ) → length (rows r p b) ≡ size r
  rows_length (key n) p b = refl
  rows_length (gate k rs) p b = ap suc (rows_of_length rs (p + 1) (b + 4))

  pub rows_of_length : (rs : Rules) (p b : ℕ) → length (rows_of rs p b) ≡ size_of rs
  rows_of_length none p b = refl
  rows_of_length (more r rs) p b = length-append (rows r p b) (rows_of rs (p + size r) (b + length (text r) + 1)) ∙ ap₂ ◌+◌ (rows_length r p b) (rows_of_length rs (p + size r) (b + length (text r) + 1))

pub size_some : (r : Rule) → 1 ≤ size r
size_some (key n) = omega arith
size_some (gate k rs) = omega arith

-- how long a gate's text is
pub opening_length : (k n : ℕ) → length (opening k n) ≡ 3
unfolding opening
opening_length k n = elim (ℕ_discrete k 1) [
  | yes e ↦ rw (eq-eqb k 1 e)
  | no p ↦ elim (ℕ_discrete k n) [ yes e ↦ rw (ne_eqb k 1 p, eq-eqb k n e) | no q ↦ rw (ne_eqb k 1 p, ne_eqb k n q) ]
]

pub marked_length : (rs : Rules) (a b : ℕ) → length (marked rs a) ≡ length (marked rs b)
marked_length none a b = refl
marked_length (more r rs) a b = refl

pub gate_length : (k : ℕ) (rs : Rules) → length (text (gate k rs)) ≡ length (marked rs 44) + 4
gate_length k rs = omega (arith, length-append (opening k (count rs)) (marked rs 40 ++ 41 ∷ []), opening_length k (count rs), length-append (marked rs 40) (41 ∷ []), marked_length rs 40 44)

pub within : {A : Type 0} {N : ℕ} (r : Row A N) → length (items r) ≤ N
within r = omega (arith, length-take r.len r.slots)

pub listing_length : (t : Entries) → length (listing t) ≡ length (items t.list)
unfolding listing
listing_length t = length-map (items t.list) row_of

pub listing_none : (t : Entries) → items t.list ≡ [] → listing t ≡ []
unfolding listing
listing_none t h = ap (map row_of) h

pub listing_push : (t t' : Entries) (e : Entry) → items t'.list ≡ items t.list ++ e ∷ [] → listing t' ≡ listing t ++ row_of e ∷ []
unfolding listing
listing_push t t' e h = ap (map row_of) h ∙ map_push row_of (items t.list) e

pub listing_set : (t t' : Entries) (i : ℕ) (e : Entry) → items t'.list ≡ set (items t.list) i e → listing t' ≡ set (listing t) i (row_of e)
unfolding listing
listing_set t t' i e h = ap (map row_of) h ∙ map-set row_of (items t.list) i e
