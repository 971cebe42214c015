-- How the shares lie.
use mathlib.Core.Path.{◌≡◌, refl, sym, ap, ◌∙◌}
use mathlib.Core.List.{List, [], ◌∷◌, map}
use Rattle.std.specs.Prelude.{sum_by}
use Rattle.std.proofs.lemmas.List.{length-take, length-map, get_or-map}
use Rattle.std.proofs.lemmas.List.Sums.{sum_by-cons}
use mathlib.Core.Option.{some}
use Prim.Native.Nat.{ℕ, zero, suc, ◌+◌, ◌-◌, ◌*◌, ◌<◌, ◌≤◌}
use native.Mathlib.Omega.{arith}
use lib.ListN.{length, get_or, get_elem?}
use Rattle.rules.proofs.Lists.{found}
use Rattle.bounded.specs.declared.row.Row.{Row as Bounded}
use Rattle.rules.specs.declared.entry.Entry.{Entry}
use Rattle.rules.specs.declared.entry.Entry.TheVariants.{Leaf, Gate}
use Rattle.rules.specs.Tables.{Row, leaf, node}
use Rattle.rules.specs.Views.{row_of, children_of}
use Rattle.descent.specs.Descents.{share_size, before}

pub before_none : (es : List Row) → before es 0 ≡ 0
before_none [] = refl
before_none (e ∷ es) = refl

pub before_more : (es : List Row) (i : ℕ) (e : Row) → get_elem? es i ≡ some e → before es (i + 1) ≡ before es i + share_size e
before_more [] i e h = absurd (let z : ◌≡◌ {A = ℕ} 0 1 = cc in let w = z in omega arith)
before_more (x ∷ es) zero e h =
    let s : x ≡ e = cc in
    ap (λ n. share_size x + n) (before_none es) ∙ (let t = ap share_size s in omega arith)
before_more (x ∷ es) (suc i) e h =
    let n : suc i + 1 ≡ suc (i + 1) = omega arith in
    let ih = before_more es i e h in
    ap (before (x ∷ es)) n ∙ (omega arith)

pub before_rises : (es : List Row) (i j : ℕ) → i ≤ j → before es i ≤ before es j
before_rises [] i j h = omega arith
before_rises (e ∷ es) zero j h = omega arith
before_rises (e ∷ es) (suc i) zero h = absurd (omega arith)
before_rises (e ∷ es) (suc i) (suc j) h = let r = before_rises es i j (omega arith) in omega arith

-- the share of a gate lies within the shares of the rule
pub share_room : (es : List Row) (i k n : ℕ) (cs : List ℕ) → get_elem? es i ≡ some (node k cs) → i < length es → before es (length es) ≤ n
    → before es i + (length cs - k) ≤ n
share_room es i k n cs at h fits = omega (arith, before_more es i (node k cs) at, before_rises es (i + 1) (length es) (omega arith))

-- the row of an entry of a list
pub row_at : (xs : List Entry) (es : List Row) (i : ℕ) (e : Entry) → map row_of xs ≡ es → i < length xs → e ≡ get_or xs i e → get_elem? es i ≡ some (row_of e)
row_at xs es i e is l at =
    ap (λ u. get_elem? u i) (sym is) ∙ found (map row_of xs) i (row_of e) (omega (arith, length-map xs row_of))
    ∙ ap some (get_or-map row_of xs i e (row_of e) l ∙ ap row_of (sym at))

-- the row of an entry that was found to be a gate, or a leaf
pub gate_row : (es : List Row) (i k : ℕ) (c : Bounded ℕ 8) (e : Entry) → get_elem? es i ≡ some (row_of e) → e ≡ Gate k c → get_elem? es i ≡ some (node k (children_of c))
unfolding row_of
gate_row es i k c e h is = h ∙ ap (λ x. some (row_of x)) is

pub leaf_row : (es : List Row) (i n b : ℕ) (e : Entry) → get_elem? es i ≡ some (row_of e) → e ≡ Leaf n b → get_elem? es i ≡ some (leaf n b)
unfolding row_of
leaf_row es i n b e h is = h ∙ ap (λ x. some (row_of x)) is

-- all of the shares of some entries
pub before_all : (xs : List Entry) (es : List Row) → map row_of xs ≡ es → sum_by (λ e. share_size (row_of e)) xs ≡ before es (length es)
before_all xs es e = go xs ∙ ap (λ u. before u (length u)) e
  where
    go : (xs : List Entry) → sum_by (λ e. share_size (row_of e)) xs ≡ before (map row_of xs) (length (map row_of xs))
    go [] = refl
    go (x ∷ xs) = let ih = go xs in omega (arith, sum_by-cons (λ e. share_size (row_of e)) x xs)

share_few : (e : Entry) → share_size (row_of e) ≤ 8
unfolding row_of
share_few (Leaf n b) = omega arith
share_few (Gate k c) = omega (arith, length-take c.len c.slots, c.within)

pub shares_few : (xs : List Entry) → sum_by (λ e. share_size (row_of e)) xs ≤ 8 * length xs
shares_few [] = omega arith
shares_few (x ∷ xs) = let ih = shares_few xs in omega (arith, sum_by-cons (λ e. share_size (row_of e)) x xs, share_few x)
