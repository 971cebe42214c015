-- What the nodes of a rule hold, and going through the rows of a table with the lines of its leaves.
use Rattle.std.proofs.Common.{◌≡◌, ℕ, zero, suc, ◌+◌, ◌<◌, ◌≤◌, List, [], ◌∷◌, ◌++◌, map, length, get_or, drop, Some, None, Option, sym, refl, ap, ◌∙◌, arith, append_assoc, append-nil, MatchOption, IfSome, IsSome, Iter, subst, Bor, length-take}
use mathlib.Core.Option.{some}
use lib.ListN.{get_elem?}
use Rattle.std.specs.Option.{option_copied}
use Rattle.std.specs.Slice.Iter.{iter_rest, iter_steps}
use Rattle.std.proofs.lemmas.List.{length-map, get_or-map, map_push, drop_all}
use Rattle.bounded.specs.Rows.{items}
use Rattle.rules.specs.Tables.{Row, leaf as key_row, node as gate_row, leaves as keys}
use Rattle.rules.proofs.Lists.{found}
use Rattle.rings.specs.declared.line.Line.{Line}
use Rattle.rings.specs.Pairings.{line_of, missing_at, with_line, pair_refusal, paired}
use Rattle.releases.proofs.Checking.{not_Some}
use Rattle.releases.specs.Entries.{Entry, entries, leaves}
use Rattle.settings.specs.declared.node.Node.{Node}
use Rattle.settings.specs.declared.rule.Rule.{Rule}
use Rattle.settings.specs.Nodes.{entry_of}
use Rattle.settings.specs.Rules.{rule_in}

pub rule_short : (r : Rule) → length (rule_in r) ≤ 31
rule_short r = let nodes = r.nodes in omega (arith, length-map (items nodes) entry_of, length-take nodes.len nodes.slots, nodes.within)

-- what a look-up in a list finds stands at that place in what the list is mapped to
pub looked_up : {A B : Type 0} (f : A → B) (xs : List A) (i : ℕ) (r : Option (Bor A)) → IfSome r (λ x. x.now ≡ get_or xs i x.now) → MatchOption r (length xs ≤ i) (λ x. i < length xs)
    → MatchOption (option_copied r) (length (map f xs) ≤ i) (λ n. get_elem? (map f xs) i ≡ some (f n))
looked_up f xs i None is l = omega (arith, length-map xs f)
looked_up f xs i (Some x) is l = found (map f xs) i (f x.now) (omega (arith, length-map xs f)) ∙ ap some (get_or-map f xs i x.now (f x.now) l ∙ ap f (sym is))

-- the entry at the place of a node
pub node_stands : (nodes : List Node) (rule : List Entry) → map entry_of nodes ≡ rule → (i : ℕ) (n : Node) → i < length nodes → n ≡ get_or nodes i n → get_elem? rule i ≡ some (entry_of n)
node_stands nodes rule e i n l is =
    ap (λ r. get_elem? r i) (sym e) ∙ found (map entry_of nodes) i (entry_of n) (omega (arith, length-map nodes entry_of))
    ∙ ap some (get_or-map entry_of nodes i n (entry_of n) l ∙ ap entry_of (sym is))

-- what a list is mapped to goes on with the image of what stands at i
pub drop-map_next : {A B : Type 0} (f : A → B) (xs : List A) (i : ℕ) (x : A) → i < length xs → x ≡ get_or xs i x → drop i (map f xs) ≡ f x ∷ drop (i + 1) (map f xs)
drop-map_next f [] i x l is = absurd (omega arith)
drop-map_next f (y ∷ xs) zero x l is = ap (λ z. f z ∷ map f xs) (sym is)
drop-map_next f (y ∷ xs) (suc i) x l is =
    let s : suc (i + 1) ≡ suc i + 1 = omega arith in
    drop-map_next f xs i x (omega arith) is ∙ ap (λ j. f x ∷ drop j (map f (y ∷ xs))) s

-- one more node, and the entries after it
pub pushed : (nodes : List Node) (n : Node) (rest now all : List Entry) → now ≡ entry_of n ∷ rest → map entry_of nodes ++ now ≡ all → map entry_of (nodes ++ n ∷ []) ++ rest ≡ all
pushed nodes n rest now all is so_far =
    ap (λ r. r ++ rest) (map_push entry_of nodes n) ∙ append_assoc (map entry_of nodes) (entry_of n ∷ []) rest ∙ ap (λ r. map entry_of nodes ++ r) (sym is) ∙ so_far

-- at the end every row has its entry
pub whole : (nodes : List Node) (rows : List Row) (i : ℕ) (left : List Line) (all : List Entry) → length rows ≤ i → map entry_of nodes ++ entries (drop i rows) left ≡ all → map entry_of nodes ≡ all
whole nodes rows i left all past so_far =
    sym (append-nil (map entry_of nodes)) ∙ ap (λ r. map entry_of nodes ++ entries r left) (sym (drop_all i rows past)) ∙ so_far

-- an iterator that has lines left gives the first of them
module _ (before after : Iter Line) where
  pub some_left : (r : Option (Bor Line)) → iter_steps before r after → 0 < length (iter_rest before) → IsSome r
  some_left None h l = absurd (omega (arith, h.0))
  some_left (Some x) h l = refl

  pub next_line : (r : Option (Bor Line)) (x : Bor Line) → iter_steps before r after → r ≡ Some x → iter_rest before ≡ x.now ∷ iter_rest after
  next_line r x h e = subst (λ r. iter_steps before r after) e h

pub leaves_kept : (rows : List Row) (lines : List Line) → leaves (entries rows lines) ≡ keys rows
leaves_kept [] lines = refl
leaves_kept (key_row n b ∷ rows) [] = let r = leaves_kept rows [] in omega arith
leaves_kept (key_row n b ∷ rows) (l ∷ lines) = let r = leaves_kept rows lines in omega arith
leaves_kept (gate_row k cs ∷ rows) lines = let r = leaves_kept rows lines in omega arith

-- where every leaf has a line, there is one line to each
pub length-paired : (rows : List Row) (ring : List Line) → pair_refusal rows ring ≡ None → length (paired rows ring) ≡ keys rows
length-paired [] ring h = refl
length-paired (gate_row k cs ∷ rows) ring h = length-paired rows ring h
length-paired (key_row n b ∷ rows) ring h = go (length-paired rows ring) (line_of ring n) h
  where
    go : (pair_refusal rows ring ≡ None → length (paired rows ring) ≡ keys rows) → (o : Option Line) → missing_at o b (pair_refusal rows ring) ≡ None → length (with_line o (paired rows ring)) ≡ suc (keys rows)
    go rest None e = not_Some e
    go rest (Some l) e = ap suc (rest e)
