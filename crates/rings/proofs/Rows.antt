-- Going through the rows of a rule: what is left after each.
use Rattle.std.proofs.Common.{◌≡◌, ℕ, suc, ◌+◌, ◌<◌, List, [], ◌∷◌, ◌++◌, length, get_or, map, drop, Some, None, sym, ap, ◌∙◌, append_assoc}
use Rattle.std.proofs.lemmas.List.{drop_more}
use Rattle.refusals.specs.declared.Refusal.TheVariants.{NotInRing}
use Rattle.rules.specs.Tables.{Row, leaf, node, leaves}
use Rattle.rules.specs.Views.{row_of}
use Rattle.rules.specs.declared.entry.Entry.{Entry}
use Rattle.rings.specs.Pairings.{line_of, missing_at, with_line, pair_refusal, paired}
use Rattle.rings.specs.declared.line.Line.{Line}

-- the rows from i on begin with that of the entry at i
pub next_row : (entries : List Entry) (i : ℕ) (e : Entry) (r : Row) → i < length entries → e ≡ get_or entries i e → row_of e ≡ r → map row_of (drop i entries) ≡ r ∷ map row_of (drop (i + 1) entries)
next_row entries i e r h is f = ap (map row_of) (drop_more entries i e h) ∙ ap (λ x. x ∷ map row_of (drop (i + 1) entries)) (ap row_of (sym is) ∙ f)

-- a leaf with its line, a leaf without, and a gate
module _ (left rest : List Row) (ls : List Line) where
  module _ (n b : ℕ) (is : left ≡ leaf n b ∷ rest) where
    pub leaf_missing : line_of ls n ≡ None → pair_refusal left ls ≡ Some (NotInRing b)
    leaf_missing e = ap (λ es. pair_refusal es ls) is ∙ ap (λ o. missing_at o b (pair_refusal rest ls)) e

    pub leaf_counted : leaves left ≡ suc (leaves rest)
    leaf_counted = ap leaves is

    module _ (l : Line) (e : line_of ls n ≡ Some l) where
      pub leaf_refusal : pair_refusal left ls ≡ pair_refusal rest ls
      leaf_refusal = ap (λ es. pair_refusal es ls) is ∙ ap (λ o. missing_at o b (pair_refusal rest ls)) e

      pub leaf_paired : (before : List Line) → (before ++ l ∷ []) ++ paired rest ls ≡ before ++ paired left ls
      leaf_paired before =
          append_assoc before (l ∷ []) (paired rest ls)
          ∙ ap (λ r. before ++ r) (sym (ap (λ es. paired es ls) is ∙ ap (λ o. with_line o (paired rest ls)) e))

  module _ (k : ℕ) (cs : List ℕ) (is : left ≡ node k cs ∷ rest) where
    pub gate_refusal : pair_refusal left ls ≡ pair_refusal rest ls
    gate_refusal = ap (λ es. pair_refusal es ls) is

    pub gate_paired : paired left ls ≡ paired rest ls
    gate_paired = ap (λ es. paired es ls) is

    pub gate_counted : leaves left ≡ leaves rest
    gate_counted = ap leaves is
