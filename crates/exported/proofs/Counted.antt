-- The number of the entries of what was read; none are counted where the text is refused.
use Rattle.std.proofs.Common.{◌≡◌, ℕ, List, length, Ok, Err, Result, sym, ap, ◌∙◌}
use Rattle.std.specs.Result.{MatchResult}
use Rattle.refusals.specs.declared.Refusal.{Refusal}
use Rattle.rules.specs.declared.table.Table.{Table}
use Rattle.rules.specs.Tables.{Row}
use Rattle.rules.specs.Texts.{Means, Read, Faulty, rows_in}

module _ (text : List ℕ) (n : ℕ) (Counts : Table → Type 0) (counted : (t : Table) → Counts t → n ≡ length (rows_in t)) where
  pub as_meant : (r : Result Table Refusal) → MatchResult r (λ t. Read text (rows_in t)) (λ x. Faulty text x) → MatchResult r Counts (λ _. n ≡ 0)
      → (es : List Row) → Means text es → n ≡ length es
  as_meant (Ok t) read is es means = counted t is ∙ ap length (sym (read.only es means))
  as_meant (Err x) faulty is es means = absurd (faulty.meaningless es means)

  pub none_meant : (r : Result Table Refusal) → MatchResult r (λ t. Read text (rows_in t)) (λ x. Faulty text x) → MatchResult r Counts (λ _. n ≡ 0)
      → ((es : List Row) → Means text es → ⊥) → n ≡ 0
  none_meant (Ok t) read is none = absurd (none (rows_in t) read.means)
  none_meant (Err x) faulty is none = is
