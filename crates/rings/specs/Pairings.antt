-- Pairing a rule with a ring: each leaf gets the line of its key's number.
--   line_of ls n           the line with number n, if there is one
--   pair_refusal es ls     the first leaf whose number stands in no line
--   paired es ls           the lines of the leaves, in their order
use Rattle.std.specs.Prelude.{ℕ, List, [], ◌∷◌, find, Some, None, Option, ◌==◌}
use Rattle.refusals.specs.declared.Refusal.{Refusal}
use Rattle.refusals.specs.declared.Refusal.TheVariants.{NotInRing}
use Rattle.rules.specs.Tables.{Row, leaf, node}
use Rattle.rings.specs.declared.line.Line.{Line}

abbrev pub line_of : List Line → ℕ → Option Line
line_of ls n = find (λ l. l.number == n) ls

abbrev pub missing_at : Option Line → ℕ → Option Refusal → Option Refusal
missing_at None b next = Some (NotInRing b)
missing_at (Some l) b next = next

abbrev pub pair_refusal : List Row → List Line → Option Refusal
pair_refusal [] ls = None
pair_refusal (leaf n b ∷ es) ls = missing_at (line_of ls n) b (pair_refusal es ls)
pair_refusal (node k cs ∷ es) ls = pair_refusal es ls

abbrev pub with_line : Option Line → List Line → List Line
with_line None next = next
with_line (Some l) next = l ∷ next

abbrev pub paired : List Row → List Line → List Line
paired [] ls = []
paired (leaf n b ∷ es) ls = with_line (line_of ls n) (paired es ls)
paired (node k cs ∷ es) ls = paired es ls
