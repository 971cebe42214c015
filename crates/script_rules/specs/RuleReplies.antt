-- What a command on rules is answered.
--   ShownAs s t      t is the text s as it is shown: none where it has no byte, or more than 240
--   Reading s r      r tells what reading the text s comes to: its table, or its first fault
--   Writing es r     r tells the text of the table es
--   rule_of r old    the rule after the reply r: the one that was read, else the one before
use Rattle.std.specs.Prelude.{◌≡◌, ℕ, ◌≤◌, List, length, Some, None, Option}
use Rattle.bounded.specs.declared.row.Row as bounded
use Rattle.bounded.specs.Rows.{items}
use Rattle.rules.specs.Tables.{Row}
use Rattle.rules.specs.Texts.{rows_in, Read, Faulty, Written}
use Rattle.script_rules.specs.declared.answering.RuleReply.{RuleReply}
use Rattle.script_rules.specs.declared.answering.RuleReply.TheVariants as says

abbrev pub ShownAs : List ℕ → Option (bounded.Row ℕ 240) → Type 0
ShownAs s None = 1 ≤ length s → length s ≤ 240 → ⊥
ShownAs s (Some t) = items t ≡ s

abbrev pub Reading : List ℕ → RuleReply → Type 0
Reading s (says.Tree t) = Read s (rows_in t)
Reading s (says.Faulty x t) = Faulty s x × ShownAs s t
Reading s (says.Text t) = ⊥
Reading s (says.Split x) = ⊥

abbrev pub Writing : List Row → RuleReply → Type 0
Writing es (says.Tree t) = ⊥
Writing es (says.Faulty x t) = ⊥
Writing es (says.Text t) = Written es (items t)
Writing es (says.Split x) = ⊥

abbrev pub rule_of : RuleReply → Option (List Row) → Option (List Row)
rule_of (says.Tree t) old = Some (rows_in t)
rule_of (says.Faulty x t) old = old
rule_of (says.Text t) old = old
rule_of (says.Split x) old = old
