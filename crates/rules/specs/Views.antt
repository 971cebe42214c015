-- What a table's entries hold.
--   children_of           the positions of a gate's children
--   row_of                an entry as a row of the table
--   listing               the rows of a list of entries
--   Lawful                the entries are those of a legal rule, and its keys are counted
use Rattle.std.specs.Prelude.{◌≡◌, ℕ, List, map}
use Rattle.bounded.specs.Rows.{items}
use Rattle.bounded.specs.declared.row.Row.{Row}
use Rattle.rules.specs.declared.entry.Entry.{Entry}
use Rattle.rules.specs.declared.entry.Entry.TheVariants.{Leaf, Gate}
use Rattle.rules.specs.declared.entry.Entries.{Entries}
use Rattle.rules.specs.Grammar.{Rule, Legal, keys}
use Rattle.rules.specs.Tables.{Row as TableRow, leaf, node, table}

abbrev pub children_of : Row ℕ 8 → List ℕ
children_of c = items c

unfoldable pub row_of : Entry → TableRow
row_of (Leaf n b) = leaf n b
row_of (Gate k c) = node k (children_of c)

unfoldable pub listing : Entries → List TableRow
listing t = map row_of (items t.list)

pub record Lawful (t : Entries) : Type 0 where
  pub rule : Rule
  pub legal : Legal rule
  pub listed : listing t ≡ table rule
  pub counted : t.keys ≡ keys rule
