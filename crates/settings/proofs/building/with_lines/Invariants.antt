use Rattle.std.proofs.Common.{◌≡◌, ◌++◌, map, length, drop}
use Rattle.std.specs.Slice.Iter.{iter_rest}
use Rattle.bounded.specs.Rows.{items}
use Rattle.rules.specs.Tables.{leaves as keys}
use Rattle.rules.specs.Texts.{rows_in}
use Rattle.releases.specs.Entries.{entries}
use Rattle.settings.specs.Nodes.{entry_of}
use Rattle.settings.proofs.building.with_lines.Given as goal

abbrev pub invariant-loop-entry : goal.invariant-loop-entry
invariant-loop-entry l =
    let rows = rows_in l.table in
    (map entry_of (items l.nodes) ++ entries (drop l.entry-index rows) (iter_rest l.left) ≡ entries rows l.lines) × (length (iter_rest l.left) ≡ keys (drop l.entry-index rows))
    × (length (items l.nodes) ≡ l.entry-index)
