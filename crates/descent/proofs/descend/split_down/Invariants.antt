use mathlib.Core.Path.{◌≡◌}
use Prim.Native.Nat.{◌*◌, ◌≤◌}
use lib.ListN.{length, get_or}
use Rattle.rules.specs.Texts.{rows_in}
use Rattle.descent.specs.Descents.{before}
use Rattle.descent.proofs.Going.{Passed}
use Rattle.rules.proofs.Whole.{table_well_formed}
use Rattle.descent.proofs.descend.split_down.Given as goal

abbrev pub invariant-loop-i : goal.invariant-loop-i
invariant-loop-i g l =
    let m = g.F.Field.model l.field in
    let es = rows_in l.table in
    (length l.challenges ≡ length es) × (l.used ≡ before es l.i) × (l.used ≤ 8 * l.i) × (l.used ≤ length l.shares)
    × Passed m es (table_well_formed l.table) (get_or l.initial.challenges 0 m.zero) l.shares l.i l.challenges
