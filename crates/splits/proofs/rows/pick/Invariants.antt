use Rattle.std.proofs.Common.{◌≡◌, ◌+◌, ◌≤◌, ◌∷◌, ◌++◌, length}
use Rattle.std.specs.Slice.Iter.{iter_rest}
use Rattle.std.specs.Iterator.Adapters.{zip_first, zip_second}
use Rattle.bounded.specs.Rows.{items}
use Rattle.splits.specs.Marks.{marked}
use Rattle.splits.proofs.rows.pick.Given as goal

abbrev pub invariant-loop-entry : goal.invariant-loop-entry
invariant-loop-entry g l =
    let row = iter_rest (zip_first l.entry-iterator) in
    let marks = iter_rest (zip_second l.entry-iterator) in
    (length marks ≡ length row) × (length (items l.picked) + length row ≤ 9) × (items l.picked ++ marked marks row ≡ l.fn.first ∷ marked l.fn.marks l.fn.row)
