use Rattle.std.proofs.Common.{◌≡◌, ℕ, ◌<◌, List, length, get_or}
use Rattle.std.specs.Slice.Iter.{iter_rest}
use Rattle.std.specs.Iterator.Adapters.{zip_first, zip_second}
use Rattle.descent.specs.Rows.{SpreadOut}
use Rattle.descent.proofs.Moved.{Rising}
use Rattle.descent.proofs.rows.spread_out.Given as goal

abbrev pub invariant-loop-position : goal.invariant-loop-position
invariant-loop-position g l =
    let left = iter_rest (zip_first l.position-iterator) in
    let rest = iter_rest (zip_second l.position-iterator) in
    (length rest ≡ length left)
    × ((j : ℕ) → j < length left → get_or left j 0 < length l.to)
    × Rising left
    × ((zs : List g.row.E.Denot) → SpreadOut left rest l.to zs → SpreadOut l.positions l.row l.initial.to zs)
