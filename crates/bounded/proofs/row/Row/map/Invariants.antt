use Rattle.std.proofs.Common.{◌≡◌, length, map, take}
use Rattle.bounded.specs.Rows.{items}
use Rattle.bounded.proofs.row.Row.map.Given as goal

abbrev pub invariant-loop-item : goal.invariant-loop-item
invariant-loop-item g l =
    (length (items l.made) ≡ l.item-index)
    × ((h : _ → _) → ((x : _) (y : _) → goal.F-post g l.f x y → y ≡ h x) → items l.made ≡ map h (take l.item-index l.item-items))
