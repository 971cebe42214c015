-- Rows.
--
-- items r: the items that the row r holds, in order
-- places r: all that lies in its array, past its last item too
use Rattle.std.specs.Prelude.{ℕ, List, take}
use Rattle.bounded.specs.declared.row.Row.{Row}

abbrev pub places : {T : Type 0} {N : ℕ} → Row T N → List T
places r = r.slots

abbrev pub items : {T : Type 0} {N : ℕ} → Row T N → List T
items r = take r.len r.slots
