use Rattle.std.proofs.Common.{ℕ, ◌+◌, ◌*◌, List, map, drop}
use Rattle.bounded.specs.Rows.{items}
use Rattle.rules.specs.Views.{row_of}
use Rattle.rules.specs.WriterSteps.{mark_at, CanSpellItems, ItemsSpelt}
use Rattle.rules.proofs.writing.+spell_spell_items.Given as goal

abbrev pub decreases-spell : goal.decreases-spell
decreases-spell l = l.depth * 2

abbrev pub decreases-spell_items : goal.decreases-spell_items
decreases-spell_items l = l.depth * 2 + 1

-- the items left can be spelt, and whatever text they make of this one, all the items make of the first one
abbrev pub invariant-spell_items-loop-i : goal.invariant-spell_items-loop-i
invariant-spell_items-loop-i l =
    let es = map row_of l.entries in
    let left = drop l.i l.children in
    CanSpellItems es left (mark_at l.i) l.depth (items l.text)
    × ((end : List ℕ) → ItemsSpelt es left (mark_at l.i) l.depth (items l.text) end → ItemsSpelt es l.children 40 l.depth (items l.initial.text) end)
