use Rattle.std.proofs.Common.{◌≡◌, ◌+◌, ◌-◌, ◌*◌, ◌<◌, length}
use Rattle.rules.specs.ReaderSteps.{Room}
use Rattle.rules.specs.Views.{children_of}
use Rattle.rules.proofs.Items.{Going}
use Rattle.rules.proofs.reading.Reader.+gate_item_items.Given as goal

abbrev pub decreases-gate : goal.decreases-gate
decreases-gate l = l.depth * 3

abbrev pub decreases-item : goal.decreases-item
decreases-item l = l.depth * 3 + 1

abbrev pub decreases-items : goal.decreases-items
decreases-items l = l.depth * 3 + 2

abbrev pub invariant-items-loop-children : goal.invariant-items-loop-children
invariant-items-loop-children l =
    let old = l.initial.self in
    let new = l.self in
    (new.letters.text ≡ old.letters.text) × Room l.depth new.entries × (length (children_of l.children) < 8)
    × Going old.letters.text.now old.letters.at l.depth old.entries new.letters.at (children_of l.children) new.entries

abbrev pub decreases-items-loop-children : goal.decreases-items-loop-children
decreases-items-loop-children l = 8 - length (children_of l.children)
