use Rattle.std.proofs.Common.{◌-◌, length}
use Rattle.bounded.specs.Rows.{items}
use Rattle.script_gates.proofs.reading.read_children.Given as goal

abbrev pub decreases-loop-words : goal.decreases-loop-words
decreases-loop-words l = 8 - length (items l.children)
