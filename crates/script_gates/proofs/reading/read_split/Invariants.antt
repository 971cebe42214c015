use Rattle.std.proofs.Common.{◌≡◌, ◌+◌, length}
use Rattle.bounded.specs.Rows.{items}
use Rattle.script_gates.proofs.reading.read_split.Given as goal

abbrev pub invariant-loop : goal.invariant-loop
invariant-loop l = length (items l.children) + l.wanted ≡ l.counter

abbrev pub invariant-loop-2 : goal.invariant-loop-2
invariant-loop-2 l = length (items l.children) + l.wanted ≡ l.count + l.counter
