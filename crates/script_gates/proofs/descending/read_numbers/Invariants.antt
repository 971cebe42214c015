use Rattle.std.proofs.Common.{◌≡◌, length}
use Rattle.bounded.specs.Rows.{items}
use Rattle.script_gates.proofs.descending.read_numbers.Given as goal

abbrev pub invariant-loop : goal.invariant-loop
invariant-loop l = length (items l.numbers) ≡ l.counter
