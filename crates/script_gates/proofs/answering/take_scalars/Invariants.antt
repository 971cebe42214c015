use Rattle.std.proofs.Common.{◌≡◌, ℕ, ◌<◌, T, ltb, length, get_or}
use Rattle.bounded.specs.Rows.{items}
use Rattle.fields.specs.Scalars.{scalar}
use Rattle.script_gates.proofs.answering.take_scalars.Given as goal

abbrev pub invariant-loop-i : goal.invariant-loop-i
invariant-loop-i g l =
    (length (items l.taken) ≡ l.i)
    × ((k : ℕ) → k < l.i → (get_or (items l.taken) k (scalar 0) ≡ scalar (get_or l.number-items k 0)) × T (ltb (get_or l.number-items k 0) l.scalars.q))
