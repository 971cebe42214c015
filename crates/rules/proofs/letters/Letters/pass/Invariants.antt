use Rattle.std.proofs.Common.{◌≡◌, ℕ, ◌+◌, List, drop}
use Rattle.rules.specs.declared.head.Head.{Head}
use Rattle.rules.specs.Faults.{Open, onward}
use Rattle.rules.specs.ReaderSteps.{from}
use Rattle.rules.proofs.letters.Letters.pass.Given as goal

abbrev pub invariant-loop-letter : goal.invariant-loop-letter
invariant-loop-letter l =
    (l.self.text ≡ l.initial.self.text) × (l.self.at ≡ l.initial.self.at + l.letter-index)
    × ((gs : List Open) (k : ℕ) (h : Head) → from l.initial.self.text.now (onward gs k l.letters h) l.initial.self.at ≡ from l.initial.self.text.now (onward gs k (drop l.letter-index l.letters) h) l.self.at)
