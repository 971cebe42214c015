use Rattle.std.proofs.Common.{◌≡◌, ◌-◌, length}
use Rattle.rules.proofs.Decimal.{Sofar}
use Rattle.rules.proofs.letters.Letters.number.Given as goal

abbrev pub invariant-loop-digit : goal.invariant-loop-digit
invariant-loop-digit l = (l.self.text ≡ l.fn.self.text) × Sofar l.self.text.now l.start l.value l.self.at

abbrev pub decreases-loop-digit : goal.decreases-loop-digit
decreases-loop-digit l = length l.self.text.now - l.self.at
