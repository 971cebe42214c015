use Rattle.std.proofs.Common.{◌≡◌, ◌-◌, length, take}
use Rattle.words.specs.Words.{numbers_at}
use Rattle.words.proofs.Listing.{prefixed}
use Rattle.words.proofs.words.Words.numbers.Given as goal

abbrev pub invariant-loop-number : goal.invariant-loop-number
invariant-loop-number g l =
    (length l.number-items ≡ g.row.N)
    × (numbers_at g.row.N l.initial.self.place l.initial.self.rest.now ≡ prefixed (take l.number-index l.number-items) (numbers_at (g.row.N - l.number-index) l.self.place l.self.rest.now))
