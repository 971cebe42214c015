use Rattle.std.proofs.Common.{arith, length-take}
use Rattle.std.proofs.Math.Seq.{take-set-lt}
use Rattle.bounded.proofs.row.Row.set.Goals as goal

pub returns : goal.returns
returns g c = take-set-lt c.args.self.now.len c.args.self.now.slots c.args.place c.args.item (grind (arith, length-take))
