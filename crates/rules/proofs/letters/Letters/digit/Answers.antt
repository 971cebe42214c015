use Rattle.std.proofs.Common.{sym, arith}
use Rattle.std.proofs.lemmas.List.{get_or_past}
use Rattle.rules.proofs.Steps.{outside_lo, past_end}
use Rattle.rules.proofs.letters.Letters.digit.Goals as goal

pub returns-in_default-3 : goal.returns-in_default-3
returns-in_default-3 c =
    let s = c.args.self.now.text.now in
    let at = c.args.self.now.at in
    outside_lo c.args.least c.args.most _ (omega (arith, get_or_past s at 0 (past_end s at (sym c.in_default.ensures))))
