use Rattle.std.proofs.Common.{◌∙◌}
use Rattle.supplied.proofs.SixKinds.{why_refused, six_made}
use Rattle.supplied.proofs.supplied.Goals as goal

pub returns : goal.returns
returns c =
    let left = c.three.ensures in
    let right = c.three-2.ensures in
    let new = c.new.ensures in
    record {
      refuses = new.refuses ∙ why_refused _ _ _ _ left right;
      makes = six_made _ _ _ _ left right c.new.result new.refuses new.makes;
    }
