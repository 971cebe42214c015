use Rattle.std.proofs.Common.{ap, ◌∙◌}
use Rattle.kinds.specs.Kinds.{KindModel}
use Rattle.supplied.proofs.image_of_six.Goals as goal

pub returns-clause-makes : goal.returns-clause-makes
returns-clause-makes c = c.key_image.ensures ∙ ap (λ (m : KindModel). (m.kind c.args.kind).image c.args.key) c.in_ok-set.ensures.makes
