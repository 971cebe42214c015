use Rattle.releases.proofs.Tabled.{reading_sets}
use Rattle.releases.proofs.read_rules_are_settings.Goals as goal

pub returns : goal.returns
returns c = reading_sets
