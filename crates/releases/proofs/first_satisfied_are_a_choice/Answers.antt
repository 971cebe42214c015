use Rattle.releases.proofs.Making.{first_is_chosen}
use Rattle.releases.proofs.first_satisfied_are_a_choice.Goals as goal

pub returns : goal.returns
returns c = first_is_chosen
