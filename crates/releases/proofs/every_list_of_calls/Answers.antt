use Rattle.releases.proofs.Standing.{always_stands}
use Rattle.releases.proofs.every_list_of_calls.Goals as goal

pub returns : goal.returns
returns c = always_stands
