use Rattle.releases.proofs.Once.{answered_once}
use Rattle.releases.proofs.calls_answer_once.Goals as goal

pub returns : goal.returns
returns c = answered_once
