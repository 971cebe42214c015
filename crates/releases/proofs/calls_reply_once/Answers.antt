use Rattle.releases.proofs.Replying.{replies_once}
use Rattle.releases.proofs.calls_reply_once.Goals as goal

pub returns : goal.returns
returns c = replies_once
