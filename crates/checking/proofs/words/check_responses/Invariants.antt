use Rattle.std.proofs.Common.{ℕ, ◌<◌, get_or}
use Rattle.fields.specs.Scalars.{scalar}
use Rattle.releases.specs.Transcripts.{IsKey}
use Rattle.checking.proofs.Leaves.{blank}
use Rattle.checking.proofs.words.check_responses.Given as goal

abbrev pub invariant-loop-number : goal.invariant-loop-number
invariant-loop-number g l = (k : ℕ) → k < l.number → IsKey (g.S.LeafKinds.meaning l.set) (get_or l.leaves k blank).kind (get_or l.responses k (scalar 0, scalar 0))
