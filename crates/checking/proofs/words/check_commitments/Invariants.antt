use Rattle.std.proofs.Common.{ℕ, ◌<◌, get_or}
use Rattle.kinds.specs.Kinds.{zeros}
use Rattle.releases.specs.Transcripts.{IsImage}
use Rattle.checking.proofs.Leaves.{blank}
use Rattle.checking.proofs.words.check_commitments.Given as goal

abbrev pub invariant-loop-number : goal.invariant-loop-number
invariant-loop-number g l = (k : ℕ) → k < l.number → IsImage (g.S.LeafKinds.meaning l.set) (get_or l.leaves k blank).kind (get_or l.commitments k zeros)
