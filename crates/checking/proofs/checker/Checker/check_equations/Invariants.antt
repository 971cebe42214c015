use Rattle.std.proofs.Common.{◌≡◌, ℕ, ◌<◌, get_or}
use Rattle.fields.specs.Scalars.{scalar}
use Rattle.kinds.specs.Kinds.{zeros}
use Rattle.releases.specs.Transcripts.{raised}
use Rattle.settings.specs.declared.node.Leaf.{Leaf}
use Rattle.checking.proofs.Leaves.{blank}
use Rattle.checking.proofs.checker.Checker.check_equations.Given as goal

abbrev pub invariant-loop-number : goal.invariant-loop-number
invariant-loop-number g l =
    let m = g.S.LeafKinds.meaning l.self.set.now in
    let holds : Leaf → ℕ → Type 0 =
    λ x n. (m.kind x.kind).image (get_or l.transcript.responses.now n (scalar 0, scalar 0)) ≡ (m.kind x.kind).product (get_or l.transcript.commitments.now n zeros) (raised m x.kind x.statement (get_or l.transcript.challenges.now x.entry (scalar 0)).0) in
    (k : ℕ) → k < l.number → holds (get_or l.leaf-items k blank) k
