use Rattle.std.proofs.Common.{◌≡◌, ℕ, ◌<◌, length, get_or, None}
use Rattle.fields.specs.Scalars.{scalar}
use Rattle.settings.specs.declared.node.Leaf.{Leaf}
use Rattle.checking.specs.Checkings.{ForkedKey}
use Rattle.checking.proofs.Leaves.{blank}
use Rattle.checking.proofs.checker.Checker.fork_keys.Given as goal

abbrev pub invariant-loop-number : goal.invariant-loop-number
invariant-loop-number g l =
    let q = (g.S.LeafKinds.meaning l.self.set.now).q in
    let forked : Leaf → ℕ → Type 0 =
    λ x n. ForkedKey q (get_or l.transcript.challenges.now x.entry (scalar 0)) (get_or l.other.challenges.now x.entry (scalar 0)) (get_or l.transcript.responses.now n (scalar 0, scalar 0)) (get_or l.other.responses.now n (scalar 0, scalar 0)) (get_or l.keys n None) in
    (length l.keys ≡ length l.initial.keys) × ((k : ℕ) → k < l.number → forked (get_or l.leaf-items k blank) k)
