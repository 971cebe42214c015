use Rattle.std.proofs.Common.{ℕ, ◌<◌, map, get_or}
use Rattle.fields.specs.Scalars.{scalar, scalars_model}
use Rattle.fields.specs.declared.scalar.Scalar.{Scalar}
use Rattle.splits.specs.Gates.{Balanced}
use Rattle.releases.specs.Calls.{AtGate}
use Rattle.settings.specs.Rules.{rule_in}
use Rattle.checking.proofs.checker.Checker.check_gates.Given as goal

abbrev pub invariant-loop-i : goal.invariant-loop-i
invariant-loop-i g l =
    let q = (g.S.LeafKinds.meaning l.self.set.now).q in
    let ch : ℕ → Scalar = λ i. get_or l.challenges i (scalar 0) in
    (k : ℕ) → k < l.i → AtGate (rule_in l.self.rule.now) (λ i n children. Balanced (scalars_model q) n (ch i) (map ch children)) k
