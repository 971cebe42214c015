use Rattle.std.proofs.Common.{◌≡◌, ap, rules, tests, sym, ◌∙◌, lt→ltb}
use Rattle.fields.specs.declared.scalar.Scalar.{Scalar}
use Rattle.fields.specs.ScalarLaws.{scalar_laws}
use Rattle.releases.proofs.Arithmetic.{minus_apart}
use Rattle.checking.proofs.forks.fork_key.Goals as goal

pub divide_pair-requires-clause-apart : goal.divide_pair-requires-clause-apart
divide_pair-requires-clause-apart c =
    let f = c.args.field.now in
    let q = f.q in
    let laws = scalar_laws q f.prime f.low in
    let a = c.args.challenges.0 in
    let b = c.args.challenges.1 in
    let away = minus_apart laws a b (lt→ltb a.0 q c.requires.challenges.0) (lt→ltb b.0 q c.requires.challenges.1) (λ e. let same : a.0 ≡ b.0 = ap (λ (z : Scalar). z.0) e in search (rules, tests)) in
    λ e. away (sym c.difference-by.ensures ∙ e)
