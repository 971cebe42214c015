use Rattle.std.proofs.Common.{ℕ, ◌+◌, ◌*◌, cond, T, length, get_or, Some, sym, ◌∙◌, subst, ap₂}
use Rattle.refusals.specs.declared.Refusal.{Refusal}
use Rattle.refusals.specs.declared.Refusal.TheVariants.{UnfitWord}
use Rattle.fields.specs.Scalars.{scalar}
use Rattle.releases.specs.Entries.{leaves}
use Rattle.releases.specs.Transcripts.{is_scalar, IsKey}
use Rattle.settings.specs.declared.node.Leaf.{Leaf}
use Rattle.settings.specs.Rules.{rule_in}
use Rattle.checking.proofs.Leaves.{leaves_clear, leaves_told}
use Rattle.checking.proofs.words.check_responses.Goals as goal

pub returns-then-not-is_key : goal.returns-then-not-is_key
returns-then-not-is_key g c =
    let m = g.S.LeafKinds.meaning c.args.set.now in
    let rule = rule_in c.args.rule.now in
    let rs = c.args.responses.now in
    let R : Leaf → ℕ → Type 0 = λ x n. IsKey m x.kind (get_or rs n (scalar 0, scalar 0)) in
    let why : ℕ → Refusal = λ n. UnfitWord (length rule + 4 * leaves rule + 2 * n + cond (is_scalar m (get_or rs n (scalar 0, scalar 0)).0) 1 0) in
    leaves_told rule R why _ c.requires.listed c.loop-number.number _
    c.loop-number-test.true c.loop-number.invariant (subst T (sym c.is_key.ensures ∙ c.if-not-is_key.true))
    (ap₂ (λ a b. Some (UnfitWord (a + 2 * c.loop-number.number + b))) (ap₂ (λ a b. a + 4 * b) c.len.ensures.is c.leaf_count.ensures.is) c.unfit_part.ensures)

pub returns : goal.returns
returns g c =
    let m = g.S.LeafKinds.meaning c.args.set.now in
    let rule = rule_in c.args.rule.now in
    let rs = c.args.responses.now in
    let R : Leaf → ℕ → Type 0 = λ x n. IsKey m x.kind (get_or rs n (scalar 0, scalar 0)) in
    let why : ℕ → Refusal = λ n. UnfitWord (length rule + 4 * leaves rule + 2 * n + cond (is_scalar m (get_or rs n (scalar 0, scalar 0)).0) 1 0) in
    leaves_clear rule R why _ c.requires.listed c.loop-number.number
    c.loop-number-test.false c.loop-number.invariant
