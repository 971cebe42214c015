use Rattle.std.proofs.Common.{ℕ, ◌+◌, ◌*◌, T, length, get_or, Some, sym, ap, ◌∙◌, subst}
use Rattle.refusals.specs.declared.Refusal.TheVariants.{UnfitWord}
use Rattle.kinds.specs.Kinds.{zeros}
use Rattle.releases.specs.Transcripts.{IsImage}
use Rattle.settings.specs.declared.node.Leaf.{Leaf}
use Rattle.settings.specs.Rules.{rule_in}
use Rattle.checking.proofs.Leaves.{leaves_clear, leaves_told}
use Rattle.checking.proofs.words.check_commitments.Goals as goal

pub returns-then-not-is_image : goal.returns-then-not-is_image
returns-then-not-is_image g c =
    let rule = rule_in c.args.rule.now in
    let R : Leaf → ℕ → Type 0 = λ x n. IsImage (g.S.LeafKinds.meaning c.args.set.now) x.kind (get_or c.args.commitments.now n zeros) in
    leaves_told rule R (λ n. UnfitWord (length rule + 4 * n)) _ c.requires.listed c.loop-number.number _
    c.loop-number-test.true c.loop-number.invariant (subst T (sym c.is_image.ensures ∙ c.if-not-is_image.true)) (ap (λ n. Some (UnfitWord (n + 4 * c.loop-number.number))) c.len.ensures.is)

pub returns : goal.returns
returns g c =
    let rule = rule_in c.args.rule.now in
    let R : Leaf → ℕ → Type 0 = λ x n. IsImage (g.S.LeafKinds.meaning c.args.set.now) x.kind (get_or c.args.commitments.now n zeros) in
    leaves_clear rule R (λ n. UnfitWord (length rule + 4 * n)) _ c.requires.listed c.loop-number.number
    c.loop-number-test.false c.loop-number.invariant
