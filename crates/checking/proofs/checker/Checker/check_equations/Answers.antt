use Rattle.std.proofs.Common.{◌≡◌, ℕ, get_or, ◌∙◌, subst, refl, arith}
use Rattle.refusals.specs.declared.Refusal.TheVariants.{EquationFails}
use Rattle.fields.specs.Scalars.{scalar}
use Rattle.kinds.specs.Kinds.{zeros}
use Rattle.releases.specs.Transcripts.{raised, IsImage, IsKey}
use Rattle.settings.specs.declared.node.Leaf.{Leaf}
use Rattle.settings.specs.Rules.{rule_in}
use Rattle.settings.proofs.Listing.{rule_short}
use Rattle.checking.proofs.Known.{statement_fits}
use Rattle.checking.proofs.Leaves.{blank, leaf_stands, leaf_number, leaf_inside, leaves_clear, leaves_told}
use Rattle.checking.proofs.checker.Checker.check_equations.Goals as goal

pub offset_bounds-transcript-leaf : goal.offset_bounds-transcript-leaf
offset_bounds-transcript-leaf g c =
    let l = leaf_inside (rule_in c.args.self.now.rule.now) _ (c.deref-leaf-items.ensures ∙ c.leaves-leaves.ensures.are) c.loop-number.number c.loop-number-test.true in
    omega (arith, l, rule_short c.args.self.now.rule.now)

pub bounds-transcript-leaf : goal.bounds-transcript-leaf
bounds-transcript-leaf g c =
    let l = leaf_inside (rule_in c.args.self.now.rule.now) _ (c.deref-leaf-items.ensures ∙ c.leaves-leaves.ensures.are) c.loop-number.number c.loop-number-test.true in
    omega (arith, l, c.requires.shaped.challenges)

pub equation_holds-requires : goal.equation_holds-requires
equation_holds-requires g c =
    let m = g.S.LeafKinds.meaning c.args.self.now.set.now in
    let rule = rule_in c.args.self.now.rule.now in
    let j = c.loop-number.number in
    let is = c.deref-leaf-items.ensures ∙ c.leaves-leaves.ensures.are in
    let x = get_or c.deref-leaf-items.result.now j blank in
    let at = leaf_stands rule _ is j c.loop-number-test.true in
    let here = leaf_number rule _ is j c.loop-number-test.true in (
      statement_fits m rule c.args.self.now.setting x.entry x.kind x.statement at,
      (
        subst (λ n. IsImage m x.kind (get_or c.args.transcript.now.commitments.now n zeros)) here (c.requires.images x.entry x.kind x.statement at),
        subst (λ n. IsKey m x.kind (get_or c.args.transcript.now.responses.now n (scalar 0, scalar 0))) here (c.requires.keys x.entry x.kind x.statement at),
      ),
    )

pub returns-then-not-equation_holds : goal.returns-then-not-equation_holds
returns-then-not-equation_holds g c =
    let m = g.S.LeafKinds.meaning c.args.self.now.set.now in
    let holds : Leaf → ℕ → Type 0 =
    λ x n. (m.kind x.kind).image (get_or c.args.transcript.now.responses.now n (scalar 0, scalar 0)) ≡ (m.kind x.kind).product (get_or c.args.transcript.now.commitments.now n zeros) (raised m x.kind x.statement (get_or c.args.transcript.now.challenges.now x.entry (scalar 0)).0) in
    leaves_told (rule_in c.args.self.now.rule.now) holds EquationFails _ (c.deref-leaf-items.ensures ∙ c.leaves-leaves.ensures.are) c.loop-number.number _
    c.loop-number-test.true c.loop-number.invariant c.if-not-equation_holds.ensures.1 refl

pub returns : goal.returns
returns g c =
    let m = g.S.LeafKinds.meaning c.args.self.now.set.now in
    let holds : Leaf → ℕ → Type 0 =
    λ x n. (m.kind x.kind).image (get_or c.args.transcript.now.responses.now n (scalar 0, scalar 0)) ≡ (m.kind x.kind).product (get_or c.args.transcript.now.commitments.now n zeros) (raised m x.kind x.statement (get_or c.args.transcript.now.challenges.now x.entry (scalar 0)).0) in
    leaves_clear (rule_in c.args.self.now.rule.now) holds EquationFails _ (c.deref-leaf-items.ensures ∙ c.leaves-leaves.ensures.are) c.loop-number.number
    c.loop-number-test.false c.loop-number.invariant
