use Rattle.std.proofs.Common.{refl, subst, arith}
use Rattle.refusals.specs.declared.Refusal.TheVariants.{KeyNumber}
use Rattle.rules.specs.ReaderSteps.{Numbered, Unnumbered}
use Rattle.rules.proofs.Decimal.{first, again, large, numbered, unnumbered, unnumbered_zero}
use Rattle.rules.proofs.letters.Letters.number.Goals as goal

pub returns-in-Some-eq0-clause-numbered : goal.returns-in-Some-eq0-clause-numbered
returns-in-Some-eq0-clause-numbered c = unnumbered_zero c.args.self.now.text.now c.args.self.now.at (omega (arith, c.in-Some-eq0.ensures))

pub returns-in-None-clause-numbered : goal.returns-in-None-clause-numbered
returns-in-None-clause-numbered c = unnumbered c.args.self.now.text.now c.args.self.now.at c.in-None.ensures

pub loop-digit-init : goal.loop-digit-init
loop-digit-init c = (refl, first c.args.self.now.text.now c.args.self.now.at c.in-Some.digit (omega (arith, c.in-Some.ensures)) (omega (arith, c.in-Some.ensures)) (omega (arith, c.in-Some.ensures)))

pub returns-then-value-gt-MOST_NUMBER-clause-numbered : goal.returns-then-value-gt-MOST_NUMBER-clause-numbered
returns-then-value-gt-MOST_NUMBER-clause-numbered c =
    let r = c.loop-digit.self in
    let d = c.in-Some-digit.digit in
    subst (λ t. Unnumbered t.now c.args.self.now.at (KeyNumber c.args.self.now.at)) c.loop-digit.invariant.0
    (large r.text.now c.args.self.now.at c.loop-digit.value r.at c.loop-digit.invariant.1 d (omega (arith, c.in-Some-digit.ensures)) (omega (arith, c.in-Some-digit.ensures)) c.if-value-gt-MOST_NUMBER.true)

pub loop-digit-preserved : goal.loop-digit-preserved
loop-digit-preserved c =
    let r = c.loop-digit.self in
    let d = c.in-Some-digit.digit in
    (c.loop-digit.invariant.0, again r.text.now c.args.self.now.at c.loop-digit.value r.at c.loop-digit.invariant.1 d (omega (arith, c.in-Some-digit.ensures)) (omega (arith, c.in-Some-digit.ensures)) c.if-value-gt-MOST_NUMBER.false)

pub returns-clause-numbered : goal.returns-clause-numbered
returns-clause-numbered c =
    let r = c.loop-digit.self in
    subst (λ t. Numbered t.now c.args.self.now.at c.loop-digit.value r.at) c.loop-digit.invariant.0 (numbered r.text.now c.args.self.now.at c.loop-digit.value r.at c.loop-digit.invariant.1 c.in_default.ensures)
