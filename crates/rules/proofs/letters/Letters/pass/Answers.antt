use Rattle.std.proofs.Common.{◌≡◌, ◌+◌, ◌∷◌, drop, slice_index, sym, ap, ◌∙◌, arith, Some, slice_get}
use Rattle.std.proofs.lemmas.List.{drop_more}
use Rattle.std.proofs.lemmas.Option.{get_or_from_slice_get}
use Rattle.rules.proofs.Steps.{letter_passed, letter_wrong, letter_beyond}
use Rattle.rules.proofs.letters.Letters.pass.Goals as goal
use Rattle.rules.proofs.letters.Letters.pass.Goals.{in_default-via-in-Some+else-next-letter, in_default-via-in_default}

pub returns-in_default-clause-passed : goal.returns-in_default-clause-passed
returns-in_default-clause-passed c =
    let s = c.args.self.now.text.now in
    let r = c.loop-letter.self in
    let start = c.args.self.now.at in
    let i = c.loop-letter.letter-index in
    let letters = c.args.letters.now in
    let b = slice_index letters i in
    let is : drop i letters ≡ b ∷ drop (i + 1) letters = drop_more letters i 0 c.loop-letter-test.true in
    let next : c.peek.result ≡ slice_get s r.at = c.peek.ensures ∙ ap (λ t. slice_get t.now r.at) c.loop-letter.invariant.0 in
    elim c.in_default.branch [
      | in_default-via-in-Some+else-next-letter w ↦
          letter_wrong s r.at start letters (drop i letters) b (drop (i + 1) letters) is c.loop-letter.invariant.2
          (λ e. w.if-next-letter.false (sym (get_or_from_slice_get s r.at w.in-Some.next 0 (sym next ∙ w.in-Some.is)) ∙ e))
      | in_default-via-in_default w ↦ letter_beyond s r.at start letters (drop i letters) b (drop (i + 1) letters) is c.loop-letter.invariant.2 (sym next ∙ w.in_default.is)
    ]

pub loop-letter-preserved : goal.loop-letter-preserved
loop-letter-preserved c =
    let s = c.args.self.now.text.now in
    let r = c.loop-letter.self in
    let i = c.loop-letter.letter-index in
    let letters = c.args.letters.now in
    let b = slice_index letters i in
    let is : drop i letters ≡ b ∷ drop (i + 1) letters = drop_more letters i 0 c.loop-letter-test.true in
    let next : slice_get s r.at ≡ Some b = sym (c.peek.ensures ∙ ap (λ t. slice_get t.now r.at) c.loop-letter.invariant.0) ∙ c.in-Some.is ∙ ap Some c.if-next-letter.true in (
      c.loop-letter.invariant.0,
      omega (arith, c.loop-letter.invariant.1),
      letter_passed s r.at c.args.self.now.at letters (drop i letters) b (drop (i + 1) letters) is c.loop-letter.invariant.2 next,
    )
