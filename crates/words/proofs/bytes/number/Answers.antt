use Rattle.std.proofs.Common.{◌+◌, get_or, drop, sym, ◌∙◌}
use Rattle.std.proofs.lemmas.List.{at_drop_more}
use Rattle.words.proofs.Numerals.{continued_none}
use Rattle.words.specs.Bytes.{continued}
use Rattle.words.proofs.bytes.number.Goals as goal

pub returns-in_err-value : goal.returns-in_err-value
returns-in_err-value c =
    let w = c.args.word.now in
    let i = c.loop-byte.byte-index in
    let n = c.loop-byte.value in
    c.from_residual.ensures
    ∙ sym (c.loop-byte.invariant.1 ∙ at_drop_more (continued n) w i 0 c.loop-byte-test.true
    ∙ continued_none n (get_or w i 0) (drop (i + 1) w) (sym c.appended.ensures ∙ c.in_err-value.was))
