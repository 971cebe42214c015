use Rattle.std.proofs.Common.{refl, sym, ap, length, ◌∙◌}
use Rattle.rules.proofs.writing.write.Goals as goal

pub returns-then-out-len : goal.returns-then-out-len
returns-then-out-len c = record {
  refusal = refl;
  kept = refl;
  other_length = λ s m e. c.if-out-len.true (sym e ∙ ap length (c.spelled-text.ensures.only s m) ∙ sym c.len.ensures.is);
}
