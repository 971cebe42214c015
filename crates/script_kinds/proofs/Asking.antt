-- What the supplied set answers, once it is made.
use Rattle.std.proofs.Common.{◌≡◌, Bool, true, false, cond, eqb, None, Ok, Err, Result, refl, ap, ◌∙◌}
use Rattle.refusals.specs.declared.Refusal.{Refusal}
use Rattle.refusals.specs.declared.Refusal.TheVariants.{OrdersDiffer}
use Rattle.refusals.specs.Checks.{unless}
use Rattle.groups.specs.declared.residue.Residue.{Residue}
use Rattle.groups.specs.Circles.{Pair}
use Rattle.kinds.specs.Kinds.{KindModel}
use Rattle.script_kinds.specs.declared.reading.KindCommand.{KindCommand}
use Rattle.script_kinds.specs.declared.answering.KindReply.{KindReply}
use Rattle.script_kinds.specs.KindReplies.{Parts, answer_to, set_over, kind_reply}

by_test : (b : Bool) (u : KindReply) → None ≡ unless b OrdersDiffer → ◌≡◌ {A = Result KindReply Refusal} (Ok u) (cond b (Ok u) (Err OrdersDiffer))
by_test true u e = refl
by_test false u e = cc

pub set_answers : (r : Parts Residue) (k : Parts Pair) (x : KindCommand) (m : KindModel) (y : KindReply) → None ≡ unless (eqb r.0 k.0) OrdersDiffer → m ≡ set_over r k
    → y ≡ answer_to m x → Ok y ≡ kind_reply r k x
set_answers r k x m y e f g =
    ap Ok (g ∙ ap (λ (n : KindModel). answer_to n x) f) ∙ by_test (eqb r.0 k.0) (answer_to (set_over r k) x) e
