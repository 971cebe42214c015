use Rattle.std.proofs.Common.{◌≡◌, ◌+◌, slice_get, Some, sym, ap, ◌∙◌, arith, lit<}
use Rattle.std.proofs.lemmas.Option.{get_or_from_slice_get}
use Rattle.std.proofs.lemmas.Result.{err_from_is_err_and}
use Rattle.rules.proofs.Steps.{beyond, headed_all, headed_any, headed_of, unheaded_all, unheaded_any, unheaded_of, unheaded_second, unheaded_digit}
use Rattle.rules.proofs.letters.Letters.heading.Goals as goal
use Rattle.rules.proofs.letters.Letters.heading.Goals.{in_default-peek-via-in-Some+in_default, in_default-peek-via-in_default, in_default-via-in-Some+in_default, in_default-via-in_default}

pub returns-in_err-pass-in-Some-l-clause-headed : goal.returns-in_err-pass-in-Some-l-clause-headed
returns-in_err-pass-in-Some-l-clause-headed c =
    let p = err_from_is_err_and c.from_residual.result c.from_residual.ensures.1 in
    rw (p.1, p.2) (unheaded_all c.args.self.now.text.now c.args.self.now.at (sym c.peek.ensures ∙ c.in-Some-a.is ∙ ap Some c.in-Some-a.field-0-test) (sym c.peek-in-Some-a.ensures ∙ c.in-Some-l.is ∙ ap Some c.in-Some-l.field-0-test) c.in_err-pass-in-Some-l.ensures.passed)

pub returns-in_err-pass-in-Some-n-clause-headed : goal.returns-in_err-pass-in-Some-n-clause-headed
returns-in_err-pass-in-Some-n-clause-headed c =
    let p = err_from_is_err_and c.from_residual-in_err-pass-in-Some-n.result c.from_residual-in_err-pass-in-Some-n.ensures.1 in
    rw (p.1, p.2) (unheaded_any c.args.self.now.text.now c.args.self.now.at (sym c.peek.ensures ∙ c.in-Some-a.is ∙ ap Some c.in-Some-a.field-0-test) (sym c.peek-in-Some-a.ensures ∙ c.in-Some-n.is ∙ ap Some c.in-Some-n.field-0-test) c.in_err-pass-in-Some-n.ensures.passed)

pub returns-in_err-pass-in-Some-clause-headed : goal.returns-in_err-pass-in-Some-clause-headed
returns-in_err-pass-in-Some-clause-headed c =
    let p = err_from_is_err_and c.from_residual-in_err-pass-in-Some.result c.from_residual-in_err-pass-in-Some.ensures.1 in
    rw (p.1, p.2) (unheaded_of c.args.self.now.text.now c.args.self.now.at c.in-Some.wanted c.in-Some.ensures.1.1 (omega (arith, c.in-Some.ensures)) (omega (arith, c.in-Some.ensures)) c.in_err-pass-in-Some.ensures.passed)

pub returns-in_ok-pass-in-Some-l-clause-headed : goal.returns-in_ok-pass-in-Some-l-clause-headed
returns-in_ok-pass-in-Some-l-clause-headed c = headed_all c.args.self.now.text.now c.args.self.now.at (sym c.peek.ensures ∙ c.in-Some-a.is ∙ ap Some c.in-Some-a.field-0-test) (sym c.peek-in-Some-a.ensures ∙ c.in-Some-l.is ∙ ap Some c.in-Some-l.field-0-test) c.in_ok-pass-in-Some-l.ensures.passed

pub returns-in_ok-pass-in-Some-n-clause-headed : goal.returns-in_ok-pass-in-Some-n-clause-headed
returns-in_ok-pass-in-Some-n-clause-headed c = headed_any c.args.self.now.text.now c.args.self.now.at (sym c.peek.ensures ∙ c.in-Some-a.is ∙ ap Some c.in-Some-a.field-0-test) (sym c.peek-in-Some-a.ensures ∙ c.in-Some-n.is ∙ ap Some c.in-Some-n.field-0-test) c.in_ok-pass-in-Some-n.ensures.passed

pub returns-in_ok-pass-in-Some-clause-headed : goal.returns-in_ok-pass-in-Some-clause-headed
returns-in_ok-pass-in-Some-clause-headed c = headed_of c.args.self.now.text.now c.args.self.now.at c.in-Some.wanted c.in-Some.ensures.1.1 (omega (arith, c.in-Some.ensures)) (omega (arith, c.in-Some.ensures)) c.in_ok-pass-in-Some.ensures.passed

pub returns-in_default-peek-clause-headed : goal.returns-in_default-peek-clause-headed
returns-in_default-peek-clause-headed c =
    let s = c.args.self.now.text.now in
    let at = c.args.self.now.at in
    let a : slice_get s at ≡ Some 97 = sym c.peek.ensures ∙ c.in-Some-a.is ∙ ap Some c.in-Some-a.field-0-test in
    elim c.in_default-peek.branch [
      | in_default-peek-via-in-Some+in_default w ↦
          (let f = get_or_from_slice_get s (at + 1) _ 0 (sym w.in_default-peek.ensures) in
          unheaded_second s at a (λ e. omega (arith, f, e, w.in_default-peek.field-0-test, w.in_default-peek.field-0-is)) (λ e. omega (arith, f, e, w.in_default-peek.field-0-test, w.in_default-peek.field-0-is)))
      | in_default-peek-via-in_default w ↦
          (let n = sym c.peek-in-Some-a.ensures ∙ w.in_default-peek.is in
          unheaded_second s at a (beyond s (at + 1) 108 n (lit< tt)) (beyond s (at + 1) 110 n (lit< tt)))
    ]

pub returns-in-None-clause-headed : goal.returns-in-None-clause-headed
returns-in-None-clause-headed c =
    let s = c.args.self.now.text.now in
    let at = c.args.self.now.at in
    elim c.in_default.branch [
      | in_default-via-in-Some+in_default w ↦
          (let f = get_or_from_slice_get s at _ 0 (sym w.in_default.ensures) in
          unheaded_digit s at (λ e. omega (arith, f, e, w.in_default.field-0-test, w.in_default.field-0-is)) c.requires c.in-None.ensures)
      | in_default-via-in_default w ↦ unheaded_digit s at (beyond s at 97 (sym c.peek.ensures ∙ w.in_default.is) (lit< tt)) c.requires c.in-None.ensures
    ]
