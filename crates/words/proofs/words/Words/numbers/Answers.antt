use Rattle.std.proofs.Common.{◌≡◌, ℕ, suc, ◌+◌, ◌-◌, ◌<◌, ◌≤◌, List, length, take, set, Ok, Err, Result, sym, ap, ◌∙◌, arith}
use Rattle.std.proofs.lemmas.List.{length-set, take_more_set, take_all}
use Rattle.std.proofs.lemmas.Result.{err_from_is_err_and}
use Rattle.words.specs.declared.fault.Fault.{Fault}
use Rattle.words.specs.Words.{numbers_at, following, after_word}
use Rattle.words.proofs.Listing.{prefixed, numbers_stop, numbers_more, numbers_unended, numbers_ended}
use Rattle.words.proofs.words.Words.numbers.Goals as goal

pub returns-in_err-number : goal.returns-in_err-number
returns-in_err-number g c =
    let i = c.loop-number.number-index in
    let one : g.row.N - i ≡ suc (g.row.N - (i + 1)) = omega arith in
    let p = err_from_is_err_and c.from_residual.result c.from_residual.ensures.1 in
    let stop =
    numbers_stop (take i c.loop-number.number-items) (g.row.N - i) c.loop-number.self.place c.loop-number.self.rest.now (g.row.N - (i + 1)) c.in_err-number.field-0.0 one
    (sym c.number.ensures.value ∙ c.in_err-number.was) in
    p.1 ∙ ap Err p.2 ∙ sym (c.loop-number.invariant.1 ∙ stop)

pub loop-number-preserved : goal.loop-number-preserved
loop-number-preserved g c =
    let i = c.loop-number.number-index in
    let all = c.loop-number.number-items in
    let x = c.in_ok-number.field-0 in
    let inside : i < length all = omega arith in
    let one : g.row.N - i ≡ suc (g.row.N - (i + 1)) = omega arith in
    let left : ℕ → List ℕ → Result (List ℕ) Fault = λ place rest. prefixed (take (i + 1) (set all i x)) (numbers_at (g.row.N - (i + 1)) place rest) in
    let place = c.loop-number.self.place in
    let rest = c.loop-number.self.rest.now in (
      length-set all i x ∙ c.loop-number.invariant.0,
      c.loop-number.invariant.1 ∙ numbers_more (take i all) (g.row.N - i) place rest (g.row.N - (i + 1)) x one (sym c.number.ensures.value ∙ c.in_ok-number.was)
          ∙ ap (λ xs. prefixed xs (numbers_at (g.row.N - (i + 1)) (following place) (after_word rest))) (sym (take_more_set all i x inside))
          ∙ ap (λ p. left p (after_word rest)) (sym c.number.ensures.counted) ∙ ap (left c.number.new.self.place) (sym c.number.ensures.after),
    )

pub returns-in_err-end : goal.returns-in_err-end
returns-in_err-end g c =
    let i = c.loop-number.number-index in
    let none : g.row.N - i ≡ 0 = omega arith in
    let p = err_from_is_err_and c.from_residual-in_err-end.result c.from_residual-in_err-end.ensures.1 in
    let stop =
    numbers_unended (take i c.loop-number.number-items) (g.row.N - i) c.loop-number.self.place c.loop-number.self.rest.now c.in_err-end.field-0.0 none
    (sym c.end.ensures ∙ c.in_err-end.was) in
    p.1 ∙ ap Err p.2 ∙ sym (c.loop-number.invariant.1 ∙ stop)

pub returns : goal.returns
returns g c =
    let i = c.loop-number.number-index in
    let all = c.loop-number.number-items in
    let none : g.row.N - i ≡ 0 = omega arith in
    let whole : length all ≤ i = omega arith in
    sym (c.loop-number.invariant.1 ∙ numbers_ended (take i all) (g.row.N - i) c.loop-number.self.place c.loop-number.self.rest.now c.in_ok-end.field-0 none
    (sym c.end.ensures ∙ c.in_ok-end.was) ∙ ap Ok (take_all i all whole))
