use Rattle.std.proofs.Common.{◌≡◌, [], ◌++◌, length, Some, sym, ap, ◌∙◌, slice_index_or, append-nil}
use Rattle.std.proofs.lemmas.Bool.{eqb-false}
use Rattle.std.proofs.lemmas.List.{drop_all}
use Rattle.std.proofs.lemmas.Result.{err_from_is_err_and}
use Rattle.rings.specs.Rings.{line_at, lines_in, line_refusal}
use Rattle.rings.proofs.Reading.{lines_of, all_lines, all_passed, one_refused}
use Rattle.rings.proofs.ring.read_ring.Goals as goal

pub returns-in_err-check_line-clause-refuses : goal.returns-in_err-check_line-clause-refuses
returns-in_err-check_line-clause-refuses g c =
    let m = g.S.LeafKinds.meaning c.args.set.now in
    let chunks = c.as_chunks.result.0.now in
    let i = c.loop-i.i in
    let last = c.loop-i.last in
    let some = eqb-false (length chunks) 0 (sym c.is_empty.ensures ∙ c.if-is_empty.false) in
    let p = err_from_is_err_and c.from_residual.result c.from_residual.ensures.1 in
    let here : Some c.in_err-check_line.field-0.0 ≡ line_refusal m last i (line_at (slice_index_or chunks i []) 0) = c.in_err-check_line.ensures ∙ ap (line_refusal m last i) c.from-line.ensures in
    rw (p.1, p.2) (one_refused c.args.bytes.now chunks c.as_chunks.ensures.front m (length c.as_chunks.result.1.now) c.as_chunks.ensures.front_len c.as_chunks.ensures.back_len c.in_default-empty.len_below some c.if-chunks-gt-MOST_LINES.false last i c.loop-i.invariant.1 c.loop-i-test.true c.in_err-check_line.field-0.0 here)

pub returns-clause-refuses : goal.returns-clause-refuses
returns-clause-refuses g c =
    let m = g.S.LeafKinds.meaning c.args.set.now in
    let chunks = c.as_chunks.result.0.now in
    let some = eqb-false (length chunks) 0 (sym c.is_empty.ensures ∙ c.if-is_empty.false) in
    all_passed c.args.bytes.now chunks c.as_chunks.ensures.front m (length c.as_chunks.result.1.now) c.as_chunks.ensures.front_len c.as_chunks.ensures.back_len c.in_default-empty.len_below some c.if-chunks-gt-MOST_LINES.false c.loop-i.last c.loop-i.i c.loop-i.invariant.1 c.loop-i-test.false

pub returns-clause-reads : goal.returns-clause-reads
returns-clause-reads g c =
    let chunks = c.as_chunks.result.0.now in
    sym (append-nil (lines_in c.loop-i.lines)) ∙ ap (λ cs. lines_in c.loop-i.lines ++ lines_of cs) (sym (drop_all c.loop-i.i chunks c.loop-i-test.false)) ∙ c.loop-i.invariant.2 ∙ all_lines c.args.bytes.now chunks c.as_chunks.ensures.front
