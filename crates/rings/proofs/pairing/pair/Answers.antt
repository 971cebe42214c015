use Rattle.std.proofs.Common.{◌≡◌, ◌+◌, ◌<◌, [], ◌∷◌, ◌++◌, length, map, drop, Some, None, Err, Result, ok_or, sym, ap, ◌∙◌, arith, lit<}
use Rattle.std.proofs.lemmas.List.{length-append}
use Rattle.std.proofs.lemmas.Result.{err_from_is_err_and}
use Rattle.refusals.specs.declared.Refusal.{Refusal}
use Rattle.refusals.specs.declared.Refusal.TheVariants.{NotInRing}
use Rattle.rings.specs.declared.line.Line.{Line}
use Rattle.rules.specs.Tables.{leaf, node, leaves}
use Rattle.rules.specs.Views.{row_of, children_of}
use Rattle.rules.proofs.Whole.{table_well_formed}
use Rattle.rings.specs.Rings.{lines_in}
use Rattle.rings.specs.Pairings.{line_of, pair_refusal, paired}
use Rattle.rings.proofs.Rows.{next_row, leaf_missing, leaf_refusal, leaf_paired, leaf_counted, gate_refusal, gate_paired, gate_counted}
use Rattle.rings.proofs.pairing.pair.Goals as goal
use Rattle.rings.proofs.pairing.pair.Goals.{in-Leaf+in_ok-line, in_default}

pub returns-in_err-line-clause-refuses : goal.returns-in_err-line-clause-refuses
unfolding row_of
returns-in_err-line-clause-refuses c =
    let entries = c.entries-entry-items.result.now in
    let ls = lines_in c.args.ring.now in
    let i = c.loop-entry.entry-index in
    let key = c.in-Leaf.key in
    let place = c.in-Leaf.place in
    let p = err_from_is_err_and c.from_residual.result c.from_residual.ensures.1 in
    let missing : line_of ls key ≡ None = ap (λ ts. line_of ts key) (sym c.deref.ensures) ∙ sym c.find_line.ensures ∙ c.in_err-line.ensures.ok_part in
    let why : ◌≡◌ {A = Result Line Refusal} (Err c.in_err-line.field-0.0) (Err (NotInRing place)) = c.in_err-line.ensures.value ∙ ap (λ o. ok_or o (NotInRing place)) c.in_err-line.ensures.ok_part in
    let same : c.in_err-line.field-0.0 ≡ NotInRing place = cc in
    rw (p.1, p.2)
    (ap Some same ∙ sym (leaf_missing (map row_of (drop i entries)) (map row_of (drop (i + 1) entries)) ls key place (next_row entries i c.entry-item.result (leaf key place) c.loop-entry-test.true c.entry-item.is (ap row_of c.in-Leaf.is)) missing)
    ∙ sym c.loop-entry.invariant.0 ∙ ap (λ es. pair_refusal es ls) c.entries-entry-items.ensures)

pub push-requires : goal.push-requires
unfolding row_of
push-requires c =
    let entries = c.entries-entry-items.result.now in
    let i = c.loop-entry.entry-index in
    let counted = leaf_counted (map row_of (drop i entries)) (map row_of (drop (i + 1) entries)) (lines_in c.args.ring.now) c.in-Leaf.key c.in-Leaf.place (next_row entries i c.entry-item.result (leaf c.in-Leaf.key c.in-Leaf.place) c.loop-entry-test.true c.entry-item.is (ap row_of c.in-Leaf.is)) in
    let h : length (lines_in c.loop-entry.lines) < 16 = omega (arith, counted, (table_well_formed c.args.table.now).few_leaves, ap leaves c.entries-entry-items.ensures, c.loop-entry.invariant.2) in
    (lit< tt, h)

pub loop-entry-preserved : goal.loop-entry-preserved
unfolding row_of
loop-entry-preserved c =
    let entries = c.entries-entry-items.result.now in
    let ls = lines_in c.args.ring.now in
    let i = c.loop-entry.entry-index in
    let left = map row_of (drop i entries) in
    let rest = map row_of (drop (i + 1) entries) in
    let inv = c.loop-entry.invariant in
    elim c.match-entry.branch [
      | in-Leaf+in_ok-line w ↦
          let key = w.in-Leaf.key in
          let place = w.in-Leaf.place in
          let line = w.in_ok-line.line in
          let is : left ≡ leaf key place ∷ rest = next_row entries i c.entry-item.result (leaf key place) c.loop-entry-test.true c.entry-item.is (ap row_of w.in-Leaf.is) in
          let found : line_of ls key ≡ Some line = ap (λ ts. line_of ts key) (sym w.deref.ensures) ∙ sym w.find_line.ensures ∙ w.in_ok-line.ensures.ok_part in
          let pushed : lines_in c.match-entry.lines ≡ lines_in c.loop-entry.lines ++ line ∷ [] = ap lines_in w.lines-is ∙ w.push.ensures in (
            inv.0 ∙ leaf_refusal left rest ls key place is line found,
            ap (λ ts. ts ++ paired rest ls) pushed ∙ leaf_paired left rest ls key place is line found (lines_in c.loop-entry.lines) ∙ inv.1,
            omega (arith, ap length pushed, length-append (lines_in c.loop-entry.lines) (line ∷ []), leaf_counted left rest ls key place is, inv.2),
          )
      | in_default w ↦
          let k = w.in_default.field-0 in
          let cs = children_of w.in_default.field-1 in
          let is : left ≡ node k cs ∷ rest = next_row entries i c.entry-item.result (node k cs) c.loop-entry-test.true c.entry-item.is (ap row_of w.in_default.is) in (
            inv.0 ∙ gate_refusal left rest ls k cs is,
            ap (λ ts. lines_in ts ++ paired rest ls) w.lines-is ∙ ap (λ r. lines_in c.loop-entry.lines ++ r) (sym (gate_paired left rest ls k cs is)) ∙ inv.1,
            omega (arith, ap (λ ts. length (lines_in ts)) w.lines-is, gate_counted left rest ls k cs is, inv.2),
          )
    ]
