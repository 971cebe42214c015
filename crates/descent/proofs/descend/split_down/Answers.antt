use Rattle.std.proofs.Common.{◌≡◌, ◌+◌, ◌-◌, ◌<◌, T, length, get_or, take, drop, refl, sym, ap, subst, ◌∙◌, arith, length-drop}
use Rattle.std.proofs.lemmas.List.{length-map, get_or_read}
use Rattle.rules.specs.Views.{row_of, children_of}
use Rattle.rules.specs.Texts.{rows_in}
use Rattle.rules.proofs.Whole.{table_well_formed}
use Rattle.descent.specs.Descents.{before, AtGate, Descends}
use Rattle.descent.proofs.Shares.{before_none, before_more, before_rises, share_room, row_at, gate_row, leaf_row}
use Rattle.descent.proofs.Moved.{to_end, part_members}
use Rattle.descent.proofs.Going.{Passed, passed_none, passed_leaf, passed_gate, passed_all}
use Rattle.descent.proofs.descend.split_down.Goals as goal
use Rattle.descent.proofs.descend.split_down.Goals.{in-Gate, in_default}

pub loop-i-init : goal.loop-i-init
loop-i-init g c =
    let m = g.F.Field.model c.args.field.now in
    let es = rows_in c.args.table.now in
    let xs = c.fill.new.to in (
      c.fill.auto.to ∙ c.requires.sizes.0,
      sym (before_none es),
      omega arith,
      omega arith,
      passed_none m es (table_well_formed c.args.table.now) (get_or xs 0 m.zero) c.args.shares.now xs
          (λ p h. subst (λ x. T (m.member x)) (sym (c.fill.ensures p m.zero h)) c.requires.elements.0) refl,
    )

pub split_gate-requires : goal.split_gate-requires
split_gate-requires g c =
    let m = g.F.Field.model c.args.field.now in
    let formed = table_well_formed c.args.table.now in
    let es = rows_in c.args.table.now in
    let i = c.loop-i.i in
    let cs = children_of c.in-Gate.children in
    let k = c.in-Gate.threshold in
    let e = c.entry-item.result in
    let at = gate_row es i k c.in-Gate.children e (row_at c.entries-entry-items.result.now es i e c.entries-entry-items.ensures c.loop-i-test.true c.entry-item.is) c.in-Gate.is in
    let ss = c.args.shares.now in
    let fits = formed.fits i k cs at in
    let inv = c.loop-i.invariant in
    let here : i < length es = omega (arith, c.loop-i-test.true, length-map c.entries-entry-items.result.now row_of, ap length c.entries-entry-items.ensures) in
    let room = share_room es i k (length ss) cs at here c.requires.sizes.1 in
    let inside : i < length c.loop-i.challenges = omega (arith, here, inv.0) in
    let own : c.index-challenges-i.result ≡ get_or c.loop-i.challenges i m.zero =
    get_or_read c.loop-i.challenges i c.index-challenges-i.result inside c.index-challenges-i.is m.zero in
    let rest : length (take (length ss - c.loop-i.used) (drop c.loop-i.used ss)) ≡ length ss - c.loop-i.used = ap length (to_end ss c.loop-i.used) ∙ length-drop c.loop-i.used ss in
    record {
      sizes = (fits.1, (fits.3, omega (arith, rest, room, inv.1)));
      elements = (
        subst (λ x. T (m.member x)) (sym own) (inv.4.members i inside),
        part_members (λ x. T (m.member x)) m.zero ss c.loop-i.used inv.3 c.requires.elements.1,
      );
      inside = λ j h. omega (arith, (formed.later i k cs at j h).1, inv.0);
      rising = formed.rising i k cs at;
    }

pub loop-i-preserved : goal.loop-i-preserved
loop-i-preserved g c =
    let m = g.F.Field.model c.args.field.now in
    let t = c.args.table.now in
    let es = rows_in t in
    let formed = table_well_formed t in
    let i = c.loop-i.i in
    let inv = c.loop-i.invariant in
    let first = get_or c.fill.new.to 0 m.zero in
    let e = c.entry-item.result in
    let row = row_at c.entries-entry-items.result.now es i e c.entries-entry-items.ensures c.loop-i-test.true c.entry-item.is in
    let here : i < length es = omega (arith, c.loop-i-test.true, length-map c.entries-entry-items.result.now row_of, ap length c.entries-entry-items.ensures) in
    let more = before_more es i (row_of e) row in
    let ss = c.args.shares.now in
    let xs = c.loop-i.challenges in
    let ys = c.match-entry.challenges in
    let passed : Passed m es formed first ss (i + 1) ys = elim c.match-entry.branch [
      | in-Gate w ↦
          let cs = children_of w.in-Gate.children in
          let k = w.in-Gate.threshold in
          let at = gate_row es i k w.in-Gate.children e row w.in-Gate.is in
          let inside : i < length xs = omega (arith, here, inv.0) in
          let own : w.index-challenges-i.result ≡ get_or xs i m.zero = get_or_read xs i w.index-challenges-i.result inside w.index-challenges-i.is m.zero in
          let part : take (length ss - c.loop-i.used) (drop c.loop-i.used ss) ≡ drop (before es i) ss = to_end ss c.loop-i.used ∙ ap (λ n. drop n ss) inv.1 in
          let gate : AtGate m k cs (get_or xs i m.zero) (drop (before es i) ss) xs ys =
          subst (λ x. AtGate m k cs x (drop (before es i) ss) xs ys) own
          (subst (λ p. AtGate m k cs w.index-challenges-i.result p xs ys) part
          (subst (λ ch. AtGate m k cs w.index-challenges-i.result (take (length ss - c.loop-i.used) (drop c.loop-i.used ss)) xs ch) (sym w.challenges-is) w.split_gate.ensures)) in
          passed_gate m es formed first ss i k cs at xs ys c.match-entry.auto.challenges gate inv.4
      | in_default w ↦
          subst (λ ch. Passed m es formed first ss (i + 1) ch) (sym w.challenges-is)
          (passed_leaf m es formed first ss xs i w.in_default.field-0 w.in_default.field-1 (leaf_row es i w.in_default.field-0 w.in_default.field-1 e row w.in_default.is) inv.4)
    ] in (
      c.match-entry.auto.challenges ∙ inv.0,
      omega (arith, c.share-used.ensures.is, inv.1, more),
      omega (arith, c.share-used.ensures.few, inv.2),
      omega (arith, c.share-used.ensures.is, inv.1, more, before_rises es (i + 1) (length es) (omega arith), c.requires.sizes.1),
      passed,
    )

pub returns : goal.returns
returns g c =
    let m = g.F.Field.model c.args.field.now in
    let t = c.args.table.now in
    let es = rows_in t in
    let xs = c.fill.new.to in
    let some_row = (table_well_formed t).some_row in
    let first : get_or xs 0 m.zero ≡ c.args.challenge = c.fill.ensures 0 m.zero (omega (arith, c.fill.auto.to, c.requires.sizes.0)) in
    subst (λ x. Descends m es x c.args.shares.now c.loop-i.challenges) first
    (passed_all m es (table_well_formed t) (get_or xs 0 m.zero) c.args.shares.now c.loop-i.challenges c.loop-i.i
    (omega (arith, c.loop-i-test.false, length-map c.entries-entry-items.result.now row_of, ap length c.entries-entry-items.ensures)) c.loop-i.invariant.4)
