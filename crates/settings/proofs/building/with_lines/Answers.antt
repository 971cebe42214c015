use Rattle.std.proofs.Common.{◌≡◌, ◌+◌, List, [], ◌∷◌, ◌++◌, map, length, drop, sym, ap, ◌∙◌, ap₂, subst, arith, length-append}
use Rattle.std.specs.Slice.Iter.{iter_rest}
use Rattle.std.proofs.lemmas.List.{length-map}
use Rattle.bounded.specs.Rows.{items}
use Rattle.rules.specs.Tables.{Row, leaf as key_row, node as gate_row, leaves as keys}
use Rattle.rules.specs.Views.{row_of, children_of}
use Rattle.rules.specs.Texts.{rows_in}
use Rattle.rules.proofs.Whole.{table_well_formed}
use Rattle.releases.specs.Entries.{entries, leaves}
use Rattle.settings.specs.Nodes.{entry_of}
use Rattle.settings.proofs.Listing.{drop-map_next, pushed, some_left, next_line, whole, leaves_kept}
use Rattle.settings.proofs.building.with_lines.Goals as goal
use Rattle.settings.proofs.building.with_lines.Goals.{in-Leaf, in-Gate}

pub unwrap-requires : goal.unwrap-requires
unfolding row_of
unwrap-requires c =
    let i = c.loop-entry.entry-index in
    let n = c.in-Leaf.key in
    let b = c.in-Leaf.place in
    let here : drop i (rows_in c.args.table.now) ≡ key_row n b ∷ drop (i + 1) (rows_in c.args.table.now) =
    subst (λ (r : List Row). drop i r ≡ key_row n b ∷ drop (i + 1) r) c.entries-entry-items.ensures
    (drop-map_next row_of c.entries-entry-items.result.now i c.entry-item.result c.loop-entry-test.true c.entry-item.is ∙ ap (λ e. row_of e ∷ drop (i + 1) (map row_of c.entries-entry-items.result.now)) c.in-Leaf.is) in
    let more = ap keys here in
    some_left c.loop-entry.left c.next.new.self c.next.result c.next.ensures.steps (omega (arith, c.loop-entry.invariant.1, more))

pub push-requires : goal.push-requires
push-requires c =
    let es = c.entries-entry-items.result.now in
    let same = ap length c.entries-entry-items.ensures in
    let wf = table_well_formed c.args.table.now in
    (omega arith, omega (arith, same, length-map es row_of, wf.few_rows, c.loop-entry.invariant.2))

pub loop-entry-preserved : goal.loop-entry-preserved
unfolding row_of entry_of
loop-entry-preserved c =
    let rows = rows_in c.args.table.now in
    let es = c.entries-entry-items.result.now in
    let i = c.loop-entry.entry-index in
    let e = c.entry-item.result in
    let nodes = items c.loop-entry.nodes in
    let all = entries rows c.args.lines.now in
    let inv = c.loop-entry.invariant in
    let n = c.match-entry.push in
    let rest = entries (drop (i + 1) rows) (iter_rest c.match-entry.left) in
    let new : items c.push.new.self ≡ nodes ++ n ∷ [] = c.push.ensures in
    let more = ap length new in
    let long = length-append nodes (n ∷ []) in
    let here : drop i rows ≡ row_of e ∷ drop (i + 1) rows =
    subst (λ (r : List Row). drop i r ≡ row_of e ∷ drop (i + 1) r) c.entries-entry-items.ensures
    (drop-map_next row_of es i e c.loop-entry-test.true c.entry-item.is) in
    elim c.match-entry.branch [
      | in-Leaf w ↦
          let l = w.unwrap.result in
          let there : drop i rows ≡ key_row w.in-Leaf.key w.in-Leaf.place ∷ drop (i + 1) rows = here ∙ ap (λ e. row_of e ∷ drop (i + 1) rows) w.in-Leaf.is in
          let goes : iter_rest c.loop-entry.left ≡ l.now ∷ iter_rest c.match-entry.left =
          next_line c.loop-entry.left w.next.new.self w.next.result l w.next.ensures.steps w.unwrap.ensures ∙ ap (λ s. l.now ∷ iter_rest s) (sym w.left-is) in
          let now : entries (drop i rows) (iter_rest c.loop-entry.left) ≡ entry_of n ∷ rest =
          ap₂ entries there goes ∙ ap (λ x. x ∷ rest) (sym w.from.ensures ∙ ap entry_of (sym w.push-is)) in
          let a = ap length goes in
          let b = ap keys there in
          (ap (λ ns. map entry_of ns ++ rest) new ∙ pushed nodes n rest _ all now inv.0, omega (arith, inv.1, a, b), omega (arith, inv.2, more, long))
      | in-Gate w ↦
          let there : drop i rows ≡ gate_row w.in-Gate.threshold (children_of w.in-Gate.children) ∷ drop (i + 1) rows = here ∙ ap (λ e. row_of e ∷ drop (i + 1) rows) w.in-Gate.is in
          let goes : iter_rest c.loop-entry.left ≡ iter_rest c.match-entry.left = ap iter_rest (sym w.left-is) in
          let now : entries (drop i rows) (iter_rest c.loop-entry.left) ≡ entry_of n ∷ rest =
          ap₂ entries there goes ∙ ap (λ x. x ∷ rest) (ap entry_of (sym w.push-is)) in
          let a = ap length goes in
          let b = ap keys there in
          (ap (λ ns. map entry_of ns ++ rest) new ∙ pushed nodes n rest _ all now inv.0, omega (arith, inv.1, a, b), omega (arith, inv.2, more, long))
    ]

pub invariant_of-result : goal.invariant_of-result
invariant_of-result c =
    let rows = rows_in c.args.table.now in
    let wf = table_well_formed c.args.table.now in
    let same = ap length c.entries-entry-items.ensures in
    let past = length-map c.entries-entry-items.result.now row_of in
    let all = whole (items c.loop-entry.nodes) rows c.loop-entry.entry-index _ _ (omega arith) c.loop-entry.invariant.0 in
    record {
      few = omega (arith, c.leaf_count.ensures, wf.few_leaves);
      counted = c.leaf_count.ensures ∙ sym (ap leaves all ∙ leaves_kept rows c.args.lines.now);
    }
