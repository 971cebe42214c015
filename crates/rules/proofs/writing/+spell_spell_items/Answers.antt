use Rattle.std.proofs.Common.{◌≡◌, ◌+◌, ◌-◌, ◌<◌, [], ◌∷◌, ◌++◌, subst, map, length, drop, slice_index, sym, ap, ◌∙◌, arith, lit<}
use Rattle.std.proofs.lemmas.List.{length-append, drop_more, drop_all}
use Rattle.bounded.specs.Rows.{items}
use Rattle.rules.specs.Grammar.{opening}
use Rattle.rules.specs.Views.{row_of}
use Rattle.rules.specs.WriterSteps.{mark_at, CanSpellItems, ItemsSpelt}
use Rattle.rules.proofs.Spelling.{inside, leaf_room, a_leaf, opening_fits, items_fit, closing_fits, a_gate, mark_fits, one_fits, others_fit, mark_later, no_items, more_items}
use Rattle.rules.proofs.writing.+spell_spell_items.Goals as goal

pub spell-offset_bounds-entries-position : goal.spell-offset_bounds-entries-position
spell-offset_bounds-entries-position t c = omega (arith, inside c.args.entries.now c.args.position c.args.depth (items c.args.text.now) c.requires.0 c.requires.1)

pub spell-bounds-entries-position : goal.spell-bounds-entries-position
spell-bounds-entries-position t c = omega (arith, inside c.args.entries.now c.args.position c.args.depth (items c.args.text.now) c.requires.0 c.requires.1)

pub spell-push-requires : goal.spell-push-requires
spell-push-requires t c =
    let h : length (items c.args.text.now) < 240 = omega (arith, leaf_room c.args.entries.now c.args.position c.args.depth (items c.args.text.now) c.in-Leaf.key c.in-Leaf.place c.index-entries-position.result c.in-Leaf.is c.index-entries-position.is c.requires.0 c.requires.1) in
    (lit< tt, h)

pub spell-spell_number-requires : goal.spell-spell_number-requires
spell-spell_number-requires t c = omega (arith, leaf_room c.args.entries.now c.args.position c.args.depth (items c.args.text.now) c.in-Leaf.key c.in-Leaf.place c.index-entries-position.result c.in-Leaf.is c.index-entries-position.is c.requires.0 c.requires.1, ap length c.push.ensures, length-append (items c.args.text.now) (75 ∷ []))

pub spell-spell_opening-requires : goal.spell-spell_opening-requires
spell-spell_opening-requires t c = let w = opening_fits c.args.entries.now c.args.position c.args.depth (items c.args.text.now) c.in-Gate.threshold c.in-Gate.children c.index-entries-position.result c.in-Gate.is c.index-entries-position.is c.requires.0 c.requires.1 in (omega (arith, w.0, c.len.ensures), (omega (arith, w.1, c.len.ensures), w.2))

pub spell-overflow_sub-depth : goal.spell-overflow_sub-depth
spell-overflow_sub-depth t c = omega (arith, inside c.args.entries.now c.args.position c.args.depth (items c.args.text.now) c.requires.0 c.requires.1)

pub spell-spell_items-requires : goal.spell-spell_items-requires
spell-spell_items-requires t c =
    let opened : items c.spell_opening.new.text ≡ items c.args.text.now ++ opening c.in-Gate.threshold (length (items c.in-Gate.children)) = c.spell_opening.ensures ∙ ap (λ n. items c.args.text.now ++ opening c.in-Gate.threshold n) c.len.ensures.is in (
      omega (arith, inside c.args.entries.now c.args.position c.args.depth (items c.args.text.now) c.requires.0 c.requires.1),
      subst (λ cs. CanSpellItems (map row_of c.args.entries.now) cs 40 (c.args.depth - 1) (items c.spell_opening.new.text)) (sym c.deref.ensures) (items_fit c.args.entries.now c.args.position c.args.depth (items c.args.text.now) c.in-Gate.threshold c.in-Gate.children c.index-entries-position.result c.in-Gate.is c.index-entries-position.is (items c.spell_opening.new.text) opened c.requires.0 c.requires.1),
    )

pub spell-push-requires-in-Gate : goal.spell-push-requires-in-Gate
spell-push-requires-in-Gate t c =
    let opened : items c.spell_opening.new.text ≡ items c.args.text.now ++ opening c.in-Gate.threshold (length (items c.in-Gate.children)) = c.spell_opening.ensures ∙ ap (λ n. items c.args.text.now ++ opening c.in-Gate.threshold n) c.len.ensures.is in
    let spelt : ItemsSpelt (map row_of c.args.entries.now) (items c.in-Gate.children) 40 (c.args.depth - 1) (items c.spell_opening.new.text) (items c.spell_items.new.text) = subst (λ cs. ItemsSpelt (map row_of c.args.entries.now) cs 40 (c.args.depth - 1) (items c.spell_opening.new.text) (items c.spell_items.new.text)) c.deref.ensures c.spell_items.ensures in
    let h : length (items c.spell_items.new.text) < 240 = closing_fits c.args.entries.now c.args.position c.args.depth (items c.args.text.now) c.in-Gate.threshold c.in-Gate.children c.index-entries-position.result c.in-Gate.is c.index-entries-position.is (items c.spell_opening.new.text) opened (items c.spell_items.new.text) spelt c.requires.0 c.requires.1 in
    (lit< tt, h)

pub spell-returns-in-Leaf : goal.spell-returns-in-Leaf
spell-returns-in-Leaf t c = a_leaf c.args.entries.now c.args.position c.args.depth (items c.args.text.now) c.in-Leaf.key c.in-Leaf.place c.index-entries-position.result c.in-Leaf.is c.index-entries-position.is (items c.push.new.self) (items c.spell_number.new.text) c.push.ensures c.spell_number.ensures

pub spell-returns-in-Gate : goal.spell-returns-in-Gate
spell-returns-in-Gate t c =
    let opened : items c.spell_opening.new.text ≡ items c.args.text.now ++ opening c.in-Gate.threshold (length (items c.in-Gate.children)) = c.spell_opening.ensures ∙ ap (λ n. items c.args.text.now ++ opening c.in-Gate.threshold n) c.len.ensures.is in
    let spelt : ItemsSpelt (map row_of c.args.entries.now) (items c.in-Gate.children) 40 (c.args.depth - 1) (items c.spell_opening.new.text) (items c.spell_items.new.text) = subst (λ cs. ItemsSpelt (map row_of c.args.entries.now) cs 40 (c.args.depth - 1) (items c.spell_opening.new.text) (items c.spell_items.new.text)) c.deref.ensures c.spell_items.ensures in
    a_gate c.args.entries.now c.args.position c.args.depth (items c.args.text.now) c.in-Gate.threshold c.in-Gate.children c.index-entries-position.result c.in-Gate.is c.index-entries-position.is (items c.spell_opening.new.text) opened (items c.spell_items.new.text) spelt (items c.push-in-Gate.new.self) c.push-in-Gate.ensures

pub spell_items-spell_mark-requires : goal.spell_items-spell_mark-requires
spell_items-spell_mark-requires t c =
    let cs = c.args.children.now in
    let i = c.loop-i.i in
    mark_fits (map row_of c.args.entries.now) c.args.depth (drop i cs) (slice_index cs i) (drop (i + 1) cs) (drop_more cs i 0 c.loop-i-test.true) (mark_at i) (items c.loop-i.text) c.loop-i.invariant.0

pub spell_items-spell-requires : goal.spell_items-spell-requires
spell_items-spell-requires t c =
    let cs = c.args.children.now in
    let i = c.loop-i.i in (
      omega arith,
      one_fits (map row_of c.args.entries.now) c.args.depth (drop i cs) (slice_index cs i) (drop (i + 1) cs) (drop_more cs i 0 c.loop-i-test.true) (mark_at i) (items c.loop-i.text) (items c.spell_mark.new.text) c.spell_mark.ensures c.loop-i.invariant.0,
    )

pub spell_items-loop-i-preserved : goal.spell_items-loop-i-preserved
spell_items-loop-i-preserved t c =
    let es = map row_of c.args.entries.now in
    let cs = c.args.children.now in
    let i = c.loop-i.i in
    let left = drop (i + 1) cs in
    let are : drop i cs ≡ slice_index cs i ∷ left = drop_more cs i 0 c.loop-i-test.true in
    rw (mark_later i) (
      others_fit es c.args.depth (drop i cs) (slice_index cs i) left are (mark_at i) (items c.loop-i.text) (items c.spell_mark.new.text) c.spell_mark.ensures (items c.spell.new.text) c.spell.ensures c.loop-i.invariant.0,
      λ end j. c.loop-i.invariant.1 end (more_items es c.args.depth (drop i cs) (slice_index cs i) left are (mark_at i) (items c.loop-i.text) (items c.spell_mark.new.text) c.spell_mark.ensures (items c.spell.new.text) c.spell.ensures end j),
    )

pub spell_items-returns : goal.spell_items-returns
spell_items-returns t c = c.loop-i.invariant.1 (items c.loop-i.text) (no_items (map row_of c.args.entries.now) c.args.depth (drop c.loop-i.i c.args.children.now) (mark_at c.loop-i.i) (items c.loop-i.text) (drop_all c.loop-i.i c.args.children.now (omega arith)))
