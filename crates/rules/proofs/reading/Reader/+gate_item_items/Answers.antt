use Rattle.std.proofs.Common.{◌≡◌, ℕ, ◌+◌, ◌-◌, ◌<◌, [], ◌∷◌, ◌++◌, length, set, Some, slice_get, get_or, unwrap_or, sym, refl, ap, ap₂, subst, ◌∙◌, arith, lit<}
use Rattle.std.proofs.lemmas.List.{length-append, get_or_past}
use Rattle.std.proofs.lemmas.Option.{get_or_from_slice_get, unwrap_or-slice_get}
use Rattle.std.proofs.lemmas.Result.{err_from_is_err_and}
use Rattle.bounded.specs.Rows.{items}
use Rattle.rules.specs.declared.entry.Entry.TheVariants.{Leaf, Gate}
use Rattle.rules.specs.declared.entry.Entries.{Entries}
use Rattle.rules.specs.Faults.{digit, fits, threshold}
use Rattle.rules.specs.ReaderSteps.{Item, Items, Refused}
use Rattle.rules.specs.Tables.{node, leaf}
use Rattle.rules.specs.Views.{row_of, children_of, listing}
use Rattle.rules.proofs.Rows.{within, listing_length, listing_push, listing_set}
use Rattle.rules.proofs.Steps.{inside, beyond, past_end, outside_lo, outside_hi}
use Rattle.rules.proofs.Items.{gate_deep, gate_unclosed, gate_closed, item_unexpected, items_full, items_other, items_last, items_refused, going_on}
use Rattle.rules.proofs.reading.Reader.+gate_item_items.Goals as goal
use Rattle.rules.proofs.reading.Reader.+gate_item_items.Goals.{items-in_default-via-in-Some+in_default, items-in_default-via-in_default, item-in_default-via-in-Some+in_default+then-this-lt48, item-in_default-via-in-Some+in_default+else-this-lt48+else-this-lt58, item-in_default-via-in_default}

pub gate-returns-then-depth-eq0-clause-read : goal.gate-returns-then-depth-eq0-clause-read
gate-returns-then-depth-eq0-clause-read t c = gate_deep c.args.self.now.letters.text.now c.args.self.now.letters.at c.args.depth c.args.self.now.entries.keys c.requires.is c.if-depth-eq0.true

pub gate-push-requires : goal.gate-push-requires
gate-push-requires t c =
    let h : length (items c.args.self.now.entries.list) < 40 = omega (arith, listing_length c.args.self.now.entries) in
    (lit< tt, h)

pub gate-items-requires : goal.gate-items-requires
gate-items-requires t c =
    let old = c.args.self.now.entries in
    let opened : Entries = record { list = c.push.new.self; keys = old.keys } in
    let more : length (listing opened) ≡ length (listing old) + 1 = ap length (listing_push old opened (Leaf 0 0) c.push.ensures) ∙ length-append (listing old) (row_of (Leaf 0 0) ∷ []) in
    (omega arith, record { shallow = omega arith; few = omega arith; room = omega (arith, more) })

pub gate-returns-then-not-may_close-clause-read : goal.gate-returns-then-not-may_close-clause-read
gate-returns-then-not-may_close-clause-read t c =
    let old = c.args.self.now.entries in
    let opened : Entries = record { list = c.push.new.self; keys = old.keys } in
    let closed = c.items.new.self.entries in
    let its : Items c.args.self.now.letters.text.now c.heading.new.self.at (c.args.depth - 1) [] (children_of c.in_ok-children.children) opened closed c.items.new.self.letters.at = subst (λ t. Items t.now c.heading.new.self.at (c.args.depth - 1) [] (children_of c.in_ok-children.children) opened closed c.items.new.self.letters.at) c.in_ok-head.ensures.same c.in_ok-children.ensures.read in
    gate_unclosed c.args.self.now.letters.text.now c.args.self.now.letters.at c.args.depth old opened closed (children_of c.in_ok-children.children) c.in_ok-head.head c.heading.new.self.at c.items.new.self.letters.at (omega arith) c.in_ok-head.ensures.headed (within c.in_ok-children.children) refl its (ap (fits c.in_ok-head.head) (sym c.len-count.ensures.is) ∙ sym c.if-not-may_close.ensures)

pub gate-set-requires : goal.gate-set-requires
gate-set-requires t c =
    let old = c.args.self.now.entries in
    let opened : Entries = record { list = c.push.new.self; keys = old.keys } in
    let closed = c.items.new.self.entries in
    let its : Items c.args.self.now.letters.text.now c.heading.new.self.at (c.args.depth - 1) [] (children_of c.in_ok-children.children) opened closed c.items.new.self.letters.at = subst (λ t. Items t.now c.heading.new.self.at (c.args.depth - 1) [] (children_of c.in_ok-children.children) opened closed c.items.new.self.letters.at) c.in_ok-head.ensures.same c.in_ok-children.ensures.read in
    let more : length (listing opened) ≡ length (listing old) + 1 = ap length (listing_push old opened (Leaf 0 0) c.push.ensures) ∙ length-append (listing old) (row_of (Leaf 0 0) ∷ []) in
    let h : c.len-position.result < length (items closed.list) = omega (arith, more, listing_length old, listing_length closed, its.sized) in
    (lit< tt, h)

pub gate-returns-clause-read : goal.gate-returns-clause-read
unfolding row_of
gate-returns-clause-read t c =
    let old = c.args.self.now.entries in
    let opened : Entries = record { list = c.push.new.self; keys = old.keys } in
    let closed = c.items.new.self.entries in
    let its : Items c.args.self.now.letters.text.now c.heading.new.self.at (c.args.depth - 1) [] (children_of c.in_ok-children.children) opened closed c.items.new.self.letters.at = subst (λ t. Items t.now c.heading.new.self.at (c.args.depth - 1) [] (children_of c.in_ok-children.children) opened closed c.items.new.self.letters.at) c.in_ok-head.ensures.same c.in_ok-children.ensures.read in
    let cs = children_of c.in_ok-children.children in
    let new : Entries = record { list = c.set.new.self; keys = closed.keys } in
    let put : listing new ≡ set (listing closed) (length (listing old)) (node (threshold c.in_ok-head.head (length cs)) cs) = listing_set closed new c.len-position.result (Gate c.wanted-threshold.result c.in_ok-children.children) c.set.ensures ∙ ap₂ (λ (i : ℕ) (k : ℕ). set (listing closed) i (node k cs)) (c.len-position.ensures.is ∙ sym (listing_length old)) (c.wanted-threshold.ensures ∙ ap (threshold c.in_ok-head.head) c.len-count.ensures.is) in
    gate_closed c.args.self.now.letters.text.now c.args.self.now.letters.at c.args.depth old opened closed (children_of c.in_ok-children.children) c.in_ok-head.head c.heading.new.self.at c.items.new.self.letters.at (omega arith) c.in_ok-head.ensures.headed (within c.in_ok-children.children) refl its new (leaf 0 0) (ap (fits c.in_ok-head.head) (sym c.len-count.ensures.is) ∙ sym c.if-not-may_close.ensures) refl (listing_push old opened (Leaf 0 0) c.push.ensures) put

pub item-returns-in_default-clause-read : goal.item-returns-in_default-clause-read
item-returns-in_default-clause-read t c =
    let s = c.args.self.now.letters.text.now in
    let at = c.args.self.now.letters.at in
    let b = unwrap_or c.peek.result 0 in
    let f : get_or s at 0 ≡ b = sym (unwrap_or-slice_get s at 0) ∙ ap (λ o. unwrap_or o 0) (sym c.peek.ensures) in
    elim c.in_default.branch [
      | item-in_default-via-in-Some+in_default+then-this-lt48 w ↦
          (let lo : b < 48 = grind arith in
          item_unexpected s at c.args.depth c.args.self.now.entries.keys (λ e. omega arith) (λ e. omega arith) (ap digit f ∙ outside_lo 48 57 b lo))
      | item-in_default-via-in-Some+in_default+else-this-lt48+else-this-lt58 w ↦
          (let hi : 57 < b = grind arith in
          let n : b ≡ 75 → ⊥ = λ e. grind arith in
          let m : b ≡ 97 → ⊥ = λ e. grind arith in
          item_unexpected s at c.args.depth c.args.self.now.entries.keys (λ e. n (sym f ∙ e)) (λ e. m (sym f ∙ e)) (ap digit f ∙ outside_hi 48 57 b (omega arith) hi))
      | item-in_default-via-in_default w ↦
          (let n = sym c.peek.ensures ∙ w.in_default.is in
          item_unexpected s at c.args.depth c.args.self.now.entries.keys (beyond s at 75 n (lit< tt)) (beyond s at 97 n (lit< tt)) (ap digit (get_or_past s at 0 (past_end s at n))))
    ]

pub items-returns-in_err-item-clause-read : goal.items-returns-in_err-item-clause-read
items-returns-in_err-item-clause-read t c =
    let s = c.args.self.now.letters.text.now in
    let before = c.loop-children.self in
    let after = c.item.new.self in
    let inv = c.loop-children.invariant in
    let p = err_from_is_err_and c.from_residual.result c.from_residual.ensures.1 in
    rw (p.1, p.2) (inv.3.refused _ (items_refused s before.letters.at c.args.depth (length (children_of c.loop-children.children)) before.entries.keys _ (subst (λ t. Refused t.now before.letters.at c.args.depth before.entries.keys c.in_err-item.field-0.0) inv.0 c.in_err-item.ensures.read)))

pub items-returns-then-len-eq-MOST_ITEMS-clause-read : goal.items-returns-then-len-eq-MOST_ITEMS-clause-read
items-returns-then-len-eq-MOST_ITEMS-clause-read t c =
    let s = c.args.self.now.letters.text.now in
    let before = c.loop-children.self in
    let after = c.item.new.self in
    let inv = c.loop-children.invariant in
    let held : children_of c.push.new.self ≡ children_of c.loop-children.children ++ length (listing before.entries) ∷ [] = c.push.ensures ∙ ap (λ n. children_of c.loop-children.children ++ n ∷ []) (c.len.ensures.is ∙ sym (listing_length before.entries)) in
    let it : Item s before.letters.at c.args.depth before.entries after.entries after.letters.at = subst (λ t. Item t.now before.letters.at c.args.depth before.entries after.entries after.letters.at) inv.0 c.in_ok-item.ensures.read in
    let next : c.peek.result ≡ slice_get s after.letters.at = c.peek.ensures ∙ ap (λ t. slice_get t.now after.letters.at) (c.in_ok-item.ensures.same ∙ inv.0) in
    inv.3.refused _ (items_full s before.letters.at c.args.depth (children_of c.loop-children.children) (children_of c.push.new.self) before.entries after.entries after.letters.at it held (sym next ∙ c.in-Some-eq44.is ∙ ap Some c.in-Some-eq44.field-0-test) (omega (arith, c.len-in-Some-eq44.ensures.is)))

pub items-overflow_add-self : goal.items-overflow_add-self
items-overflow_add-self t c = omega (arith, inside c.item.new.self.letters.text.now c.item.new.self.letters.at 44 (sym c.peek.ensures ∙ c.in-Some-eq44.is ∙ ap Some c.in-Some-eq44.field-0-test), ap (λ t. length t.now) (c.in_ok-item.ensures.same ∙ c.loop-children.invariant.0))

pub items-loop-children-preserved : goal.items-loop-children-preserved
items-loop-children-preserved t c =
    let s = c.args.self.now.letters.text.now in
    let before = c.loop-children.self in
    let after = c.item.new.self in
    let inv = c.loop-children.invariant in
    let held : children_of c.push.new.self ≡ children_of c.loop-children.children ++ length (listing before.entries) ∷ [] = c.push.ensures ∙ ap (λ n. children_of c.loop-children.children ++ n ∷ []) (c.len.ensures.is ∙ sym (listing_length before.entries)) in
    let it : Item s before.letters.at c.args.depth before.entries after.entries after.letters.at = subst (λ t. Item t.now before.letters.at c.args.depth before.entries after.entries after.letters.at) inv.0 c.in_ok-item.ensures.read in
    let next : c.peek.result ≡ slice_get s after.letters.at = c.peek.ensures ∙ ap (λ t. slice_get t.now after.letters.at) (c.in_ok-item.ensures.same ∙ inv.0) in
    let less : length (children_of c.push.new.self) < 8 = omega (arith, within c.push.new.self, c.len-in-Some-eq44.ensures.is) in (
      c.in_ok-item.ensures.same ∙ inv.0,
      record { shallow = omega arith; few = it.few; room = omega (arith, it.grown, inv.1.room) },
      less,
      going_on s before.letters.at c.args.depth (children_of c.loop-children.children) (children_of c.push.new.self) before.entries after.entries after.letters.at it held (sym next ∙ c.in-Some-eq44.is ∙ ap Some c.in-Some-eq44.field-0-test) less c.args.self.now.letters.at c.args.self.now.entries inv.3,
    )

pub items-returns-in-Some-eq41-clause-read : goal.items-returns-in-Some-eq41-clause-read
items-returns-in-Some-eq41-clause-read t c =
    let s = c.args.self.now.letters.text.now in
    let before = c.loop-children.self in
    let after = c.item.new.self in
    let inv = c.loop-children.invariant in
    let held : children_of c.push.new.self ≡ children_of c.loop-children.children ++ length (listing before.entries) ∷ [] = c.push.ensures ∙ ap (λ n. children_of c.loop-children.children ++ n ∷ []) (c.len.ensures.is ∙ sym (listing_length before.entries)) in
    let it : Item s before.letters.at c.args.depth before.entries after.entries after.letters.at = subst (λ t. Item t.now before.letters.at c.args.depth before.entries after.entries after.letters.at) inv.0 c.in_ok-item.ensures.read in
    let next : c.peek.result ≡ slice_get s after.letters.at = c.peek.ensures ∙ ap (λ t. slice_get t.now after.letters.at) (c.in_ok-item.ensures.same ∙ inv.0) in
    inv.3.read (children_of c.push.new.self) after.entries after.letters.at (items_last s before.letters.at c.args.depth (children_of c.loop-children.children) (children_of c.push.new.self) before.entries after.entries after.letters.at it held (sym next ∙ c.in-Some-eq41.is ∙ ap Some c.in-Some-eq41.field-0-test))

pub items-returns-in_default-clause-read : goal.items-returns-in_default-clause-read
items-returns-in_default-clause-read t c =
    let s = c.args.self.now.letters.text.now in
    let before = c.loop-children.self in
    let after = c.item.new.self in
    let inv = c.loop-children.invariant in
    let held : children_of c.push.new.self ≡ children_of c.loop-children.children ++ length (listing before.entries) ∷ [] = c.push.ensures ∙ ap (λ n. children_of c.loop-children.children ++ n ∷ []) (c.len.ensures.is ∙ sym (listing_length before.entries)) in
    let it : Item s before.letters.at c.args.depth before.entries after.entries after.letters.at = subst (λ t. Item t.now before.letters.at c.args.depth before.entries after.entries after.letters.at) inv.0 c.in_ok-item.ensures.read in
    let next : c.peek.result ≡ slice_get s after.letters.at = c.peek.ensures ∙ ap (λ t. slice_get t.now after.letters.at) (c.in_ok-item.ensures.same ∙ inv.0) in
    elim c.in_default.branch [
      | items-in_default-via-in-Some+in_default w ↦
          (let f = sym (ap (λ t. get_or t.now after.letters.at 0) (c.in_ok-item.ensures.same ∙ inv.0)) ∙ get_or_from_slice_get after.letters.text.now after.letters.at _ 0 (sym w.in_default.ensures) in
          inv.3.refused _ (items_other s before.letters.at c.args.depth (children_of c.loop-children.children) (children_of c.push.new.self) before.entries after.entries after.letters.at it held (λ e. w.in_default.field-0-test.0.1 (sym f ∙ e)) (λ e. w.in_default.field-0-test.1 (sym f ∙ e))))
      | items-in_default-via-in_default w ↦
          (let n = sym next ∙ w.in_default.is in
          inv.3.refused _ (items_other s before.letters.at c.args.depth (children_of c.loop-children.children) (children_of c.push.new.self) before.entries after.entries after.letters.at it held (beyond s after.letters.at 44 n (lit< tt)) (beyond s after.letters.at 41 n (lit< tt))))
    ]
