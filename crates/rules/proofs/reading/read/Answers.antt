use Rattle.std.proofs.Common.{inl, inr, sym, refl, ◌∙◌, ap, length, arith}
use Rattle.std.proofs.lemmas.Bool.{eqb-true, eqb-false}
use Rattle.std.proofs.lemmas.Result.{err_from_is_err_and}
use Rattle.rules.specs.declared.entry.Entries.{Entries}
use Rattle.rules.proofs.Rows.{listing_none}
use Rattle.rules.proofs.Whole.{read_length, read_refused, read_trailing, read_whole, read_lawful}
use Rattle.rules.proofs.reading.read.Goals as goal
use Rattle.rules.proofs.reading.read.Goals.{then-is_empty-via-then-is_empty, then-is_empty-via-else-is_empty+then-text-gt-MOST_BYTES}

pub returns-then-is_empty : goal.returns-then-is_empty
returns-then-is_empty c = read_length c.args.text.now (elim c.then-is_empty.branch [ then-is_empty-via-then-is_empty w ↦ inl (eqb-true (length c.args.text.now) 0 (sym c.is_empty.ensures ∙ w.if-is_empty.true)) | then-is_empty-via-else-is_empty+then-text-gt-MOST_BYTES w ↦ inr w.if-text-gt-MOST_BYTES.true ])

pub item-requires : goal.item-requires
item-requires c =
    let new : Entries = record { list = c.blank.result; keys = 0 } in
    let none = ap length (listing_none new c.blank.ensures.none) in
    record { shallow = omega arith; few = omega arith; room = omega (arith, none) }

pub returns-in_err-item : goal.returns-in_err-item
returns-in_err-item c =
    let new : Entries = record { list = c.blank.result; keys = 0 } in
    let some = eqb-false (length c.args.text.now) 0 (sym c.is_empty.ensures ∙ c.if-is_empty.false) in
    let p = err_from_is_err_and c.from_residual.result c.from_residual.ensures.1 in
    rw (p.1, p.2) (read_refused c.args.text.now (omega (arith, some)) (omega arith) new refl c.in_err-item.ensures.read)

pub returns-then-end-text : goal.returns-then-end-text
returns-then-end-text c =
    let new : Entries = record { list = c.blank.result; keys = 0 } in
    let some = eqb-false (length c.args.text.now) 0 (sym c.is_empty.ensures ∙ c.if-is_empty.false) in
    read_trailing c.args.text.now (omega (arith, some)) (omega arith) new refl c.item.new.self.entries c.item.new.self.letters.at c.in_ok-item.ensures.read c.if-end-text.true

pub returns : goal.returns
returns c =
    let new : Entries = record { list = c.blank.result; keys = 0 } in
    let some = eqb-false (length c.args.text.now) 0 (sym c.is_empty.ensures ∙ c.if-is_empty.false) in
    read_whole c.args.text.now (omega (arith, some)) (omega arith) new refl c.item.new.self.entries c.item.new.self.letters.at c.in_ok-item.ensures.read c.if-end-text.false (listing_none new c.blank.ensures.none)

pub invariant_of-result : goal.invariant_of-result
invariant_of-result c =
    let new : Entries = record { list = c.blank.result; keys = 0 } in
    let some = eqb-false (length c.args.text.now) 0 (sym c.is_empty.ensures ∙ c.if-is_empty.false) in
    record { lawful = ∣ read_lawful c.args.text.now (omega (arith, some)) (omega arith) new refl c.item.new.self.entries c.item.new.self.letters.at c.in_ok-item.ensures.read c.if-end-text.false (listing_none new c.blank.ensures.none) ∣₁ }
