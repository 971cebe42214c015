use Rattle.std.proofs.Common.{◌+◌, ◌<◌, length, refl, arith, lit<}
use Rattle.std.proofs.lemmas.Result.{err_from_is_err_and}
use Rattle.bounded.specs.Rows.{items}
use Rattle.rules.specs.declared.entry.Entry.TheVariants.{Leaf}
use Rattle.rules.specs.declared.entry.Entries.{Entries}
use Rattle.rules.specs.Views.{row_of}
use Rattle.rules.proofs.Steps.{inside}
use Rattle.rules.proofs.Rows.{listing_length, listing_push}
use Rattle.rules.proofs.Items.{leaf_deep, leaf_many, leaf_number, leaf_read}
use Rattle.rules.proofs.reading.Reader.leaf.Goals as goal

pub returns-then-depth-eq0-clause-read : goal.returns-then-depth-eq0-clause-read
returns-then-depth-eq0-clause-read c = leaf_deep c.args.self.now.letters.text.now c.args.self.now.letters.at c.args.depth c.args.self.now.entries.keys c.requires.is c.if-depth-eq0.true

pub returns-then-self-eq-MOST_KEYS-clause-read : goal.returns-then-self-eq-MOST_KEYS-clause-read
returns-then-self-eq-MOST_KEYS-clause-read c = leaf_many c.args.self.now.letters.text.now c.args.self.now.letters.at c.args.depth c.args.self.now.entries.keys c.requires.is (omega arith) c.if-self-eq-MOST_KEYS.true

pub overflow_add-self : goal.overflow_add-self
overflow_add-self c = omega (arith, inside c.args.self.now.letters.text.now c.args.self.now.letters.at 75 c.requires.is)

pub returns-in_err-key-clause-read : goal.returns-in_err-key-clause-read
returns-in_err-key-clause-read c =
    let p = err_from_is_err_and c.from_residual.result c.from_residual.ensures.1 in
    rw (p.1, p.2) (leaf_number c.args.self.now.letters.text.now c.args.self.now.letters.at c.args.depth c.args.self.now.entries.keys c.requires.is (omega arith) (omega arith) c.in_err-key.ensures.numbered)

pub push-requires : goal.push-requires
push-requires c =
    let h : length (items c.args.self.now.entries.list) < 40 = omega (arith, listing_length c.args.self.now.entries) in
    (lit< tt, h)

pub returns-clause-read : goal.returns-clause-read
unfolding row_of
returns-clause-read c =
    let old = c.args.self.now.entries in
    let new : Entries = record { list = c.push.new.self; keys = old.keys + 1 } in
    leaf_read c.args.self.now.letters.text.now c.args.self.now.letters.at c.args.depth old new c.in_ok-key.key c.number.new.self.at c.requires.is (omega arith) (omega arith) c.in_ok-key.ensures.numbered refl (listing_push old new (Leaf c.in_ok-key.key c.args.self.now.letters.at) c.push.ensures)
