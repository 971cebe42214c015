use Rattle.std.proofs.Common.{map, ◌∙◌, ap, List, ◌++◌}
use Rattle.bounded.specs.Rows.{items}
use Rattle.rules.specs.Grammar.{text}
use Rattle.rules.specs.Views.{row_of}
use Rattle.rules.proofs.Lawful.{lawful}
use Rattle.rules.proofs.Spelling.{whole}
use Rattle.rules.proofs.Whole.{write_whole}
use Rattle.rules.proofs.writing.spelled.Goals as goal

pub spell-requires : goal.spell-requires
spell-requires c =
    let w = lawful c.args.table.now.entries c.args.table.now.lawful in
    (w.rule, whole (map row_of c.entries.result.now) (items c.blank-text.result) c.blank-text.ensures.none w.rule w.legal (c.entries.ensures ∙ w.listed))

pub returns : goal.returns
returns c =
    let t = c.args.table.now.entries in
    let w = lawful t c.args.table.now.lawful in
    write_whole t w (items c.spell.new.text) (c.spell.ensures w.rule (whole (map row_of c.entries.result.now) (items c.blank-text.result) c.blank-text.ensures.none w.rule w.legal (c.entries.ensures ∙ w.listed)) ∙ ap (λ (xs : List _). xs ++ text w.rule) c.blank-text.ensures.none)
