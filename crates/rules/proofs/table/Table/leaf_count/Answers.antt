use Rattle.std.proofs.Common.{sym, ap, ◌∙◌}
use Rattle.rules.specs.Tables.{leaves}
use Rattle.rules.proofs.Form.{leaves_keys}
use Rattle.rules.proofs.Lawful.{lawful}
use Rattle.rules.proofs.table.Table.leaf_count.Goals as goal

pub returns : goal.returns
returns c =
    let w = lawful c.args.self.now.entries c.args.self.now.lawful in
    w.counted ∙ sym (leaves_keys w.rule 0 0) ∙ ap leaves (sym w.listed)
