use Rattle.rules.proofs.Whole.{table_well_formed}
use Rattle.rules.proofs.table.Table.len.Goals as goal

pub returns-clause-formed : goal.returns-clause-formed
returns-clause-formed c = table_well_formed c.args.self.now
