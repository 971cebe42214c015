use Rattle.rules.specs.Texts.{rows_in}
use Rattle.rules.proofs.Whole.{write_again}
use Rattle.rules.proofs.again.rewrite.Goals as goal

pub returns : goal.returns
returns c = write_again c.args.text.now (rows_in c.in_ok-table.table) c.in_ok-table.ensures c.args.out.now c.write.new.out c.write.result c.write.ensures
