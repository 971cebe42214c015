use Rattle.rules.specs.Texts.{rows_in}
use Rattle.rules.proofs.Whole.{read_again}
use Rattle.rules.proofs.again.reread.Goals as goal

pub returns : goal.returns
returns c = read_again (rows_in c.args.table.now) c.write.new.out c.in_ok-write.ensures _ c.read.result c.read.ensures
