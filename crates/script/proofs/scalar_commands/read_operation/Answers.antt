use Rattle.std.proofs.Common.{codes, arith, rules}
use Rattle.words.proofs.Naming.{named}
use Rattle.script.specs.ScalarCommands.{operation_of}
use Rattle.script.proofs.scalar_commands.read_operation.Goals as goal

pub returns-in-divide : goal.returns-in-divide
returns-in-divide c = named operation_of c.args.word.now (codes "divide") (omega arith) (search rules)

pub returns-in-multiply : goal.returns-in-multiply
returns-in-multiply c = named operation_of c.args.word.now (codes "multiply") (omega arith) (search rules)
