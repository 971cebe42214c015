use Rattle.std.proofs.Common.{codes, arith, rules}
use Rattle.words.proofs.Naming.{named}
use Rattle.script.specs.Commands.{other_topic}
use Rattle.script.proofs.command.read_other.Goals as goal

pub returns-in-scalar : goal.returns-in-scalar
returns-in-scalar c = named other_topic c.args.word.now (codes "scalar") (omega arith) (search rules)
