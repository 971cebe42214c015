use Rattle.std.proofs.Common.{codes, arith, rules}
use Rattle.words.proofs.Naming.{named}
use Rattle.script.specs.GroupCommands.{verb_of}
use Rattle.script.proofs.group_commands.read_verb.Goals as goal

pub returns-in-element : goal.returns-in-element
returns-in-element c = named verb_of c.args.word.now (codes "element") (omega arith) (search rules)

pub returns-in-multiply : goal.returns-in-multiply
returns-in-multiply c = named verb_of c.args.word.now (codes "multiply") (omega arith) (search rules)
