use Rattle.std.proofs.Common.{codes, arith, rules}
use Rattle.words.proofs.Naming.{named}
use Rattle.script.specs.GroupCommands.{kind_of}
use Rattle.script.proofs.group_commands.read_kind.Goals as goal

pub returns-in-circle : goal.returns-in-circle
returns-in-circle c = named kind_of c.args.word.now (codes "circle") (omega arith) (search rules)

pub returns-in-residue : goal.returns-in-residue
returns-in-residue c = named kind_of c.args.word.now (codes "residue") (omega arith) (search rules)
