use Rattle.std.proofs.Common.{codes, arith, rules}
use Rattle.words.proofs.Naming.{named}
use Rattle.script_kinds.specs.KindCommands.{verb_of}
use Rattle.script_kinds.proofs.reading.read_verb.Goals as goal

pub returns-in-multiply : goal.returns-in-multiply
returns-in-multiply c = named verb_of c.args.word.now (codes "multiply") (omega arith) (search rules)

pub returns-in-neutral : goal.returns-in-neutral
returns-in-neutral c = named verb_of c.args.word.now (codes "neutral") (omega arith) (search rules)
