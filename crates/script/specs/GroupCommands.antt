-- Commands on groups, read from the words of a line.
--   verb_of w                      the verb that the word w is
--   kind_of w                      the kind of groups that the word w names
--   kind_at place bs               the first word of bs as the kind of a group
--   command_at verb kind place bs  the command of this verb and kind, from the numbers after them
--   group_command verb place bs    the command of this verb, from the words after it
use Rattle.std.specs.Prelude.{ℕ, cond, List, Some, None, Ok, Err, codes, Option, Result}
use Rattle.std.specs.Str.{bytes_eq}
use Rattle.words.specs.declared.kind.Kind as kinds
use Rattle.words.specs.declared.kind.Kind.TheVariants.{Residue, Circle}
use Rattle.words.specs.declared.fault.Fault.{Fault}
use Rattle.words.specs.declared.fault.Expected.TheVariants.{Kind as AKind}
use Rattle.script.specs.declared.questions.Question.TheVariants as asks
use Rattle.script.specs.declared.group_commands.Verb.{Verb}
use Rattle.script.specs.declared.group_commands.Verb.TheVariants as verbs
use Rattle.script.specs.declared.group_commands.GroupCommand.{GroupCommand}
use Rattle.script.specs.declared.group_commands.GroupCommand.TheVariants.{MakeResidue, MakeCircle, Ask}
use Rattle.words.specs.Words.{fault, read_at, after_word, following, numbers_at, built, at}

abbrev pub verb_of : List ℕ → Option Verb
verb_of w =
    cond (bytes_eq w (codes "group")) (Some verbs.Make)
    (cond (bytes_eq w (codes "element")) (Some verbs.Element)
    (cond (bytes_eq w (codes "multiply")) (Some verbs.Multiply) (cond (bytes_eq w (codes "power")) (Some verbs.Power) None)))

abbrev pub kind_of : List ℕ → Option kinds.Kind
kind_of w = cond (bytes_eq w (codes "residue")) (Some Residue) (cond (bytes_eq w (codes "circle")) (Some Circle) None)

abbrev pub kind_at : ℕ → List ℕ → Result kinds.Kind Fault
kind_at place bs = read_at kind_of (fault place AKind) bs

abbrev pub make_residue : List ℕ → GroupCommand
make_residue n = MakeResidue (at n 0) (at n 1) (at n 2) (at n 3)

abbrev pub make_circle : List ℕ → GroupCommand
make_circle n = MakeCircle (at n 0) (at n 1) (at n 2, at n 3) (at n 4, at n 5)

abbrev pub ask_element : kinds.Kind → List ℕ → GroupCommand
ask_element kind n = Ask kind (asks.Element (at n 0, at n 1))

abbrev pub ask_product : kinds.Kind → List ℕ → GroupCommand
ask_product kind n = Ask kind (asks.Multiply (at n 0, at n 1) (at n 2, at n 3))

abbrev pub ask_power : kinds.Kind → List ℕ → GroupCommand
ask_power kind n = Ask kind (asks.Power (at n 0, at n 1) (at n 2))

abbrev pub command_at : Verb → kinds.Kind → ℕ → List ℕ → Result GroupCommand Fault
command_at verbs.Make Residue place bs = built make_residue (numbers_at 4 place bs)
command_at verbs.Make Circle place bs = built make_circle (numbers_at 6 place bs)
command_at verbs.Element kind place bs = built (ask_element kind) (numbers_at 2 place bs)
command_at verbs.Multiply kind place bs = built (ask_product kind) (numbers_at 4 place bs)
command_at verbs.Power kind place bs = built (ask_power kind) (numbers_at 3 place bs)

abbrev pub command_of_kind : Verb → Result kinds.Kind Fault → ℕ → List ℕ → Result GroupCommand Fault
command_of_kind verb (Err why) place bs = Err why
command_of_kind verb (Ok kind) place bs = command_at verb kind place bs

abbrev pub group_command : Verb → ℕ → List ℕ → Result GroupCommand Fault
group_command verb place bs = command_of_kind verb (kind_at place bs) (following place) (after_word bs)
