-- The command of a line.
--   topic_of w                     what a command is about whose first word is w
--   other_topic w                  the same but for commands on groups
--   command_about topic place bs   the command of this topic, from the words after its first
--   command_of line                none where the line has no words before its comment
use Rattle.std.specs.Prelude.{ℕ, cond, List, Some, None, Ok, Err, codes, Option, Result}
use Rattle.std.specs.Option.{option_map, option_or}
use Rattle.std.specs.Str.{bytes_eq}
use Rattle.words.specs.declared.bytes.Class.TheVariants.{Code}
use Rattle.words.specs.declared.fault.Fault.{Fault}
use Rattle.words.specs.declared.fault.Expected.TheVariants as wants
use Rattle.script.specs.declared.command.Topic.{Topic}
use Rattle.script.specs.declared.command.Topic.TheVariants as about
use Rattle.script.specs.declared.command.Command.{Command}
use Rattle.script.specs.declared.command.Command.TheVariants.{Group, Scalar, Kind, Rule, Gate}
use Rattle.words.specs.Bytes.{front}
use Rattle.words.specs.Words.{fault, word_at, after_word, built}
use Rattle.script_kinds.specs.KindCommands.{kind_command}
use Rattle.script_rules.specs.RuleCommands.{rule_command}
use Rattle.script.specs.GroupCommands.{verb_of, group_command}
use Rattle.script.specs.ScalarCommands.{scalar_command}

abbrev pub other_topic : List ℕ → Option Topic
other_topic w =
    cond (bytes_eq w (codes "scalar")) (Some about.Scalar)
    (cond (bytes_eq w (codes "kind")) (Some about.Kind) (cond (bytes_eq w (codes "rule")) (Some about.Rule) (cond (bytes_eq w (codes "gate")) (Some about.Gate) None)))

abbrev pub topic_of : List ℕ → Option Topic
topic_of w = option_or (option_map about.Group (verb_of w)) (other_topic w)

abbrev pub command_about : Topic → ℕ → List ℕ → Result Command Fault
command_about (about.Group verb) place bs = built Group (group_command verb place bs)
command_about about.Scalar place bs = built Scalar (scalar_command place bs)
command_about about.Kind place bs = built Kind (kind_command place bs)
command_about about.Rule place bs = built Rule (rule_command place bs)
command_about about.Gate place bs = Ok Gate

-- the command of a topic, from what is left after the first word
abbrev pub command_by : Option Topic → List ℕ → Result (Option Command) Fault
command_by None bs = Err (fault 1 wants.Command)
command_by (Some topic) bs = built Some (command_about topic 2 bs)

abbrev pub command_in : Option (List ℕ) → List ℕ → Result (Option Command) Fault
command_in None bs = Ok None
command_in (Some w) bs = command_by (topic_of w) bs

abbrev pub command_of : List ℕ → Result (Option Command) Fault
command_of line = command_in (word_at (front Code line)) (after_word (front Code line))
