-- Commands on rules, read from the words of a line.
--   verb_of w               the command that the word w names
--   verb_at place bs        the first word of bs as a command
--   rule_command place bs   the command from the words after `rule`
--   rule_text line          what follows the first two words of a line, without the blanks before and after it
use Rattle.std.specs.Prelude.{ℕ, cond, List, Some, None, Ok, Err, codes, Option, Result}
use Rattle.std.specs.Str.{bytes_eq}
use Rattle.words.specs.declared.bytes.Class.TheVariants.{Code}
use Rattle.words.specs.declared.fault.Fault.{Fault}
use Rattle.words.specs.declared.fault.Expected.TheVariants.{RuleVerb}
use Rattle.script_rules.specs.declared.reading.RuleCommand.{RuleCommand}
use Rattle.script_rules.specs.declared.reading.RuleCommand.TheVariants.{Read, Write, Split}
use Rattle.words.specs.Bytes.{front}
use Rattle.words.specs.Words.{fault, read_at, after_word, following, end_at, text_of, built}

abbrev pub verb_of : List ℕ → Option RuleCommand
verb_of w =
    cond (bytes_eq w (codes "read")) (Some Read) (cond (bytes_eq w (codes "write")) (Some Write) (cond (bytes_eq w (codes "split")) (Some Split) None))

abbrev pub verb_at : ℕ → List ℕ → Result RuleCommand Fault
verb_at place bs = read_at verb_of (fault place RuleVerb) bs

abbrev pub command_of_verb : Result RuleCommand Fault → ℕ → List ℕ → Result RuleCommand Fault
command_of_verb (Err why) place bs = Err why
command_of_verb (Ok Read) place bs = Ok Read
command_of_verb (Ok Write) place bs = built (λ u. Write) (end_at place bs)
command_of_verb (Ok Split) place bs = Ok Split

abbrev pub rule_command : ℕ → List ℕ → Result RuleCommand Fault
rule_command place bs = command_of_verb (verb_at place bs) (following place) (after_word bs)

abbrev pub rule_text : List ℕ → List ℕ
rule_text line = text_of (after_word (after_word (front Code line)))
