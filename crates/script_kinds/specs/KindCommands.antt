-- Commands on leaf kinds, read from the words of a line.
--   verb_of w                  the verb that the word w is
--   verb_at place bs           the first word of bs as a verb
--   image_from n i             the four numbers of n from the i-th on, as an image
--   question_at verb place bs  the question of this verb, from the words after the kind's number
--   kind_command place bs      the command from the words after `kind`
use Rattle.std.specs.Prelude.{ℕ, ◌+◌, cond, List, Some, None, Ok, Err, codes, Option, Result}
use Rattle.std.specs.Str.{bytes_eq}
use Rattle.kinds.specs.declared.image.Image.{Image}
use Rattle.words.specs.declared.fault.Fault.{Fault}
use Rattle.words.specs.declared.fault.Expected.TheVariants.{KindVerb}
use Rattle.script_kinds.specs.declared.reading.Verb.{Verb}
use Rattle.script_kinds.specs.declared.reading.Verb.TheVariants as verbs
use Rattle.script_kinds.specs.declared.reading.Question.{Question}
use Rattle.script_kinds.specs.declared.reading.Question.TheVariants as asks
use Rattle.script_kinds.specs.declared.reading.KindCommand.{KindCommand}
use Rattle.script_kinds.specs.declared.reading.KindCommand.TheVariants.{Set, Ask}
use Rattle.words.specs.Words.{fault, read_at, after_word, following, byte_at, end_at, numbers_at, built, at}

abbrev pub verb_of : List ℕ → Option Verb
verb_of w =
    cond (bytes_eq w (codes "set")) (Some verbs.Set)
    (cond (bytes_eq w (codes "test")) (Some verbs.Test)
    (cond (bytes_eq w (codes "multiply")) (Some verbs.Multiply)
    (cond (bytes_eq w (codes "neutral")) (Some verbs.Neutral)
    (cond (bytes_eq w (codes "key")) (Some verbs.Key) (cond (bytes_eq w (codes "power")) (Some verbs.Power) None)))))

abbrev pub verb_at : ℕ → List ℕ → Result Verb Fault
verb_at place bs = read_at verb_of (fault place KindVerb) bs

abbrev pub image_from : List ℕ → ℕ → Image
image_from n i = record { 0 = (at n i, at n (i + 1)); 1 = (at n (i + 2), at n (i + 3)) }

abbrev pub ask_test : List ℕ → Question
ask_test n = asks.Test (image_from n 0)

abbrev pub ask_product : List ℕ → Question
ask_product n = asks.Multiply (image_from n 0) (image_from n 4)

abbrev pub ask_key : List ℕ → Question
ask_key n = asks.Key (at n 0, at n 1)

abbrev pub ask_power : List ℕ → Question
ask_power n = asks.Power (image_from n 0) (at n 4)

abbrev pub question_at : Verb → ℕ → List ℕ → Result Question Fault
question_at verbs.Set place bs = built (λ u. asks.Neutral) (end_at place bs)
question_at verbs.Test place bs = built ask_test (numbers_at 4 place bs)
question_at verbs.Multiply place bs = built ask_product (numbers_at 8 place bs)
question_at verbs.Neutral place bs = built (λ u. asks.Neutral) (end_at place bs)
question_at verbs.Key place bs = built ask_key (numbers_at 2 place bs)
question_at verbs.Power place bs = built ask_power (numbers_at 5 place bs)

-- the question to the kind whose number was read
abbrev pub ask_of : Verb → Result ℕ Fault → ℕ → List ℕ → Result KindCommand Fault
ask_of verb (Err why) place bs = Err why
ask_of verb (Ok kind) place bs = built (Ask kind) (question_at verb place bs)

abbrev pub ask_at : Verb → ℕ → List ℕ → Result KindCommand Fault
ask_at verb place bs = ask_of verb (byte_at place bs) (following place) (after_word bs)

abbrev pub command_of_verb : Result Verb Fault → ℕ → List ℕ → Result KindCommand Fault
command_of_verb (Err why) place bs = Err why
command_of_verb (Ok verbs.Set) place bs = built (λ u. Set) (end_at place bs)
command_of_verb (Ok verbs.Test) place bs = ask_at verbs.Test place bs
command_of_verb (Ok verbs.Multiply) place bs = ask_at verbs.Multiply place bs
command_of_verb (Ok verbs.Neutral) place bs = ask_at verbs.Neutral place bs
command_of_verb (Ok verbs.Key) place bs = ask_at verbs.Key place bs
command_of_verb (Ok verbs.Power) place bs = ask_at verbs.Power place bs

abbrev pub kind_command : ℕ → List ℕ → Result KindCommand Fault
kind_command place bs = command_of_verb (verb_at place bs) (following place) (after_word bs)
