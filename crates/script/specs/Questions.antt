-- What a group answers, over its two models: the product of its elements, and how they are written.
--   element_at g kind place w   the element that the words w stand for; the words stand at this place of the line
--   answer_to m g kind question
use Rattle.std.specs.Prelude.{ℕ, is_some, Ok, Err, Result}
use Rattle.std.specs.Option.{ok_or}
use Rattle.groups.specs.Monoids.{MonoidModel, power}
use Rattle.groups.specs.Groups.{GroupModel}
use Rattle.words.specs.declared.kind.Kind.{Kind}
use Rattle.words.specs.declared.fault.Fault.{Fault}
use Rattle.words.specs.declared.fault.Expected.TheVariants.{Element as AnElement}
use Rattle.script.specs.declared.questions.Question.{Question}
use Rattle.script.specs.declared.questions.Question.TheVariants as asks
use Rattle.script.specs.declared.group_commands.GroupReply.{GroupReply}
use Rattle.script.specs.declared.group_commands.GroupReply.TheVariants as says
use Rattle.words.specs.Words.{fault}

abbrev pub product_reply : ℕ × ℕ → GroupReply
product_reply w = says.Product w.0 w.1

abbrev pub power_reply : ℕ × ℕ → GroupReply
power_reply w = says.Power w.0 w.1

module _ {E : Type 0} where
  abbrev pub element_at : GroupModel E → Kind → ℕ → ℕ × ℕ → Result E Fault
  element_at g kind place w = ok_or (g.reads w) (fault place (AnElement kind))

  module _ (m : MonoidModel E) (g : GroupModel E) where
    abbrev pub product_of : Result E Fault → Result E Fault → Result GroupReply Fault
    product_of (Err why) y = Err why
    product_of (Ok x) (Err why) = Err why
    product_of (Ok x) (Ok y) = Ok (product_reply (g.words (m.times x y)))

    abbrev pub power_of : Result E Fault → ℕ → Result GroupReply Fault
    power_of (Err why) exponent = Err why
    power_of (Ok x) exponent = Ok (power_reply (g.words (power m x exponent)))

    abbrev pub answer_to : Kind → Question → Result GroupReply Fault
    answer_to kind (asks.Element a) = Ok (says.Element (is_some (g.reads a)))
    answer_to kind (asks.Multiply a b) = product_of (element_at g kind 3 a) (element_at g kind 5 b)
    answer_to kind (asks.Power a exponent) = power_of (element_at g kind 3 a) exponent
