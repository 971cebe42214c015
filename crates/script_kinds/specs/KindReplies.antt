-- What a set of leaf kinds answers to a command.
--   question_reply m n x  the answer of the kind n of the set m to a question
--   answer_to m c         the answer of the set m, over its meaning
--   Parts E               the numbers and bases of a group whose elements are in E
--   kinds_over a s        the three kinds over the group with these parts that is cut from a
--   set_over r c          the supplied set over two groups: single, twin and mixed over each
--   kind_reply r c x      the answer of the supplied set to the command x; refused where the two orders differ
use Rattle.std.specs.Prelude.{ℕ, cond, List, [], ◌∷◌, ◌++◌, Ok, Err, Result, ◌==◌}
use Rattle.refusals.specs.declared.Refusal.{Refusal}
use Rattle.refusals.specs.declared.Refusal.TheVariants.{OrdersDiffer}
use Rattle.fields.specs.Scalars.{scalar}
use Rattle.groups.specs.Monoids.{power}
use Rattle.groups.specs.declared.residue.Residue.{Residue}
use Rattle.groups.specs.Ambients.{AmbientModel, group_elements, group_model}
use Rattle.groups.specs.declared.prime_group.PrimeGroup.{PrimeGroup}
use Rattle.groups.specs.Residues.{residues}
use Rattle.groups.specs.Circles.{Pair, circle}
use Rattle.kinds.specs.Kinds.{Kind, KindModel, images}
use Rattle.kinds.specs.Numbered.{set_of}
use Rattle.supplied.specs.Supplied.{three}
use Rattle.script_kinds.specs.declared.reading.Question.{Question}
use Rattle.script_kinds.specs.declared.reading.Question.TheVariants.{Test, Multiply, Neutral, Key, Power}
use Rattle.script_kinds.specs.declared.reading.KindCommand.{KindCommand}
use Rattle.script_kinds.specs.declared.reading.KindCommand.TheVariants.{Set, Ask}
use Rattle.script_kinds.specs.declared.answering.KindReply.{KindReply}
use Rattle.script_kinds.specs.declared.answering.KindReply.TheVariants as says

abbrev pub question_reply : KindModel → ℕ → Question → KindReply
question_reply m n (Test a) = says.Test ((m.kind n).is_image a)
question_reply m n (Multiply a b) = says.Image ((m.kind n).product a b)
question_reply m n Neutral = says.Image (m.kind n).neutral
question_reply m n (Key w) = says.Image ((m.kind n).image (scalar w.0, scalar w.1))
question_reply m n (Power a k) = says.Image (power (images (m.kind n)) a k)

abbrev pub widths : KindModel → List ℕ
widths m = (m.kind 1).width ∷ (m.kind 2).width ∷ (m.kind 3).width ∷ (m.kind 4).width ∷ (m.kind 5).width ∷ (m.kind 6).width ∷ []

abbrev pub answer_to : KindModel → KindCommand → KindReply
answer_to m Set = says.Set m.q m.count (widths m)
answer_to m (Ask n question) = question_reply m n question

abbrev pub Parts : Type 0 → Type 0
Parts E = ℕ × ℕ × E × E

abbrev pub parts : {E P : Type 0} {a : _} {b : _} → PrimeGroup E P a b → Parts E
parts s = (s.q, s.p, s.g, s.h)

-- the three kinds over a group
abbrev pub kinds_over : {E : Type 0} → AmbientModel E → Parts E → List Kind
kinds_over a s = three (group_elements a s.0 s.1) (group_model a s.0 s.1 s.2 s.3)

abbrev pub set_over : Parts Residue → Parts Pair → KindModel
set_over r c = set_of r.0 (kinds_over residues r ++ kinds_over circle c)

abbrev pub kind_reply : Parts Residue → Parts Pair → KindCommand → Result KindReply Refusal
kind_reply r c x = cond (r.0 == c.0) (Ok (answer_to (set_over r c) x)) (Err OrdersDiffer)
