-- What a session holds, and what it answers.
--   Model                  the numbers and bases of the residue group and of the circle group that were made last, and the table of the rule that was read last
--   model s                those of the session s
--   fresh                  no group and no rule
--   group_made a kind old q p g h   the reply to the maker of a group of this kind, which is cut from a, and the group after it: a refused one leaves the old one
--   with_residue m q p g h the same for a residue group, and the model after it
--   with_circle m q p g h  the same for a circle group
--   asked m kind question  the answer of the group of this kind; it changes nothing
--   group_step m c         the answer to a command on groups, and the model after it
--   kinds_asked m c        the answer of the supplied set over the two groups; it changes nothing
--   RuleStep m c line r n   r is the answer to a command on rules, and n the model after it: a text that is read gives the rule, one that is faulty changes nothing
--   Obeyed m c line r n    r is the answer to the command c of a line at the model m, and n the model after it
--   Answers m line r n     the same for a line: nothing where it has no command, a fault where it is none
use Rattle.std.specs.Prelude.{◌≡◌, ℕ, List, Some, None, Ok, Err, Option, Result}
use Rattle.std.specs.Option.{option_map}
use Rattle.refusals.specs.declared.Refusal.{Refusal}
use Rattle.groups.specs.declared.residue.Residue as numbers
use Rattle.groups.specs.Ambients.{AmbientModel, group_elements, group_model, group_refusal}
use Rattle.groups.specs.Residues.{residue, residues}
use Rattle.groups.specs.Circles.{Pair, pair, circle}
use Rattle.words.specs.declared.kind.Kind.{Kind}
use Rattle.words.specs.declared.kind.Kind.TheVariants.{Residue, Circle}
use Rattle.words.specs.declared.fault.Fault.{Fault}
use Rattle.words.specs.declared.fault.Expected.TheVariants as wants
use Rattle.script_kinds.specs.declared.reading.KindCommand.{KindCommand}
use Rattle.script_kinds.specs.declared.answering.KindReply.{KindReply}
use Rattle.script_kinds.specs.KindReplies.{Parts, parts, kind_reply}
use Rattle.rules.specs.Tables.{Row}
use Rattle.rules.specs.Texts.{rows_in}
use Rattle.script_rules.specs.declared.reading.RuleCommand.{RuleCommand}
use Rattle.script_rules.specs.declared.reading.RuleCommand.TheVariants.{Read, Write, Split}
use Rattle.script_rules.specs.declared.answering.RuleReply.{RuleReply}
use Rattle.script_rules.specs.declared.answering.RuleReply.TheVariants as rule_replies
use Rattle.script_rules.specs.RuleCommands.{rule_text}
use Rattle.script_rules.specs.RuleReplies.{Reading, Writing, rule_of}
use Rattle.script_gates.specs.declared.answering.GateReply.{GateReply}
use Rattle.script_gates.specs.GateReplies.{Says}
use Rattle.script_gates.specs.declared.gate.Challenges.{Challenges}
use Rattle.script_gates.specs.SplitReplies.{SaysSplit}
use Rattle.script.specs.declared.questions.Question.{Question}
use Rattle.script.specs.declared.group_commands.GroupCommand.{GroupCommand}
use Rattle.script.specs.declared.group_commands.GroupCommand.TheVariants.{MakeResidue, MakeCircle, Ask}
use Rattle.script.specs.declared.group_commands.GroupReply.{GroupReply}
use Rattle.script.specs.declared.group_commands.GroupReply.TheVariants.{Made}
use Rattle.script.specs.declared.scalar_commands.ScalarReply.{ScalarReply}
use Rattle.script.specs.declared.command.Command.{Command}
use Rattle.script.specs.declared.command.Command.TheVariants as commands
use Rattle.script.specs.declared.command.Reply.{Reply}
use Rattle.script.specs.declared.command.Reply.TheVariants as replies
use Rattle.script.specs.declared.session.Session.{Session}
use Rattle.words.specs.declared.unanswered.Unanswered.{Unanswered}
use Rattle.words.specs.declared.unanswered.Unanswered.TheVariants.{Fault as AFault, Refused}
use Rattle.words.specs.Words.{fault, built}
use Rattle.words.specs.Unanswered.{faulty, refused}
use Rattle.script.specs.Questions.{answer_to}
use Rattle.script.specs.ScalarCommands.{ComesTo}
use Rattle.script.specs.Commands.{command_of}

pub record Model : Type 0 where
  pub residue_group : Option (Parts numbers.Residue)
  pub circle_group : Option (Parts Pair)
  pub rule_rows : Option (List Row)

abbrev pub model : Session → Model
model s = record { residue_group = option_map parts s.residue; circle_group = option_map parts s.circle; rule_rows = option_map rows_in s.rule }

abbrev pub fresh : Model
fresh = record { residue_group = None; circle_group = None; rule_rows = None }

abbrev pub made_unless : {E : Type 0} → Option Refusal → Kind → Option (Parts E) → ℕ → ℕ → E → E → Result GroupReply Unanswered × Option (Parts E)
made_unless (Some why) kind old q p g h = (Err (Refused why), old)
made_unless None kind old q p g h = (Ok (Made kind q p), Some (q, p, g, h))

abbrev pub group_made : {E : Type 0} → AmbientModel E → Kind → Option (Parts E) → ℕ → ℕ → E → E → Result GroupReply Unanswered × Option (Parts E)
group_made a kind old q p g h = made_unless (group_refusal a q p g h) kind old q p g h

-- a pair of residues by its words
abbrev pub paired : ℕ × ℕ → Pair
paired w = pair w.0 w.1

abbrev pub residue_kept : Model → Result GroupReply Unanswered × Option (Parts numbers.Residue) → Result GroupReply Unanswered × Model
residue_kept m s = (s.0, record { residue_group = s.1; circle_group = m.circle_group; rule_rows = m.rule_rows })

abbrev pub circle_kept : Model → Result GroupReply Unanswered × Option (Parts Pair) → Result GroupReply Unanswered × Model
circle_kept m s = (s.0, record { residue_group = m.residue_group; circle_group = s.1; rule_rows = m.rule_rows })

abbrev pub with_residue : Model → ℕ → ℕ → ℕ → ℕ → Result GroupReply Unanswered × Model
with_residue m q p g h = residue_kept m (group_made residues Residue m.residue_group q p (residue g) (residue h))

abbrev pub with_circle : Model → ℕ → ℕ → ℕ × ℕ → ℕ × ℕ → Result GroupReply Unanswered × Model
with_circle m q p g h = circle_kept m (group_made circle Circle m.circle_group q p (paired g) (paired h))

abbrev pub asked_of : {E : Type 0} → AmbientModel E → Kind → Option (Parts E) → Question → Result GroupReply Fault
asked_of a kind None question = Err (fault 2 (wants.Group kind))
asked_of a kind (Some s) question = answer_to (group_elements a s.0 s.1) (group_model a s.0 s.1 s.2 s.3) kind question

abbrev pub asked : Model → Kind → Question → Result GroupReply Fault
asked m Residue question = asked_of residues Residue m.residue_group question
asked m Circle question = asked_of circle Circle m.circle_group question

abbrev pub group_step : Model → GroupCommand → Result GroupReply Unanswered × Model
group_step m (MakeResidue q p g h) = with_residue m q p g h
group_step m (MakeCircle q p g h) = with_circle m q p g h
group_step m (Ask kind question) = (faulty (asked m kind question), m)

abbrev pub kinds_over : Option (Parts numbers.Residue) → Option (Parts Pair) → KindCommand → Result KindReply Unanswered
kinds_over None c x = Err (AFault (fault 1 (wants.AfterGroup Residue)))
kinds_over (Some r) None x = Err (AFault (fault 1 (wants.AfterGroup Circle)))
kinds_over (Some r) (Some c) x = refused (kind_reply r c x)

abbrev pub kinds_asked : Model → KindCommand → Result KindReply Unanswered
kinds_asked m x = kinds_over m.residue_group m.circle_group x

abbrev pub with_rule : Model → Option (List Row) → Model
with_rule m rows = record { residue_group = m.residue_group; circle_group = m.circle_group; rule_rows = rows }

abbrev pub RuleRead : Model → List ℕ → RuleReply → Model → Type 0
RuleRead m s r n = Reading s r × (n ≡ with_rule m (rule_of r m.rule_rows))

abbrev pub RuleWritten : Option (List Row) → Result RuleReply Fault → Type 0
RuleWritten None r = r ≡ Err (fault 1 wants.AfterRule)
RuleWritten (Some rows) r = (x : RuleReply) × (r ≡ Ok x) × Writing rows x

abbrev pub RuleSplit : Option (List Row) → Result RuleReply Unanswered → Type 0
RuleSplit None r = r ≡ Err (AFault (fault 1 wants.AfterRule))
RuleSplit (Some rows) r = (x : Result Challenges Unanswered) × (r ≡ built rule_replies.Split x) × SaysSplit rows x

abbrev pub RuleStep : Model → RuleCommand → List ℕ → Result RuleReply Unanswered → Model → Type 0
RuleStep m Read line r n = (x : RuleReply) × (r ≡ Ok x) × RuleRead m (rule_text line) x n
RuleStep m Write line r n = (x : Result RuleReply Fault) × (r ≡ faulty x) × RuleWritten m.rule_rows x × (n ≡ m)
RuleStep m Split line r n = RuleSplit m.rule_rows r × (n ≡ m)

abbrev pub Obeyed : Model → Command → List ℕ → Result Reply Unanswered → Model → Type 0
Obeyed m (commands.Group c) line r n = (r ≡ built replies.Group (group_step m c).0) × (n ≡ (group_step m c).1)
Obeyed m (commands.Scalar c) line r n = (x : Result ScalarReply Unanswered) × (r ≡ built replies.Scalar x) × ComesTo c x × (n ≡ m)
Obeyed m (commands.Kind c) line r n = (r ≡ built replies.Kind (kinds_asked m c)) × (n ≡ m)
Obeyed m (commands.Rule c) line r n = (x : Result RuleReply Unanswered) × (r ≡ built replies.Rule x) × RuleStep m c line x n
Obeyed m commands.Gate line r n = (x : Result GateReply Unanswered) × (r ≡ built replies.Gate x) × Says x × (n ≡ m)

abbrev pub AnswersTo : Result (Option Command) Fault → Model → List ℕ → Result (Option Reply) Unanswered → Model → Type 0
AnswersTo (Err why) m line r n = (r ≡ Err (AFault why)) × (n ≡ m)
AnswersTo (Ok None) m line r n = (r ≡ Ok None) × (n ≡ m)
AnswersTo (Ok (Some c)) m line r n = (x : Result Reply Unanswered) × (r ≡ built Some x) × Obeyed m c line x n

abbrev pub Answers : Model → List ℕ → Result (Option Reply) Unanswered → Model → Type 0
Answers m line r n = AnswersTo (command_of line) m line r n
