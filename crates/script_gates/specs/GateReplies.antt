-- What a command on gates is answered.
--   scalar_at q place n       n as a scalar modulo q; it stands at this place of the line
--   Taken q ns cs             cs are the numbers ns as scalars modulo q
--   Takes q ns cs             the same, and as many
--   numbers_of g, marks_of g  the numbers of a gate's children, 0 where one is not known, and which of them are known
--   Fills q g cs              cs are the children of the gate g, split modulo q
--   Checks q k own g b        b tells whether the gate g, which wants k children, balances modulo q
--   Checked q k g b           the same with the own challenge of the gate, which has k children
--   Answers q c x             x is the answer to the command c, whose order is q
--   ComesTo c r              r is what the command c comes to
--   Says r                    r is what some command comes to, or says what a line lacks
--   Filled q own marks ns cs  a gate that was split: cs balance it, and are the numbers ns where they are marked as known
use Rattle.std.specs.Prelude.{◌≡◌, ℕ, ◌<◌, ◌≤◌, Bool, false, cond, T, List, length, map, Ok, Err, Result, nat_lt, is_some, slice_index, slice_index_or}
use Rattle.std.specs.Option.{unwrap_or}
use Rattle.bounded.specs.Rows.{items}
use Rattle.fields.specs.declared.scalar.Scalar.{Scalar}
use Rattle.fields.specs.Scalars.{scalar, scalars_model}
use Rattle.fields.specs.Primes.{Prime, in_range}
use Rattle.refusals.specs.declared.Parameter.TheVariants.{Order}
use Rattle.refusals.specs.declared.Refusal.TheVariants.{OutOfRange, NotPrime}
use Rattle.splits.specs.Gates.{Balanced}
use Rattle.splits.specs.Marks.{missing}
use Rattle.words.specs.declared.fault.Fault.{Fault}
use Rattle.words.specs.declared.fault.Expected.TheVariants as wants
use Rattle.words.specs.declared.unanswered.Unanswered.{Unanswered}
use Rattle.words.specs.declared.unanswered.Unanswered.TheVariants.{Refused}
use Rattle.words.specs.Words.{fault}
use Rattle.words.specs.Unanswered.{Unrefused, UnlessFault}
use Rattle.script_gates.specs.declared.gate.Gate.{Gate}
use Rattle.script_gates.specs.declared.gate.GateCommand.{GateCommand}
use Rattle.script_gates.specs.declared.gate.GateCommand.TheVariants.{Fill, Check}
use Rattle.script_gates.specs.declared.answering.GateReply.{GateReply}
use Rattle.script_gates.specs.declared.answering.GateReply.TheVariants as says

abbrev pub scalar_at : ℕ → ℕ → ℕ → Result Scalar Fault
scalar_at q place n = cond (nat_lt n q) (Ok (scalar n)) (Err (fault place wants.Scalar))

abbrev pub Taken : ℕ → List ℕ → List Scalar → Type 0
Taken q ns cs = (j : ℕ) → j < length ns → (slice_index_or cs j (scalar 0) ≡ scalar (slice_index ns j)) × T (nat_lt (slice_index ns j) q)

abbrev pub Takes : ℕ → List ℕ → List Scalar → Type 0
Takes q ns cs = (length cs ≡ length ns) × Taken q ns cs

pub record Filled (q : ℕ) (own : Scalar) (marks : List Bool) (ns : List ℕ) (cs : List Scalar) : Type 0 where
  pub long : length cs ≡ length ns
  pub balanced : Balanced (scalars_model q) (missing marks) own cs
  pub kept : (j : ℕ) → j < length marks → T (slice_index_or marks j false) → slice_index_or cs j (scalar 0) ≡ scalar (slice_index ns j)

abbrev pub numbers_of : Gate → List ℕ
numbers_of g = map (λ n. unwrap_or n 0) (items g.children)

abbrev pub marks_of : Gate → List Bool
marks_of g = map is_some (items g.children)

abbrev pub Fills : ℕ → Gate → List Scalar → Type 0
Fills q g cs = Filled q (scalar g.own) (marks_of g) (numbers_of g) cs

pub record Checks (q k : ℕ) (own : Scalar) (g : Gate) (b : Bool) : Type 0 where
  pub children : List Scalar
  pub long : length children ≡ length (numbers_of g)
  pub taken : Taken q (numbers_of g) children
  pub sound : T b → Balanced (scalars_model q) k own children
  pub complete : Balanced (scalars_model q) k own children → T b

abbrev pub Checked : ℕ → ℕ → Gate → Bool → Type 0
Checked q k g b = (1 ≤ k) × (k ≤ length (items g.children)) × Checks q k (scalar g.own) g b

abbrev pub Answers : ℕ → GateCommand → GateReply → Type 0
Answers q (Fill g) (says.Children cs) = Fills q g (items cs)
Answers q (Fill g) (says.Balanced b) = ⊥
Answers q (Check k g) (says.Children cs) = ⊥
Answers q (Check k g) (says.Balanced b) = Checked q k g b

abbrev pub order_of : GateCommand → ℕ
order_of (Fill g) = g.q
order_of (Check k g) = g.q

-- kept: one line each here, for splits and for scalars, at three types of results
abbrev pub order_refusal : ℕ → Result GateReply Unanswered
order_refusal q = Err (Refused (cond (in_range q) NotPrime (OutOfRange Order)))

pub record ComesTo (c : GateCommand) (r : Result GateReply Unanswered) : Type 0 where
  pub refused : (T (in_range (order_of c)) → Prime (order_of c) → ⊥) → r ≡ order_refusal (order_of c)
  pub answered : T (in_range (order_of c)) → Prime (order_of c) → Unrefused (Answers (order_of c) c) r

-- a reply or a refusal is that to some command; a fault says what is missing
abbrev pub Says : Result GateReply Unanswered → Type 0
Says r = UnlessFault r ((c : GateCommand) × ComesTo c r)
