-- What a split down a whole rule is answered.
--   Descended q es c ns ch  ch are the challenges of the rule es, split modulo q from c with the shares ns
--   Splits q es c ns x      x are these challenges
--   SplitTo q es c ns r    r is what the split comes to: a refusal where q is out of range or no prime
--   SplitFrom es r         r is what some split down the rule es comes to, with a number for each share
--   SaysSplit es r         the same, or r says what a line lacks
use Rattle.std.specs.Prelude.{◌≡◌, ℕ, cond, T, List, length, Err, Result}
use Rattle.bounded.specs.Rows.{items}
use Rattle.fields.specs.declared.scalar.Scalar.{Scalar}
use Rattle.fields.specs.Scalars.{scalar, scalars_model}
use Rattle.fields.specs.Primes.{Prime, in_range}
use Rattle.refusals.specs.declared.Parameter.TheVariants.{Order}
use Rattle.refusals.specs.declared.Refusal.TheVariants.{OutOfRange, NotPrime}
use Rattle.rules.specs.Tables.{Row}
use Rattle.descent.specs.Descents.{before, Descends}
use Rattle.words.specs.declared.unanswered.Unanswered.{Unanswered}
use Rattle.words.specs.declared.unanswered.Unanswered.TheVariants.{Refused}
use Rattle.words.specs.Unanswered.{Unrefused, UnlessFault}
use Rattle.script_gates.specs.GateReplies.{Taken}
use Rattle.script_gates.specs.declared.gate.Challenges.{Challenges}

pub record Descended (q : ℕ) (es : List Row) (c : Scalar) (ns : List ℕ) (ch : List Scalar) : Type 0 where
  pub shares : List Scalar
  pub taken : Taken q ns shares
  pub long : length ch ≡ length es
  pub descends : Descends (scalars_model q) es c shares ch

abbrev pub Splits : ℕ → List Row → ℕ → List ℕ → Challenges → Type 0
Splits q es c ns x = Descended q es (scalar c) ns (items x.0)

pub record SplitTo (q : ℕ) (es : List Row) (c : ℕ) (ns : List ℕ) (r : Result Challenges Unanswered) : Type 0 where
  -- kept: the refusal of an order, one line here, for gates and for scalars
  pub refused : (T (in_range q) → Prime q → ⊥) → r ≡ Err (Refused (cond (in_range q) NotPrime (OutOfRange Order)))
  pub answered : T (in_range q) → Prime q → Unrefused (Splits q es c ns) r

pub record SplitFrom (es : List Row) (r : Result Challenges Unanswered) : Type 0 where
  pub q : ℕ
  pub own : ℕ
  pub numbers : List ℕ
  pub long : length numbers ≡ before es (length es)
  pub split : SplitTo q es own numbers r

abbrev pub SaysSplit : List Row → Result Challenges Unanswered → Type 0
SaysSplit es r = UnlessFault r (SplitFrom es r)
