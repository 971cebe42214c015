-- Commands on scalars: how they are read, and what they come to.
--   operation_of w             the operation that the word w names
--   operation_at place bs      the first word of bs as an operation
--   scalar_command place bs    the command from the words after `scalar`
--   order_refusal q            the refusal where no scalars count modulo q
--   Computed op q a b r        r is what the operation on a and b modulo q comes to
--   Answered op q a b r        the same, where a and b may be no scalars
--   ComesTo c r               r is the answer to the command c
use Rattle.std.specs.Prelude.{◌≡◌, ℕ, ◌<◌, Bool, true, false, cond, T, List, Some, None, Ok, Err, codes, MatchBool, Option, Result, ◌==◌, nat_lt}
use Rattle.std.specs.Str.{bytes_eq}
use Rattle.refusals.specs.declared.Parameter.TheVariants.{Order}
use Rattle.refusals.specs.declared.Refusal.TheVariants.{OutOfRange, NotPrime}
use Rattle.fields.specs.Modular.{sum_mod, product_mod}
use Rattle.fields.specs.Primes.{Prime, in_range}
use Rattle.words.specs.declared.fault.Fault.{Fault}
use Rattle.words.specs.declared.fault.Expected.TheVariants as wants
use Rattle.script.specs.declared.scalar_commands.Operation.{Operation}
use Rattle.script.specs.declared.scalar_commands.Operation.TheVariants.{Add, Multiply, Divide}
use Rattle.script.specs.declared.scalar_commands.ScalarCommand.{ScalarCommand}
use Rattle.script.specs.declared.scalar_commands.ScalarReply.{ScalarReply}
use Rattle.script.specs.declared.scalar_commands.ScalarReply.TheVariants.{Sum, Product, Quotient}
use Rattle.words.specs.declared.unanswered.Unanswered.{Unanswered}
use Rattle.words.specs.declared.unanswered.Unanswered.TheVariants.{Refused}
use Rattle.words.specs.Unanswered.{faulty}
use Rattle.words.specs.Words.{fault, read_at, after_word, following, numbers_at, built, at}

abbrev pub operation_of : List ℕ → Option Operation
operation_of w =
    cond (bytes_eq w (codes "add")) (Some Add) (cond (bytes_eq w (codes "multiply")) (Some Multiply) (cond (bytes_eq w (codes "divide")) (Some Divide) None))

abbrev pub operation_at : ℕ → List ℕ → Result Operation Fault
operation_at place bs = read_at operation_of (fault place wants.Operation) bs

abbrev pub command_with : Operation → List ℕ → ScalarCommand
command_with op n = record { operation = op; q = at n 0; a = at n 1; b = at n 2 }

abbrev pub command_of_operation : Result Operation Fault → ℕ → List ℕ → Result ScalarCommand Fault
command_of_operation (Err why) place bs = Err why
command_of_operation (Ok op) place bs = built (command_with op) (numbers_at 3 place bs)

abbrev pub scalar_command : ℕ → List ℕ → Result ScalarCommand Fault
scalar_command place bs = command_of_operation (operation_at place bs) (following place) (after_word bs)

-- kept: one line each here, for gates and for splits, at three types of results
abbrev pub order_refusal : ℕ → Result ScalarReply Unanswered
order_refusal q = Err (Refused (cond (in_range q) NotPrime (OutOfRange Order)))

-- a quotient is the scalar that times the divisor is the dividend
abbrev pub Divided : Bool → ℕ → ℕ → ℕ → Result ScalarReply Fault → Type 0
Divided true q a b r = r ≡ Err (fault 5 wants.Divisor)
Divided false q a b r = (n : ℕ) × (r ≡ Ok (Quotient n)) × (n < q) × (product_mod q n b ≡ a)

abbrev pub Computed : Operation → ℕ → ℕ → ℕ → Result ScalarReply Fault → Type 0
Computed Add q a b r = r ≡ Ok (Sum (sum_mod q a b))
Computed Multiply q a b r = r ≡ Ok (Product (product_mod q a b))
Computed Divide q a b r = Divided (b == 0) q a b r

abbrev pub Answered : Operation → ℕ → ℕ → ℕ → Result ScalarReply Fault → Type 0
Answered op q a b r = MatchBool (nat_lt a q) (MatchBool (nat_lt b q) (Computed op q a b r) (r ≡ Err (fault 5 wants.Scalar))) (r ≡ Err (fault 4 wants.Scalar))

pub record ComesTo (c : ScalarCommand) (r : Result ScalarReply Unanswered) : Type 0 where
  pub refused : (T (in_range c.q) → Prime c.q → ⊥) → r ≡ order_refusal c.q
  pub answered : T (in_range c.q) → Prime c.q → (x : Result ScalarReply Fault) × (r ≡ faulty x) × Answered c.operation c.q c.a c.b x
