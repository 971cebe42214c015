-- What follows where no check tells anything, and where a test picks a value.
use Rattle.std.specs.Prelude.{◌≡◌, Bool, true, false, cond, not, T, is_some, Some, None, Option, refl}
use Rattle.refusals.specs.declared.Refusal.{Refusal}
use Rattle.refusals.specs.Checks.{unless, or_else}

-- nothing is told
abbrev pub Quiet : Option Refusal → Type 0
Quiet o = T (not (is_some o))

pub quiet_both : (c next : Option Refusal) → Quiet (or_else c next) → Quiet c × Quiet next
quiet_both None next t = (tt, t)
quiet_both (Some why) next t = absurd t

pub quiet_test : (b : Bool) (why : Refusal) → Quiet (unless b why) → T b
quiet_test true why t = tt
quiet_test false why t = t

-- a check that passed, and the rest
pub passes : (b : Bool) (why : Refusal) (next : Option Refusal) → Quiet (or_else (unless b why) next) → T b × Quiet next
passes b why next t = let parts = quiet_both (unless b why) next t in (quiet_test b why parts.0, parts.1)

pub picks : {X : Type 0} (b : Bool) (x y : X) → T b → cond b x y ≡ x
picks true x y t = refl
picks false x y t = absurd t
