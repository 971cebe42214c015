-- Checks in order: the first that fails is told.
--   unless b why   nothing where b is true, else why
--   first cs       the first of the checks that tells something
--   told r         what a result tells: nothing where it is Ok, else the refusal
use Rattle.std.specs.Prelude.{Bool, true, false, List, [], ◌∷◌, Some, None, Ok, Err, Option, Result}
use Rattle.refusals.specs.declared.Refusal.{Refusal}

abbrev pub unless : Bool → Refusal → Option Refusal
unless true why = None
unless false why = Some why

abbrev pub or_else : Option Refusal → Option Refusal → Option Refusal
or_else None next = next
or_else (Some why) next = Some why

abbrev pub first : List (Option Refusal) → Option Refusal
first [] = None
first (c ∷ cs) = or_else c (first cs)

abbrev pub told : {X : Type 0} → Result X Refusal → Option Refusal
told (Ok x) = None
told (Err why) = Some why
