-- Why a line is not answered: it is no command, or what it asks is refused.
--   faulty r        r, where it is no command if it fails
--   refused r       r, where it is refused if it fails
--   Unrefused P r   r is no refusal, and has P if it is an answer
--   UnlessFault r P where r is an answer or a refusal, P
use Rattle.std.specs.Prelude.{Ok, Err, Result}
use Rattle.refusals.specs.declared.Refusal.{Refusal}
use Rattle.words.specs.declared.fault.Fault as faults
use Rattle.words.specs.declared.unanswered.Unanswered.{Unanswered}
use Rattle.words.specs.declared.unanswered.Unanswered.TheVariants.{Fault, Refused}

abbrev pub faulty : {X : Type 0} → Result X faults.Fault → Result X Unanswered
faulty (Ok x) = Ok x
faulty (Err why) = Err (Fault why)

abbrev pub refused : {X : Type 0} → Result X Refusal → Result X Unanswered
refused (Ok x) = Ok x
refused (Err why) = Err (Refused why)

abbrev pub Unrefused : {X : Type 0} → (X → Type 0) → Result X Unanswered → Type 0
Unrefused P (Ok x) = P x
Unrefused P (Err (Fault why)) = Unit {0}
Unrefused P (Err (Refused why)) = ⊥

abbrev pub UnlessFault : {X : Type 0} → Result X Unanswered → Type 0 → Type 0
UnlessFault (Ok x) P = P
UnlessFault (Err (Fault why)) P = Unit {0}
UnlessFault (Err (Refused why)) P = P
