-- What holds in any case.
use Rattle.std.proofs.Common.{Ok, Err, Result}
use Rattle.words.specs.declared.unanswered.Unanswered.{Unanswered}
use Rattle.words.specs.declared.unanswered.Unanswered.TheVariants.{Fault, Refused}
use Rattle.words.specs.Unanswered.{UnlessFault}

pub unless_fault : {X : Type 0} {P : Type 0} (r : Result X Unanswered) → P → UnlessFault r P
unless_fault (Ok x) p = p
unless_fault (Err (Fault why)) p = tt
unless_fault (Err (Refused why)) p = p
