-- A word that was read byte by byte.
use Rattle.std.proofs.Common.{◌≡◌, ℕ, List, length, sym, ap}
use Rattle.std.proofs.lemmas.Slice.Eq.{HasBytesAt, text_from_reads}

-- what f makes of a word is what it makes of the name that was read
pub named : {X : Type 0} (f : List ℕ → X) (w name : List ℕ) → length w ≡ length name → HasBytesAt w 0 name → f name ≡ f w
named f w name e h = ap f (sym (text_from_reads w name e h))
