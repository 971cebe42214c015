-- A set of leaf kinds written out as the list of its kinds.
--   set_of q ks   the set of order q whose kinds are those of ks, numbered from 1 in this order
use Rattle.std.specs.Prelude.{ℕ, List, ◌∷◌, length, slice_index_or}
use Rattle.kinds.specs.Kinds.{Kind, no_kind, KindModel}

abbrev pub set_of : ℕ → List Kind → KindModel
set_of q ks = record { q = q; count = length ks; kind = λ n. slice_index_or (no_kind ∷ ks) n no_kind }
