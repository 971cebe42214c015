-- The leaves of a rule, one after another.
--   leaves_of rule    for each leaf in order, the position of its entry, its kind and its statement
use Rattle.std.specs.Prelude.{ℕ, ◌+◌, List, [], ◌∷◌}
use Rattle.releases.specs.Entries.{Entry, leaf, gate}
use Rattle.settings.specs.declared.node.Leaf.{Leaf}

-- those of entries that begin at position i
abbrev pub leaves_from : ℕ → List Entry → List Leaf
leaves_from i [] = []
leaves_from i (leaf kind s ∷ es) = record { entry = i; kind = kind; statement = s } ∷ leaves_from (i + 1) es
leaves_from i (gate k cs ∷ es) = leaves_from (i + 1) es

abbrev pub leaves_of : List Entry → List Leaf
leaves_of rule = leaves_from 0 rule
