-- The entries of a rule as they lie in memory.
--   entry_of      a node as an entry
use Rattle.rules.specs.Views.{children_of}
use Rattle.releases.specs.Entries.{Entry, leaf, gate}
use Rattle.settings.specs.declared.node.Node.{Node}
use Rattle.settings.specs.declared.node.Node.TheVariants.{Leaf, Gate}

unfoldable pub entry_of : Node → Entry
entry_of (Leaf kind s) = leaf kind s
entry_of (Gate k c) = gate k (children_of c)
