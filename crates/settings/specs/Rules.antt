-- The entries of a rule.
--   rule_in r    the entries that r holds
use Rattle.std.specs.Prelude.{List, map}
use Rattle.bounded.specs.Rows.{items}
use Rattle.releases.specs.Entries.{Entry}
use Rattle.settings.specs.declared.rule.Rule.{Rule}
use Rattle.settings.specs.Nodes.{entry_of}

abbrev pub rule_in : Rule → List Entry
rule_in r = map entry_of (items r.nodes)
