use Rattle.std.proofs.Common.{◌≡◌, ◌++◌, drop}
use Rattle.bounded.specs.Rows.{items}
use Rattle.settings.specs.Rules.{rule_in}
use Rattle.settings.specs.Leaves.{leaves_from, leaves_of}
use Rattle.settings.proofs.rule.Rule.leaves.Given as goal

abbrev pub invariant-loop-entry : goal.invariant-loop-entry
invariant-loop-entry l = items l.leaves ++ leaves_from l.entry (drop l.entry (rule_in l.self)) ≡ leaves_of (rule_in l.self)
