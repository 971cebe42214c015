use Rattle.std.proofs.Common.{rules}
use Rattle.exported.proofs.Counted.{as_meant, none_meant}
use Rattle.exported.proofs.lemonbilge_rule_read.Goals as goal

pub returns-clause-read : goal.returns-clause-read
returns-clause-read c = as_meant c.args.text.now c.map_or.result _ (λ t h. search rules) c.read.result c.read.ensures c.map_or.ensures

pub returns-clause-refused : goal.returns-clause-refused
returns-clause-refused c = none_meant c.args.text.now c.map_or.result _ (λ t h. search rules) c.read.result c.read.ensures c.map_or.ensures
