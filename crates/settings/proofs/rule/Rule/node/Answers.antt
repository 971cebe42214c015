use Rattle.std.proofs.Common.{sym, rules}
use Rattle.settings.specs.Nodes.{entry_of}
use Rattle.settings.proofs.Listing.{looked_up}
use Rattle.settings.proofs.rule.Rule.node.Goals as goal

pub returns : goal.returns
returns c =
    let at = c.get.ensures.lookup in
    let found = looked_up entry_of c.nodes.result.now c.args.position c.get.result at.1 (search rules) in
    rw (c.copied.ensures, sym c.nodes.ensures.are) found
