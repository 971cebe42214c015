use Rattle.std.proofs.Common.{rules}
use Rattle.groups.specs.ResidueLaws.{residue_power}
use Rattle.exported.proofs.lemonbilge_power_residue.Goals as goal

pub returns : goal.returns
returns c = let powered = residue_power c.in-Some.residues.p c.in-Some.residues.low c.new-2.result c.args.exponent in search rules
