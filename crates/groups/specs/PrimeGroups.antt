-- The types of the two groups, for what other crates say of their values.
use Rattle.groups.specs.declared.prime_group.PrimeGroup.{PrimeGroup}
use Rattle.groups.specs.declared.residue.Residue.{Residue}
use Rattle.groups.specs.declared.residues.Residues.{Residues}
use Rattle.groups.specs.declared.circle.Circle.{Circle}
use Rattle.groups.specs.contracts.residues.ResidueModular.TheImpl as residue
use Rattle.groups.specs.contracts.residues.ResiduesMonoid.TheImpl as residues
use Rattle.groups.specs.contracts.circle.Tuple2ResidueResidueModular.TheImpl as pair
use Rattle.groups.specs.contracts.circle.CircleMonoid.TheImpl as circle
use Rattle.groups.specs.Circles.{Pair}

abbrev pub ResidueGroup : Type 0
ResidueGroup = PrimeGroup Residue Residues residue.ghosts residues.ghosts

abbrev pub CircleGroup : Type 0
CircleGroup = PrimeGroup Pair Circle pair.ghosts circle.ghosts
