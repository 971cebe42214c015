-- The supplied set: the three kinds over a residue group, then the three over a circle group.
--   three m g    single, twin and mixed over the group g, whose elements multiply by m
--   six r c      the six kinds, in the order of their numbers
--   one_set f m g s   the set of one kind of the form f that s is
--   SuppliedSet  the type Supplied of the code
--   meant s      what the interface answers at a value of this type
use Rattle.std.specs.Prelude.{List, [], ◌∷◌, ◌++◌}
use Rattle.groups.specs.Monoids.{MonoidModel}
use Rattle.groups.specs.Groups.{GroupModel}
use Rattle.groups.specs.Residues.{residue_elements, residue_model}
use Rattle.groups.specs.Circles.{Pair, circle_elements, circle_model}
use Rattle.groups.specs.declared.residue.Residue.{Residue}
use Rattle.groups.specs.PrimeGroups.{ResidueGroup, CircleGroup}
use Rattle.kinds.specs.Kinds.{Kind, KindModel}
use Rattle.kinds.specs.GroupKinds.{single, twin, mixed, form_set}
use Rattle.kinds.specs.Joins.{join}
use Rattle.kinds.specs.declared.join.Join.{Join}
use Rattle.kinds.specs.declared.one_kind.OneKind.{OneKind}
use Rattle.kinds.specs.declared.form.Form.{Form}
use Rattle.kinds.specs.declared.form.Form.TheVariants.{Single, Twin, Mixed}
use Rattle.kinds.specs.declared.form.Single.{Single as SingleType}
use Rattle.kinds.specs.declared.form.Twin.{Twin as TwinType}
use Rattle.kinds.specs.declared.form.Mixed.{Mixed as MixedType}

abbrev pub three : {E : Type 0} → MonoidModel E → GroupModel E → List Kind
three m g = single m g ∷ twin m g ∷ mixed m g ∷ []

-- the two groups: their products, and their order, bases and words
abbrev pub residue_product : ResidueGroup → MonoidModel Residue
residue_product r = residue_elements r.q r.p

abbrev pub residue_group : ResidueGroup → GroupModel Residue
residue_group r = residue_model r.q r.p r.g r.h

abbrev pub circle_product : CircleGroup → MonoidModel Pair
circle_product c = circle_elements c.q c.p

abbrev pub circle_group : CircleGroup → GroupModel Pair
circle_group c = circle_model c.q c.p c.g c.h

abbrev pub six : ResidueGroup → CircleGroup → List Kind
six r c = three (residue_product r) (residue_group r) ++ three (circle_product c) (circle_group c)

abbrev pub Three : Type 0 → Type 0 → Type 0
Three G E = Join (Join (OneKind G SingleType E) (OneKind G TwinType E)) (OneKind G MixedType E)

abbrev pub SuppliedSet : Type 0
SuppliedSet = Join (Three ResidueGroup Residue) (Three CircleGroup Pair)

abbrev pub one_set : {G F E : Type 0} → Form → (G → MonoidModel E) → (G → GroupModel E) → OneKind G F E → KindModel
one_set f m g s = form_set (m s.group) (g s.group) f

abbrev pub three_sets : {G E : Type 0} → (G → MonoidModel E) → (G → GroupModel E) → Three G E → KindModel
three_sets m g s = join (join (one_set Single m g s.left.left) (one_set Twin m g s.left.right)) (one_set Mixed m g s.right)

abbrev pub meant : SuppliedSet → KindModel
meant s = join (three_sets residue_product residue_group s.left) (three_sets circle_product circle_group s.right)
