-- What is asked of joins with the multiples.
--   multiples_of s      what the interface answers at a value of the type Multiples
--   single_of s         the same at one kind over a residue group
--   OfSum m n v w x    where v and w are keys of kind n, x is the image of their sum
use Rattle.std.specs.Prelude.{◌≡◌, ℕ, T}
use Rattle.kinds.specs.Kinds.{Key, KindModel, is_key, add_keys}
use Rattle.groups.specs.Residues.{residue_elements, residue_model}
use Rattle.groups.specs.declared.residue.Residue.{Residue}
use Rattle.groups.specs.PrimeGroups.{ResidueGroup}
use Rattle.kinds.specs.GroupKinds.{single_set}
use Rattle.kinds.specs.declared.image.Image.{Image}
use Rattle.kinds.specs.declared.form.Single.{Single}
use Rattle.kinds.specs.declared.one_kind.OneKind.{OneKind}
use Rattle.stranger.specs.Multiples.{multiples_set}
use Rattle.stranger.specs.declared.multiples.Multiples.{Multiples}

abbrev pub multiples_of : Multiples → KindModel
multiples_of s = multiples_set s.scalars.q s.base.0 s.count

abbrev pub single_of : OneKind ResidueGroup Single Residue → KindModel
single_of s = let r = s.group in single_set (residue_elements r.q r.p) (residue_model r.q r.p r.g r.h)

abbrev pub OfSum : KindModel → ℕ → Key → Key → Image → Type 0
OfSum m n v w x =
    T (is_key m.q (m.kind n).width v) → T (is_key m.q (m.kind n).width w) → x ≡ (m.kind n).image (add_keys m.q v w)
