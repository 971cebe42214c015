-- Keys held for a rule: which leaves they open, and which entries they satisfy.
--   sub_keys q v w, scale_key q c w   keys subtract and scale scalar by scalar, modulo q
--   same_image x y            the same four words
--   key rule keys i           the key of the leaf at entry i, or none
--   opens m kind s x          the key is present, and its image is the statement
--   holds                     a leaf that its key opens, a gate with k children marked
--   satisfied m rule keys i   a leaf that its key opens, a gate of which k children are satisfied
--   Satisfied m rule keys     the keys satisfy the rule: entry 0 is satisfied
--   Opening m rule keys       one to a leaf, each absent or a key of its leaf's width that opens it
use Rattle.std.specs.Prelude.{◌≡◌, ℕ, zero, suc, Bool, false, ◌&&◌, T, List, length, Some, None, Option, ◌==◌, nat_le, slice_index_or}
use Rattle.std.proofs.Math.Option.{Option as Found, some, none}
use Rattle.std.proofs.Math.ListN.{get_elem?}
use Rattle.fields.specs.Fields.{minus}
use Rattle.fields.specs.Scalars.{scalars_model}
use Rattle.fields.specs.declared.scalar.Scalar.{Scalar}
use Rattle.kinds.specs.Kinds.{KindModel, Key}
use Rattle.kinds.specs.declared.image.Image.{Image}
use Rattle.releases.specs.Entries.{Entry, leaf, gate, LeafAt, number, leaves, count}
use Rattle.releases.specs.Transcripts.{IsKey}

abbrev pub sub_keys : ℕ → Key → Key → Key
sub_keys q v w = (minus (scalars_model q) v.0 w.0, minus (scalars_model q) v.1 w.1)

abbrev pub scale_key : ℕ → Scalar → Key → Key
scale_key q c w = ((scalars_model q).times c w.0, (scalars_model q).times c w.1)

abbrev pub same_image : Image → Image → Bool
same_image x y = x.0.0 == y.0.0 && (x.0.1 == y.0.1 && (x.1.0 == y.1.0 && x.1.1 == y.1.1))

abbrev pub opens : KindModel → ℕ → Image → Option Key → Bool
opens m kind s None = false
opens m kind s (Some x) = same_image ((m.kind kind).image x) s

abbrev pub key : List Entry → List (Option Key) → ℕ → Option Key
key rule keys i = slice_index_or keys (number rule i) None

abbrev pub holds : KindModel → Found Entry → Option Key → (ℕ → Bool) → Bool
holds m none x marked = false
holds m (some (leaf kind s)) x marked = opens m kind s x
holds m (some (gate k children)) x marked = nat_le k (count marked children)

module _ (m : KindModel) (rule : List Entry) (keys : List (Option Key)) where
  -- as far as is seen by looking d entries deep
  abbrev pub satisfied_within : ℕ → ℕ → Bool
  satisfied_within zero i = false
  satisfied_within (suc d) i = holds m (get_elem? rule i) (key rule keys i) (satisfied_within d)

  -- no table is deeper than it is long
  unfoldable pub satisfied : ℕ → Bool
  satisfied i = satisfied_within (length rule) i

  abbrev pub Satisfied : Type 0
  Satisfied = T (satisfied 0)

  pub record Opening : Type 0 where
    pub long : length keys ≡ leaves rule
    pub each : (i kind : ℕ) (s : Image) → LeafAt rule i kind s → (x : Key) → key rule keys i ≡ Some x → IsKey m kind x × ((m.kind kind).image x ≡ s)
