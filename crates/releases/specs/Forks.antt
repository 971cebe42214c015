-- The keys that two transcripts with equal commitments and different challenges give away.
--   Quotient q c c' r r' x    x is the pair of scalars (r - r') / (c - c'): times c - c', it is r - r'
--   Forked q rule t t' keys   at each leaf whose challenges differ the quotient of responses by challenges, else absent
use Rattle.std.specs.Prelude.{◌≡◌, ℕ, ◌<◌, List, length, Some, None, Option}
use Rattle.fields.specs.Fields.{minus}
use Rattle.fields.specs.Scalars.{scalars_model}
use Rattle.fields.specs.declared.scalar.Scalar.{Scalar}
use Rattle.kinds.specs.Kinds.{Key}
use Rattle.kinds.specs.declared.image.Image.{Image}
use Rattle.releases.specs.Entries.{Entry, LeafAt, leaves}
use Rattle.releases.specs.Transcripts.{Transcript, challenge, response}
use Rattle.releases.specs.Keys.{key, sub_keys, scale_key}

pub record Quotient (q : ℕ) (c c' : Scalar) (r r' x : Key) : Type 0 where
  pub first : x.0.0 < q
  pub second : x.1.0 < q
  pub product : scale_key q (minus (scalars_model q) c c') x ≡ sub_keys q r r'

pub record Forked (q : ℕ) (rule : List Entry) (t t' : Transcript) (keys : List (Option Key)) : Type 0 where
  pub long : length keys ≡ leaves rule
  pub absent : (i kind : ℕ) (s : Image) → LeafAt rule i kind s → challenge t i ≡ challenge t' i → key rule keys i ≡ None
  pub present : (i kind : ℕ) (s : Image) → LeafAt rule i kind s → ¬ (challenge t i ≡ challenge t' i)
      → (x : Key) × (key rule keys i ≡ Some x) × Quotient q (challenge t i) (challenge t' i) (response rule t i) (response rule t' i) x
