-- Transcripts: challenges, commitments and responses of one release, and when they are acceptable.
--   Transcript               a challenge to an entry, a commitment and a response to a leaf, each in the order of the table
--   challenge t i            the challenge of entry i; the transcript's own is that of entry 0
--   commitment rule t i      the commitment of the leaf at entry i
--   response rule t i        its response
--   Shaped rule t            the lists are as long as the rule asks
--   is_scalar m x            x is below q
--   IsKey m kind x           x is a key of the kind's width
--   IsImage m kind x         x is an image of the kind
--   raised m kind s c        s multiplied c times
--   Acceptable m rule t      the checks that a transcript must pass
--   spelt t, parsed rule ws  a transcript as words, and words as a transcript: N challenges, L commitments of four words, L responses of two
use Rattle.std.specs.Prelude.{◌≡◌, ℕ, zero, suc, ◌+◌, ◌*◌, ◌<◌, Bool, T, List, [], ◌∷◌, ◌++◌, map, length, take, drop, nat_lt, slice_index, slice_index_or}
use Rattle.fields.specs.Scalars.{scalar, scalars_model}
use Rattle.fields.specs.declared.scalar.Scalar.{Scalar}
use Rattle.groups.specs.Monoids.{power}
use Rattle.kinds.specs.Kinds.{KindModel, Key, zeros, is_key, images}
use Rattle.kinds.specs.declared.image.Image.{Image}
use Rattle.splits.specs.Gates.{Balanced}
use Rattle.releases.specs.Entries.{Entry, LeafAt, GateAt, number, leaves}

pub record Transcript : Type 0 where
  pub challenges : List Scalar
  pub commitments : List Image
  pub responses : List Key

abbrev pub challenge : Transcript → ℕ → Scalar
challenge t i = slice_index_or t.challenges i (scalar 0)

module _ (rule : List Entry) (t : Transcript) where
  abbrev pub commitment : ℕ → Image
  commitment i = slice_index_or t.commitments (number rule i) zeros

  abbrev pub response : ℕ → Key
  response i = slice_index_or t.responses (number rule i) (scalar 0, scalar 0)

  pub record Shaped : Type 0 where
    pub challenges : length t.challenges ≡ length rule
    pub commitments : length t.commitments ≡ leaves rule
    pub responses : length t.responses ≡ leaves rule

module _ (m : KindModel) where
  abbrev pub is_scalar : Scalar → Bool
  is_scalar x = nat_lt x.0 m.q

  abbrev pub IsKey : ℕ → Key → Type 0
  IsKey kind x = T (is_key m.q (m.kind kind).width x)

  abbrev pub IsImage : ℕ → Image → Type 0
  IsImage kind x = T ((m.kind kind).is_image x)

  abbrev pub raised : ℕ → Image → ℕ → Image
  raised kind s c = power (images (m.kind kind)) s c

  pub record Acceptable (rule : List Entry) (t : Transcript) : Type 0 where
    pub shaped : Shaped rule t
    pub scalars : (i : ℕ) → i < length rule → T (is_scalar (challenge t i))
    pub commitments : (i kind : ℕ) (s : Image) → LeafAt rule i kind s → IsImage kind (commitment rule t i)
    pub responses : (i kind : ℕ) (s : Image) → LeafAt rule i kind s → IsKey kind (response rule t i)
    pub balanced : (i k : ℕ) (children : List ℕ) → GateAt rule i k children
        → Balanced (scalars_model m.q) k (challenge t i) (map (challenge t) children)
    -- image(response) = commitment · statement^challenge
    pub equations : (i kind : ℕ) (s : Image) → LeafAt rule i kind s
        → (m.kind kind).image (response rule t i) ≡ (m.kind kind).product (commitment rule t i) (raised kind s (challenge t i).0)

abbrev pub image_words : List Image → List ℕ
image_words [] = []
image_words (x ∷ xs) = x.0.0 ∷ x.0.1 ∷ x.1.0 ∷ x.1.1 ∷ image_words xs

abbrev pub key_words : List Key → List ℕ
key_words [] = []
key_words (x ∷ xs) = x.0.0 ∷ x.1.0 ∷ key_words xs

abbrev pub spelt : Transcript → List ℕ
spelt t = map (λ (c : Scalar). c.0) t.challenges ++ (image_words t.commitments ++ key_words t.responses)

abbrev pub images_in : ℕ → List ℕ → List Image
images_in zero ws = []
images_in (suc n) ws = record { 0 = (slice_index ws 0, slice_index ws 1); 1 = (slice_index ws 2, slice_index ws 3) } ∷ images_in n (drop 4 ws)

abbrev pub keys_in : ℕ → List ℕ → List Key
keys_in zero ws = []
keys_in (suc n) ws = (scalar (slice_index ws 0), scalar (slice_index ws 1)) ∷ keys_in n (drop 2 ws)

abbrev pub parsed : List Entry → List ℕ → Transcript
parsed rule ws = record {
  challenges = map scalar (take (length rule) ws);
  commitments = images_in (leaves rule) (drop (length rule) ws);
  responses = keys_in (leaves rule) (drop (length rule + 4 * leaves rule) ws);
}
