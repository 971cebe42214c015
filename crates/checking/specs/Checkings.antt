-- The checks of a transcript one after another, and the key that a fork gives at one leaf.
--   transcript ch as rs       the transcript of these challenges, commitments and responses
--   ScalarsChecked m cs       every one of the challenges is below q; told is the first word that is not
--   ImagesChecked m rule as   every leaf's commitment is an image of its kind; told is the first word of the first that is not
--   KeysChecked m rule rs     every leaf's response is a key of its kind; told is its first scalar if that is not below q, else its second
--   WordsChecked m rule t     every word fits
--   GatesChecked m rule ch    every gate balances
--   EquationsChecked m rule t every leaf's equation holds
--   TranscriptChecked         the three in order
--   ForkChecked               the commitments are equal, and the challenges of entry 0 differ
--   ForkedKey q c c' r r' o   none where the challenges are equal, else the quotient of the responses by them
use Rattle.std.specs.Prelude.{◌≡◌, ℕ, ◌+◌, ◌*◌, cond, T, List, map, length, get_or, Some, None, Option, slice_index_or}
use Rattle.refusals.specs.declared.Refusal.{Refusal}
use Rattle.refusals.specs.declared.Refusal.TheVariants.{UnfitWord, Unbalanced, EquationFails, CommitmentsDiffer, ChallengesEqual}
use Rattle.fields.specs.Scalars.{scalar, scalars_model}
use Rattle.fields.specs.declared.scalar.Scalar.{Scalar}
use Rattle.kinds.specs.Kinds.{KindModel, Key, zeros}
use Rattle.kinds.specs.declared.image.Image.{Image}
use Rattle.splits.specs.Gates.{Balanced}
use Rattle.releases.specs.Entries.{Entry, number, leaves}
use Rattle.releases.specs.Transcripts.{Transcript, challenge, commitment, response, is_scalar, IsKey, IsImage, raised}
use Rattle.releases.specs.Calls.{AtLeaf, AtGate, Fits, word_count}
use Rattle.releases.specs.Checks.{Clear, Test, Each}
use Rattle.releases.specs.Forks.{Quotient}

abbrev pub transcript : List Scalar → List Image → List Key → Transcript
transcript cs xs rs = record { challenges = cs; commitments = xs; responses = rs }

abbrev pub ScalarsChecked : KindModel → List Scalar → Option Refusal → Type 0
ScalarsChecked m cs = Each (length cs) (λ i. T (is_scalar m (slice_index_or cs i (scalar 0)))) UnfitWord Clear

module _ (m : KindModel) (rule : List Entry) where
  abbrev pub ImagesChecked : List Image → Option Refusal → Type 0
  ImagesChecked xs =
      Each (length rule) (AtLeaf rule (λ i kind s. IsImage m kind (slice_index_or xs (number rule i) zeros))) (λ i. UnfitWord (length rule + 4 * number rule i)) Clear

  abbrev pub KeysChecked : List Key → Option Refusal → Type 0
  KeysChecked rs =
      let at : ℕ → Key = λ i. get_or rs (number rule i) (scalar 0, scalar 0) in
      Each (length rule) (AtLeaf rule (λ i kind s. IsKey m kind (at i)))
      (λ i. UnfitWord (length rule + 4 * leaves rule + 2 * number rule i + cond (is_scalar m (at i).0) 1 0)) Clear

  abbrev pub WordsChecked : Transcript → (Option Refusal → Type 0) → Option Refusal → Type 0
  WordsChecked t = Each (word_count rule) (Fits m rule t) UnfitWord

  abbrev pub GatesChecked : (ℕ → Scalar) → (Option Refusal → Type 0) → Option Refusal → Type 0
  GatesChecked ch = Each (length rule) (AtGate rule (λ i k children. Balanced (scalars_model m.q) k (ch i) (map ch children))) Unbalanced

  abbrev pub EquationsChecked : Transcript → (Option Refusal → Type 0) → Option Refusal → Type 0
  EquationsChecked t =
      Each (length rule)
      (AtLeaf rule (λ i kind s. (m.kind kind).image (response rule t i) ≡ (m.kind kind).product (commitment rule t i) (raised m kind s (challenge t i).0)))
      (λ i. EquationFails (number rule i))

  abbrev pub TranscriptChecked : Transcript → (Option Refusal → Type 0) → Option Refusal → Type 0
  TranscriptChecked t next = WordsChecked t (GatesChecked (challenge t) (EquationsChecked t next))

abbrev pub ForkChecked : ℕ → List Image → List Image → List Scalar → List Scalar → (Option Refusal → Type 0) → Option Refusal → Type 0
ForkChecked n xs ys cs ds next =
    Each n (λ l. slice_index_or xs l zeros ≡ slice_index_or ys l zeros) CommitmentsDiffer (Test (¬ (slice_index_or cs 0 (scalar 0) ≡ slice_index_or ds 0 (scalar 0))) ChallengesEqual next)

pub record ForkedKey (q : ℕ) (c c' : Scalar) (r r' : Key) (o : Option Key) : Type 0 where
  pub absent : c ≡ c' → o ≡ None
  pub present : ¬ (c ≡ c') → (x : Key) × (o ≡ Some x) × Quotient q c c' r r' x
