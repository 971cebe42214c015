-- Making transcripts from tapes. A tape is the prover's or the simulator's randomness, a share of it to each entry.
--   share_size m e            n - k scalars at a gate, the kind's width at a leaf
--   Tape m rule tape          as many scalars as the shares have
--   share m rule tape i n     the n scalars of the share of entry i
--   drawn m rule tape i kind  the share of a leaf as a key; at width 1 it stands with second scalar 0
--   given real p k children   the children whose challenges the gate's share gives: the simulated ones of a real gate,
--                             the first n - k of a simulated one
--   Chosen                    which entries may be real: entry 0; of a real gate k children, of a simulated one none; only satisfied ones
--   First                     the choice that is made here: of a real gate the first k satisfied children
--   Made                      what a tape makes of a challenge, where the entries that `real` marks are real
--   Simulated                 no entry is real, and no key is asked for
--   Answered                  the choice that is made here is real
--   Begun                     what is fixed before the challenge: every commitment, and the challenges of simulated entries
--   Committed                 the commitments that are written before the challenge
use Rattle.std.specs.Prelude.{◌≡◌, ℕ, zero, suc, ◌-◌, ◌<◌, ◌≤◌, Bool, true, false, cond, not, ◌&&◌, T, List, [], ◌∷◌, map, length, take, drop, Some, None, Option, nat_lt, slice_index, slice_index_or}
use Rattle.fields.specs.Scalars.{scalar, scalars_model}
use Rattle.fields.specs.declared.scalar.Scalar.{Scalar}
use Rattle.kinds.specs.Kinds.{KindModel, Key, zeros, add_keys}
use Rattle.kinds.specs.declared.image.Image.{Image}
use Rattle.splits.specs.Gates.{Balanced}
use Rattle.splits.specs.Marks.{marked}
use Rattle.releases.specs.Entries.{Entry, leaf, gate, LeafAt, GateAt, before, total, count, number, leaves}
use Rattle.releases.specs.Transcripts.{Transcript, challenge, commitment, response, Shaped, is_scalar, raised}
use Rattle.releases.specs.Keys.{key, scale_key, satisfied}

abbrev pub share_size : KindModel → Entry → ℕ
share_size m (leaf kind s) = (m.kind kind).width
share_size m (gate k children) = length children - k

module _ (m : KindModel) (rule : List Entry) where
  pub record Tape (tape : List Scalar) : Type 0 where
    pub long : length tape ≡ total (share_size m) rule
    pub scalars : (x : ℕ) → x < length tape → T (is_scalar m (slice_index_or tape x (scalar 0)))

  abbrev pub share : List Scalar → ℕ → ℕ → List Scalar
  share tape i n = take n (drop (before (share_size m) rule i) tape)

  abbrev pub drawn : List Scalar → ℕ → ℕ → Key
  drawn tape i kind = let s = share tape i (m.kind kind).width in (slice_index_or s 0 (scalar 0), slice_index_or s 1 (scalar 0))

-- marks on the first d places of a list
abbrev pub first_marks : ℕ → List ℕ → List Bool
first_marks d [] = []
first_marks zero (c ∷ cs) = false ∷ first_marks zero cs
first_marks (suc d) (c ∷ cs) = true ∷ first_marks d cs

abbrev pub given : (ℕ → Bool) → ℕ → ℕ → List ℕ → List Bool
given real p k children = cond (real p) (map (λ c. not (real c)) children) (first_marks (length children - k) children)

abbrev pub held : Option Key → Key
held None = (scalar 0, scalar 0)
held (Some x) = x

pub record Chosen (m : KindModel) (rule : List Entry) (keys : List (Option Key)) (real : ℕ → Bool) : Type 0 where
  pub root : T (real 0)
  pub some_children : (p k : ℕ) (children : List ℕ) → GateAt rule p k children → T (real p) → count real children ≡ k
  pub no_child : (p k : ℕ) (children : List ℕ) → GateAt rule p k children → T (not (real p)) → (j : ℕ) → j < length children → T (not (real (slice_index children j)))
  pub satisfied : (i : ℕ) → i < length rule → T (real i) → T (satisfied m rule keys i)

-- nothing stands past the table's end
pub record First (m : KindModel) (rule : List Entry) (keys : List (Option Key)) (real : ℕ → Bool) : Type 0 where
  pub root : real 0 ≡ true
  pub child : (p k : ℕ) (children : List ℕ) → GateAt rule p k children → (j : ℕ) → j < length children
      → real (slice_index children j) ≡ (real p && (satisfied m rule keys (slice_index children j) && nat_lt (count (satisfied m rule keys) (take j children)) k))
  pub outside : (i : ℕ) → length rule ≤ i → real i ≡ false

pub record Made (m : KindModel) (rule : List Entry) (real : ℕ → Bool) (keys : List (Option Key)) (tape : List Scalar) (c : Scalar) (t : Transcript) : Type 0 where
  pub shaped : Shaped rule t
  pub root : challenge t 0 ≡ c
  pub balanced : (i k : ℕ) (children : List ℕ) → GateAt rule i k children → Balanced (scalars_model m.q) k (challenge t i) (map (challenge t) children)
  -- a gate's share gives the challenges of some children, in order
  pub shared : (i k : ℕ) (children : List ℕ) → GateAt rule i k children
      → marked (given real i k children) (map (challenge t) children) ≡ share m rule tape i (length children - k)
  -- a simulated leaf's share is its response, and its commitment is image(response) · statement^(q - challenge)
  pub simulated : (i kind : ℕ) (s : Image) → LeafAt rule i kind s → T (not (real i))
      → (response rule t i ≡ drawn m rule tape i kind)
      × (commitment rule t i ≡ (m.kind kind).product ((m.kind kind).image (drawn m rule tape i kind)) (raised m kind s (m.q - (challenge t i).0)))
  -- a real leaf's share is its nonce, its commitment is the nonce's image, and its response is nonce + challenge · key
  pub answered : (i kind : ℕ) (s : Image) → LeafAt rule i kind s → T (real i)
      → (response rule t i ≡ add_keys m.q (drawn m rule tape i kind) (scale_key m.q (challenge t i) (held (key rule keys i))))
      × (commitment rule t i ≡ (m.kind kind).image (drawn m rule tape i kind))

abbrev pub Simulated : KindModel → List Entry → List Scalar → Scalar → Transcript → Type 0
Simulated m rule tape c t = Made m rule (λ _. false) [] tape c t

abbrev pub Answered : KindModel → List Entry → List (Option Key) → List Scalar → Scalar → Transcript → Type 0
Answered m rule keys tape c t = (real : ℕ → Bool) × First m rule keys real × Made m rule real keys tape c t

pub record Begun (m : KindModel) (rule : List Entry) (real : ℕ → Bool) (tape : List Scalar) (ch : ℕ → Scalar) (commitments : List Image) : Type 0 where
  pub long : length commitments ≡ leaves rule
  pub balanced : (i k : ℕ) (children : List ℕ) → GateAt rule i k children → T (not (real i)) → Balanced (scalars_model m.q) k (ch i) (map ch children)
  pub shared : (i k : ℕ) (children : List ℕ) → GateAt rule i k children
      → marked (given real i k children) (map ch children) ≡ share m rule tape i (length children - k)
  pub simulated : (i kind : ℕ) (s : Image) → LeafAt rule i kind s → T (not (real i))
      → slice_index_or commitments (number rule i) zeros ≡ (m.kind kind).product ((m.kind kind).image (drawn m rule tape i kind)) (raised m kind s (m.q - (ch i).0))
  pub answered : (i kind : ℕ) (s : Image) → LeafAt rule i kind s → T (real i) → slice_index_or commitments (number rule i) zeros ≡ (m.kind kind).image (drawn m rule tape i kind)

abbrev pub Committed : KindModel → List Entry → List (Option Key) → List Scalar → List Image → Type 0
Committed m rule keys tape commitments = (real : ℕ → Bool) × First m rule keys real × (ch : ℕ → Scalar) × Begun m rule real tape ch commitments
