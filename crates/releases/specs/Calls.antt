-- The seven calls at a bench: when each is refused, and what it writes and leaves where it is obeyed.
--   Held                 a held commitment: the count that its chit carries (a chit is a one-use token for it), its keys and its tape
--   Bench                how many commitments were made, the one that is held, and a drawer of eight slots, each empty or with a transcript's words
--   Call                 a call with what the caller hands over; `room` is the length of the output that the caller lends
--   Reply                what comes back
--   slot_at b s          what lies in slot s, from 1
--   names h chit         the chit carries the count of the held commitment
--   word_count rule      how many words a transcript has
--   Fits m rule t x      word x of a transcript fits: a challenge is a scalar, four words are an image (told at the first), two are a key
--   Refuses b c o        the checks of a call, in their order
--   after_refusal b c    a refused call changes nothing, but that answer wipes the commitment that its chit names
--   Obeyed b c r b'      what an obeyed call replies and leaves
--   Step b c r b'        one call
use Rattle.std.specs.Prelude.{◌≡◌, ℕ, suc, ◌+◌, ◌-◌, ◌*◌, ◌<◌, ◌≤◌, Bool, false, cond, T, List, [], map, length, replicate, Some, None, Option, ◌==◌, slice_index_or, slice_set}
use Rattle.refusals.specs.declared.Refusal.{Refusal}
use Rattle.refusals.specs.declared.Refusal.TheVariants.{OutputLength, KeyCount, NoKey, Unopened, Unsatisfied, TapeLength, NoScalar, ChallengeRange, NotHeld, CountFull, TranscriptLength, UnfitWord, Unbalanced, EquationFails, SlotFilled, NoSlot, SlotEmpty, CommitmentsDiffer, ChallengesEqual}
use Rattle.fields.specs.Scalars.{scalar, scalars_model}
use Rattle.fields.specs.declared.scalar.Scalar.{Scalar}
use Rattle.kinds.specs.Kinds.{KindModel, Key, zeros}
use Rattle.kinds.specs.declared.image.Image.{Image}
use Rattle.splits.specs.Gates.{Balanced}
use Rattle.releases.specs.Entries.{Entry, LeafAt, GateAt, total, number, leaves}
use Rattle.releases.specs.Transcripts.{Transcript, challenge, commitment, response, is_scalar, IsKey, IsImage, raised, parsed}
use Rattle.releases.specs.Keys.{key, Satisfied}
use Rattle.releases.specs.Making.{share_size, Simulated, Committed, Answered}
use Rattle.releases.specs.Forks.{Forked}
use Rattle.releases.specs.Checks.{Clear, Test, Each}

pub record Held : Type 0 where
  pub serial : ℕ
  pub keys : List (Option Key)
  pub tape : List Scalar

pub record Bench : Type 0 where
  pub count : ℕ
  pub holds : Option Held
  pub drawer : List (Option (List ℕ))

abbrev pub fresh : Bench
fresh = record { count = 0; holds = None; drawer = replicate 8 None }

pub data Call : Type 0 where
  commit : (keys : List (Option Key)) (tape : List Scalar) (room : ℕ) → Call
  answer : (chit : ℕ) (c : Scalar) (room : ℕ) → Call
  scrap : (chit : ℕ) → Call
  simulate : (c : Scalar) (tape : List Scalar) (room : ℕ) → Call
  file : (slot : ℕ) (words : List ℕ) → Call
  remove : (slot : ℕ) → Call
  fork : (slot slot' room : ℕ) → Call

pub data Reply : Type 0 where
  refused : Refusal → Reply
  committed : (chit : ℕ) (commitments : List Image) → Reply
  wrote : (words : List ℕ) → Reply
  gave : (keys : List (Option Key)) → Reply
  done : Reply

abbrev pub slot_at : Bench → ℕ → Option (List ℕ)
slot_at b slot = slice_index_or b.drawer (slot - 1) None

abbrev pub with_slot : Bench → ℕ → Option (List ℕ) → Bench
with_slot b slot x = record { count = b.count; holds = b.holds; drawer = slice_set b.drawer (slot - 1) x }

abbrev pub with_holds : Bench → Option Held → Bench
with_holds b h = record { count = b.count; holds = h; drawer = b.drawer }

abbrev pub names : Option Held → ℕ → Bool
names None chit = false
names (Some h) chit = h.serial == chit

abbrev pub IsSlot : ℕ → Type 0
IsSlot slot = (1 ≤ slot) × (slot ≤ 8)

abbrev pub Filled : Option (List ℕ) → Type 0
Filled None = ⊥
Filled (Some ws) = Unit {0}

abbrev pub content : Option (List ℕ) → List ℕ
content None = []
content (Some ws) = ws

-- of an absent key nothing is asked
abbrev pub IfHeld : (Key → Type 0) → Option Key → Type 0
IfHeld P None = Unit {0}
IfHeld P (Some x) = P x

abbrev pub Room : ℕ → ℕ → (Option Refusal → Type 0) → Option Refusal → Type 0
Room room n = Test (room ≡ n) OutputLength

abbrev pub Slotted : Bench → ℕ → (Option Refusal → Type 0) → Option Refusal → Type 0
Slotted b slot next = Test (IsSlot slot) (NoSlot slot) (Test (Filled (slot_at b slot)) (SlotEmpty slot) next)

abbrev pub after_refusal : Bench → Call → Bench
after_refusal b (commit keys tape room) = b
after_refusal b (answer chit c room) = cond (names b.holds chit) (with_holds b None) b
after_refusal b (scrap chit) = b
after_refusal b (simulate c tape room) = b
after_refusal b (file slot ws) = b
after_refusal b (remove slot) = b
after_refusal b (fork slot slot' room) = b

-- N + 6L
abbrev pub word_count : List Entry → ℕ
word_count rule = length rule + 6 * leaves rule

module _ (rule : List Entry) where
  -- at a leaf, at a gate; nothing is asked of other entries
  abbrev pub AtLeaf : (ℕ → ℕ → Image → Type 0) → ℕ → Type 0
  AtLeaf P i = (kind : ℕ) (s : Image) → LeafAt rule i kind s → P i kind s

  abbrev pub AtGate : (ℕ → ℕ → List ℕ → Type 0) → ℕ → Type 0
  AtGate P i = (k : ℕ) (children : List ℕ) → GateAt rule i k children → P i k children

module _ (m : KindModel) (rule : List Entry) where
  pub record Fits (t : Transcript) (x : ℕ) : Type 0 where
    pub scalars : x < length rule → T (is_scalar m (challenge t x))
    pub images : (i kind : ℕ) (s : Image) → LeafAt rule i kind s → x ≡ length rule + 4 * number rule i → IsImage m kind (commitment rule t i)
    pub firsts : (i kind : ℕ) (s : Image) → LeafAt rule i kind s → x ≡ length rule + 4 * leaves rule + 2 * number rule i → T (is_scalar m (response rule t i).0)
    pub seconds : (i kind : ℕ) (s : Image) → LeafAt rule i kind s → x ≡ length rule + 4 * leaves rule + 2 * number rule i + 1 → IsKey m kind (scalar 0, (response rule t i).1)

  abbrev pub Keyed : List (Option Key) → (Option Refusal → Type 0) → Option Refusal → Type 0
  Keyed keys next =
      Test (length keys ≡ leaves rule) (KeyCount (length keys))
      (Each (length rule) (AtLeaf rule (λ i kind s. IfHeld (IsKey m kind) (key rule keys i))) (λ i. NoKey (number rule i))
      (Each (length rule) (AtLeaf rule (λ i kind s. IfHeld (λ x. (m.kind kind).image x ≡ s) (key rule keys i))) (λ i. Unopened (number rule i))
      (Test (Satisfied m rule keys) Unsatisfied next)))

  abbrev pub Taped : List Scalar → (Option Refusal → Type 0) → Option Refusal → Type 0
  Taped tape next =
      Test (length tape ≡ total (share_size m) rule) (TapeLength (length tape))
      (Each (length tape) (λ x. T (is_scalar m (slice_index_or tape x (scalar 0)))) NoScalar next)

  abbrev pub Accepted : List ℕ → (Option Refusal → Type 0) → Option Refusal → Type 0
  Accepted ws next =
      let t = parsed rule ws in
      Test (length ws ≡ word_count rule) TranscriptLength
      (Each (word_count rule) (Fits t) UnfitWord
      (Each (length rule) (AtGate rule (λ i k children. Balanced (scalars_model m.q) k (challenge t i) (map (challenge t) children))) Unbalanced
      (Each (length rule)
      (AtLeaf rule (λ i kind s. (m.kind kind).image (response rule t i) ≡ (m.kind kind).product (commitment rule t i) (raised m kind s (challenge t i).0)))
      (λ i. EquationFails (number rule i)) next)))

  abbrev pub Refuses : Bench → Call → Option Refusal → Type 0
  Refuses b (commit keys tape room) = Room room (4 * leaves rule) (Test (¬ (b.count ≡ 65535)) CountFull (Keyed keys (Taped tape Clear)))
  Refuses b (answer chit c room) = Test (T (names b.holds chit)) NotHeld (Room room (word_count rule) (Test (T (is_scalar m c)) ChallengeRange Clear))
  Refuses b (scrap chit) = Test (T (names b.holds chit)) NotHeld Clear
  Refuses b (simulate c tape room) = Room room (word_count rule) (Test (T (is_scalar m c)) ChallengeRange (Taped tape Clear))
  Refuses b (file slot ws) = Test (IsSlot slot) (NoSlot slot) (Test (¬ Filled (slot_at b slot)) (SlotFilled slot) (Accepted ws Clear))
  Refuses b (remove slot) = Slotted b slot Clear
  Refuses b (fork slot slot' room) =
      let t = parsed rule (content (slot_at b slot)) in
      let t' = parsed rule (content (slot_at b slot')) in
      Slotted b slot (Slotted b slot' (Room room (leaves rule)
      (Each (leaves rule) (λ l. slice_index_or t.commitments l zeros ≡ slice_index_or t'.commitments l zeros) CommitmentsDiffer
      (Test (¬ (challenge t 0 ≡ challenge t' 0)) ChallengesEqual Clear))))

  -- words that stand for a transcript
  abbrev pub Written : (Transcript → Type 0) → List ℕ → Type 0
  Written P ws = (length ws ≡ word_count rule) × P (parsed rule ws)

  abbrev pub Obeyed : Bench → Call → Reply → Bench → Type 0
  Obeyed b (commit keys tape room) r b' =
      (a : List Image) × Committed m rule keys tape a × (r ≡ committed (suc b.count) a)
      × (b' ≡ record { count = suc b.count; holds = Some (record { serial = suc b.count; keys = keys; tape = tape }); drawer = b.drawer })
  Obeyed b (answer chit c room) r b' =
      (h : Held) × (b.holds ≡ Some h) × (ws : List ℕ) × Written (Answered m rule h.keys h.tape c) ws × (r ≡ wrote ws) × (b' ≡ with_holds b None)
  Obeyed b (scrap chit) r b' = (r ≡ done) × (b' ≡ with_holds b None)
  Obeyed b (simulate c tape room) r b' = (ws : List ℕ) × Written (Simulated m rule tape c) ws × (r ≡ wrote ws) × (b' ≡ b)
  Obeyed b (file slot ws) r b' = (r ≡ done) × (b' ≡ with_slot b slot (Some ws))
  Obeyed b (remove slot) r b' = (r ≡ done) × (b' ≡ with_slot b slot None)
  Obeyed b (fork slot slot' room) r b' =
      (keys : List (Option Key)) × Forked m.q rule (parsed rule (content (slot_at b slot))) (parsed rule (content (slot_at b slot'))) keys × (r ≡ gave keys) × (b' ≡ b)

  abbrev pub Outcome : Bench → Call → Reply → Bench → Option Refusal → Type 0
  Outcome b c r b' None = Obeyed b c r b'
  Outcome b c r b' (Some why) = (r ≡ refused why) × (b' ≡ after_refusal b c)

  abbrev pub Step : Bench → Call → Reply → Bench → Type 0
  Step b c r b' = (o : Option Refusal) × Refuses b c o × Outcome b c r b' o
