-- What holds of every lawful set of leaf kinds and every well-formed rule.
--   Setting m rule     a lawful set, a well-formed rule, and statements that are images
--   Fit m rule keys    keys that open their leaves and satisfy the rule
--   Marks              marks that keep the equation of satisfied entries
--   SatisfiedOnly      an entry is satisfied exactly as the equation says
--   ForksSatisfy       a fork gives exactly one list of keys, and they open their leaves and satisfy the rule
--   SimulatedFits      simulating writes exactly one transcript, and it is acceptable
--   FirstChosen        there is exactly one choice of the first k satisfied children, and it is a choice of real entries
--   ChosenFits         every choice of real entries makes exactly one transcript of a challenge, and it is acceptable
--   AnsweredFits       committing writes exactly one list of commitments; answering then writes, for each challenge, exactly one transcript;
--                      it has these commitments, and it is acceptable
--   OneSimulatedTape   an acceptable transcript is simulated by exactly one tape
--   OneHonestTape      and is answered, for keys that open their leaves and satisfy the rule, by exactly one tape
--   Words              a transcript's words are N + 6L, and parsing and spelling undo each other
--   ReadingSets        a rule and a ring that are read and paired are a setting, with any lawful set
use Rattle.std.specs.Prelude.{◌≡◌, ℕ, ◌+◌, ◌*◌, ◌<◌, Bool, T, List, length, None, Option}
use Rattle.std.proofs.Math.ListN.{get_elem?}
use Rattle.fields.specs.declared.scalar.Scalar.{Scalar}
use Rattle.kinds.specs.Kinds.{KindModel, Key, Lawful}
use Rattle.rules.specs.Tables.{Row, WellFormed as FormedRows, Only}
use Rattle.rings.specs.Rings.{ring_lines, ring_refusal}
use Rattle.rings.specs.Pairings.{pair_refusal, paired}
use Rattle.releases.specs.Entries.{Entry, entries, WellFormed, Stated, leaves}
use Rattle.releases.specs.Transcripts.{Transcript, challenge, Shaped, Acceptable, is_scalar, spelt, parsed}
use Rattle.releases.specs.Keys.{key, holds, satisfied, Satisfied, Opening}
use Rattle.releases.specs.Making.{Tape, Made, Simulated, Chosen, First, Answered, Committed}
use Rattle.releases.specs.Forks.{Forked}

pub record Setting (m : KindModel) (rule : List Entry) : Type 0 where
  pub lawful : Lawful m
  pub formed : WellFormed rule
  pub stated : Stated m rule

pub record Fit (m : KindModel) (rule : List Entry) (keys : List (Option Key)) : Type 0 where
  pub opening : Opening m rule keys
  pub satisfying : Satisfied m rule keys

abbrev pub Marks : KindModel → List Entry → List (Option Key) → (ℕ → Bool) → Type 0
Marks m rule keys marked = (i : ℕ) → i < length rule → marked i ≡ holds m (get_elem? rule i) (key rule keys i) marked

abbrev pub SatisfiedOnly : Type 0
SatisfiedOnly =
    (m : KindModel) (rule : List Entry) → WellFormed rule → (keys : List (Option Key))
    → Marks m rule keys (satisfied m rule keys) × ((marked : ℕ → Bool) → Marks m rule keys marked → (i : ℕ) → i < length rule → marked i ≡ satisfied m rule keys i)

abbrev pub ForksSatisfy : Type 0
ForksSatisfy =
    (m : KindModel) (rule : List Entry) → Setting m rule → (t t' : Transcript) → Acceptable m rule t → Acceptable m rule t'
    → t.commitments ≡ t'.commitments → ¬ (challenge t 0 ≡ challenge t' 0)
    → Only (Forked m.q rule t t') × ((keys : List (Option Key)) → Forked m.q rule t t' keys → Fit m rule keys)

abbrev pub SimulatedFits : Type 0
SimulatedFits =
    (m : KindModel) (rule : List Entry) → Setting m rule → (tape : List Scalar) → Tape m rule tape → (c : Scalar) → T (is_scalar m c)
    → Only (Simulated m rule tape c) × ((t : Transcript) → Simulated m rule tape c t → Acceptable m rule t)

abbrev pub FirstChosen : Type 0
FirstChosen =
    (m : KindModel) (rule : List Entry) → WellFormed rule → (keys : List (Option Key))
    → Only (First m rule keys) × (Satisfied m rule keys → (real : ℕ → Bool) → First m rule keys real → Chosen m rule keys real)

abbrev pub ChosenFits : Type 0
ChosenFits =
    (m : KindModel) (rule : List Entry) → Setting m rule → (keys : List (Option Key)) → Opening m rule keys → (real : ℕ → Bool) → Chosen m rule keys real
    → (tape : List Scalar) → Tape m rule tape → (c : Scalar) → T (is_scalar m c)
    → Only (Made m rule real keys tape c) × ((t : Transcript) → Made m rule real keys tape c t → Acceptable m rule t)

abbrev pub AnsweredFits : Type 0
AnsweredFits =
    (m : KindModel) (rule : List Entry) → Setting m rule → (keys : List (Option Key)) → Fit m rule keys → (tape : List Scalar) → Tape m rule tape
    → Only (Committed m rule keys tape)
    × ((c : Scalar) → T (is_scalar m c) → Only (Answered m rule keys tape c))
    × ((c : Scalar) → T (is_scalar m c) → (t : Transcript) → Answered m rule keys tape c t → Acceptable m rule t × Committed m rule keys tape t.commitments)

abbrev pub OneSimulatedTape : Type 0
OneSimulatedTape =
    (m : KindModel) (rule : List Entry) → Setting m rule → (t : Transcript) → Acceptable m rule t
    → Only (λ tape. Tape m rule tape × Simulated m rule tape (challenge t 0) t)

abbrev pub OneHonestTape : Type 0
OneHonestTape =
    (m : KindModel) (rule : List Entry) → Setting m rule → (keys : List (Option Key)) → Fit m rule keys → (t : Transcript) → Acceptable m rule t
    → Only (λ tape. Tape m rule tape × Committed m rule keys tape t.commitments × Answered m rule keys tape (challenge t 0) t)

abbrev pub Words : Type 0
Words =
    (rule : List Entry)
    → ((t : Transcript) → Shaped rule t → (length (spelt t) ≡ length rule + 6 * leaves rule) × (parsed rule (spelt t) ≡ t))
    × ((ws : List ℕ) → length ws ≡ length rule + 6 * leaves rule → Shaped rule (parsed rule ws) × (spelt (parsed rule ws) ≡ ws))

abbrev pub ReadingSets : Type 0
ReadingSets =
    (m : KindModel) → Lawful m → (rows : List Row) → FormedRows rows → (ring : List ℕ) → ring_refusal m ring ≡ None → pair_refusal rows (ring_lines ring) ≡ None
    → Setting m (entries rows (paired rows (ring_lines ring)))
