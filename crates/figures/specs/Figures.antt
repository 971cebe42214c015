-- The worked figures, over the groups, the kinds and the rule of Setting.
--   Just P a            a has the property, and no other has it
--   OnlyRun            calls made in order, each of which has this one reply and leaves this one bench
--   scalars             a list of scalars by their values
--   Powers, Images      powers in the two groups, and images of keys
--   Splits              a gate's own challenge and some children's challenges determine the others
--   Reading             the text and the ring are read as the rule, of which the theorems on releases hold; its tapes have three scalars
--   commitments         6, 0, 0, 0 and 11, 3, 0, 0
--   words c d e r s     the transcript with these commitments, the challenges c, d, e and the responses (r, 0) and (s, 0)
--   to_seven, to_nine   the two transcripts here: their challenges are 7 and 9
--   first_key, second_key   a key to one leaf, and none to the other
--   simulating, answering   a challenge is simulated from a tape; keys and a tape are committed to, and a challenge is answered
--   forking, refusing   both transcripts are filed and forked, which gives the second key; words are not filed
--   used, filled        a bench whose only commitment was answered, a bench with both transcripts in its first slots
--   Replies             three tapes write one transcript, and the two transcripts give a key away
--   Refused             a new bench refuses to file words, and tells this number and place
--   Refusals            three faults of a transcript
--   FiguresStand       all of them
use Rattle.std.specs.Prelude.{◌≡◌, ℕ, List, [], ◌∷◌, map, replicate, Some, None, Option}
use Rattle.refusals.specs.declared.Refusal.{Refusal}
use Rattle.refusals.specs.declared.Refusal.TheVariants.{UnfitWord, Unbalanced, EquationFails}
use Rattle.refusals.specs.Numbers.{number_of, place_of}
use Rattle.fields.specs.Scalars.{scalar, scalars_model}
use Rattle.fields.specs.declared.scalar.Scalar.{Scalar}
use Rattle.groups.specs.Monoids.{power}
use Rattle.groups.specs.Residues.{residue}
use Rattle.groups.specs.Circles.{pair}
use Rattle.kinds.specs.Kinds.{Key}
use Rattle.kinds.specs.declared.image.Image.{Image}
use Rattle.splits.specs.Gates.{Balanced}
use Rattle.supplied.specs.Supplied.{residue_product, circle_product}
use Rattle.rules.specs.Texts.{Read}
use Rattle.rings.specs.Rings.{ring_lines, ring_refusal}
use Rattle.rings.specs.Pairings.{pair_refusal, paired}
use Rattle.releases.specs.Entries.{entries, total}
use Rattle.releases.specs.Making.{share_size}
use Rattle.releases.specs.Theorems.{Setting}
use Rattle.releases.specs.Calls.{Bench, fresh, commit, answer, simulate, file, fork, Reply, refused, committed, wrote, gave, done, Step}
use Rattle.releases.specs.Runs.{Event}
use Rattle.figures.specs.Setting.{residues, circle, kinds, image, key, text, rows, ring, rule}

abbrev pub Just : {A : Type 0} → (A → Type 0) → A → Type 0
Just {A = A} P a = P a × ((b : A) → P b → b ≡ a)

abbrev pub OnlyRun : Bench → List Event → Bench → Type 0
OnlyRun b [] b' = b' ≡ b
OnlyRun b (e ∷ es) b' = (mid : Bench) × Just {A = Reply × Bench} (λ p. Step kinds rule b e.0 p.0 p.1) (e.1, mid) × OnlyRun mid es b'

abbrev pub scalars : List ℕ → List Scalar
scalars ns = map scalar ns

pub record Powers : Type 0 where
  pub residue_power : power (residue_product residues) (residue 4) 5 ≡ residue 12
  pub circle_power : power (circle_product circle) (pair 2 13) 4 ≡ pair 11 40

pub record Images : Type 0 where
  pub twin_residues : (kinds.kind 2).image (key 5 0) ≡ image 12 0 8 0
  pub mixed_circle : (kinds.kind 6).image (key 1 2) ≡ image 11 3 0 0

pub record Splits : Type 0 where
  pub one_of_two : Just (λ x. Balanced (scalars_model 11) 1 (scalar 7) (scalar 2 ∷ x ∷ [])) (scalar 8)
  pub two_of_three : Just {A = Scalar × Scalar} (λ p. Balanced (scalars_model 11) 2 (scalar 7) (scalar 2 ∷ p.0 ∷ p.1 ∷ [])) (scalar 8, scalar 3)

pub record Reading : Type 0 where
  pub table : Read text rows
  pub ring_read : ring_refusal kinds ring ≡ None
  pub keys_found : pair_refusal rows (ring_lines ring) ≡ None
  pub paired_rule : entries rows (paired rows (ring_lines ring)) ≡ rule
  pub setting : Setting kinds rule
  pub tape_length : total (share_size kinds) rule ≡ 3

abbrev pub commitments : List Image
commitments = image 6 0 0 0 ∷ image 11 3 0 0 ∷ []

abbrev pub words : ℕ → ℕ → ℕ → ℕ → ℕ → List ℕ
words c d e r s = c ∷ d ∷ e ∷ 6 ∷ 0 ∷ 0 ∷ 0 ∷ 11 ∷ 3 ∷ 0 ∷ 0 ∷ r ∷ 0 ∷ s ∷ 0 ∷ []

abbrev pub to_seven : List ℕ
to_seven = words 7 2 8 5 6

abbrev pub to_nine : List ℕ
to_nine = words 9 2 6 5 9

abbrev pub first_key : List (Option Key)
first_key = Some (key 3 0) ∷ None ∷ []

abbrev pub second_key : List (Option Key)
second_key = None ∷ Some (key 4 0) ∷ []

abbrev pub simulating : List ℕ → ℕ → List ℕ → List Event
simulating tape c ws = (simulate (scalar c) (scalars tape) 15, wrote ws) ∷ []

abbrev pub answering : List (Option Key) → List ℕ → ℕ → List ℕ → List Event
answering keys tape c ws = (commit keys (scalars tape) 8, committed 1 commitments) ∷ (answer 1 (scalar c) 15, wrote ws) ∷ []

abbrev pub forking : List Event
forking = (file 1 to_seven, done) ∷ (file 2 to_nine, done) ∷ (fork 1 2 2, gave second_key) ∷ []

abbrev pub refusing : List ℕ → Refusal → List Event
refusing ws why = (file 1 ws, refused why) ∷ []

abbrev pub used : Bench
used = record { count = 1; holds = None; drawer = replicate 8 None }

abbrev pub filled : Bench
filled = record { count = 0; holds = None; drawer = Some to_seven ∷ Some to_nine ∷ replicate 6 None }

pub record Replies : Type 0 where
  pub simulated : OnlyRun fresh (simulating (2 ∷ 5 ∷ 6 ∷ []) 7 to_seven) fresh
  pub by_second_key : OnlyRun fresh (answering second_key (2 ∷ 5 ∷ 7 ∷ []) 7 to_seven) used
  pub by_first_key : OnlyRun fresh (answering first_key (8 ∷ 10 ∷ 6 ∷ []) 7 to_seven) used
  pub other_challenge : OnlyRun fresh (answering second_key (2 ∷ 5 ∷ 7 ∷ []) 9 to_nine) used
  pub forked : OnlyRun fresh forking filled

pub record Refused (ws : List ℕ) (why : Refusal) (number place : ℕ) : Type 0 where
  pub reply : OnlyRun fresh (refusing ws why) fresh
  pub number_told : number_of why ≡ number
  pub place_told : place_of why ≡ place

pub record Refusals : Type 0 where
  pub no_scalar : Refused (words 11 2 8 5 6) (UnfitWord 0) 23 0
  pub unbalanced : Refused (words 7 2 9 5 6) (Unbalanced 0) 24 0
  pub wrong_response : Refused (words 7 2 8 4 6) (EquationFails 0) 25 0

abbrev pub FiguresStand : Type 0
FiguresStand = Powers × Images × Splits × Reading × Replies × Refusals
