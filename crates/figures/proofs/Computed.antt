-- What is written from each tape, by computation.
use Rattle.std.proofs.Common.{◌≡◌, ℕ, ◌+◌, ◌-◌, ◌<◌, Bool, true, false, not, ◌&&◌, T, ltb, List, [], ◌∷◌, map, length, get_or, take, Some, Option, sym, refl, ap, subst, lit≤}
use Rattle.fields.specs.Fields.{FieldLaws}
use Rattle.fields.specs.Scalars.{scalar, scalars_model}
use Rattle.fields.specs.declared.scalar.Scalar.{Scalar}
use Rattle.fields.proofs.Primality.{prime_11}
use Rattle.fields.specs.ScalarLaws.{scalar_laws}
use Rattle.groups.specs.Monoids.{power}
use Rattle.kinds.specs.Kinds.{Key, add_keys}
use Rattle.kinds.specs.declared.image.Image.{Image}
use Rattle.polynomials.specs.Polynomials.{value}
use Rattle.splits.specs.Gates.{Balanced}
use Rattle.splits.specs.Marks.{marked}
use Rattle.releases.specs.Entries.{count}
use Rattle.releases.specs.Transcripts.{Transcript, challenge, commitment, response, Shaped, parsed, is_scalar, IsKey, raised}
use Rattle.releases.specs.Keys.{key as key_at, scale_key, satisfied}
use Rattle.releases.specs.Making.{Tape, share, drawn, given, held, First, Made}
use Rattle.releases.specs.Theorems.{Fit}
use Rattle.releases.proofs.Checking.{not_Some}
use Rattle.releases.proofs.Gate.{same_children}
use Rattle.releases.proofs.Running.{SomeInj}
use Rattle.figures.specs.Setting.{kinds, image, key, rule}
use Rattle.figures.specs.Figures.{scalars, to_seven, to_nine, first_key, second_key}
use Rattle.figures.proofs.Entered.{at_gates, at_leaves, below_two, below_three, marks, outside_marks}

-- challenges on the line with the values own, own + slope, own + 2 slope, ..
abbrev on_line : ℕ → ℕ → ℕ → Scalar
on_line own slope j = value (scalars_model 11) (scalars (own ∷ slope ∷ [])) (scalar j)

balanced_line : (own slope k : ℕ) (cs : List Scalar) → T (ltb own 11) → T (ltb slope 11) → 2 ≡ length cs - k + 1
    → on_line own slope 0 ≡ scalar own → ((j : ℕ) → j < length cs → on_line own slope (j + 1) ≡ get_or cs j (scalar 0))
    → Balanced (scalars_model 11) k (scalar own) cs
balanced_line own slope k cs a b few root children =
    (scalars (own ∷ slope ∷ []), few, below_two (λ i. T (ltb (get_or (scalars (own ∷ slope ∷ [])) i (scalar 0)).0 11)) a b, root, children)

pub balanced_seven : Balanced (scalars_model 11) 1 (scalar 7) (scalars (2 ∷ 8 ∷ []))
balanced_seven =
    balanced_line 7 6 1 (scalars (2 ∷ 8 ∷ [])) tt tt refl refl (below_two (λ j. on_line 7 6 (j + 1) ≡ get_or (scalars (2 ∷ 8 ∷ [])) j (scalar 0)) refl refl)

pub balanced_nine : Balanced (scalars_model 11) 1 (scalar 9) (scalars (2 ∷ 6 ∷ []))
balanced_nine =
    balanced_line 9 4 1 (scalars (2 ∷ 6 ∷ [])) tt tt refl refl (below_two (λ j. on_line 9 4 (j + 1) ≡ get_or (scalars (2 ∷ 6 ∷ [])) j (scalar 0)) refl refl)

pub balanced_three : Balanced (scalars_model 11) 2 (scalar 7) (scalars (2 ∷ 8 ∷ 3 ∷ []))
balanced_three =
    balanced_line 7 6 2 (scalars (2 ∷ 8 ∷ 3 ∷ [])) tt tt refl refl
    (below_three (λ j. on_line 7 6 (j + 1) ≡ get_or (scalars (2 ∷ 8 ∷ 3 ∷ [])) j (scalar 0)) refl refl refl)

abbrev field : FieldLaws (scalars_model 11)
field = scalar_laws 11 prime_11 (lit≤ tt)

pub eight_alone : (x : Scalar) → Balanced (scalars_model 11) 1 (scalar 7) (scalar 2 ∷ x ∷ []) → x ≡ scalar 8
eight_alone x b =
    ap (λ cs. get_or cs 1 (scalar 0)) (same_children field (scalar 7) (true ∷ false ∷ []) (lit≤ tt) (scalar 2 ∷ x ∷ []) (scalars (2 ∷ 8 ∷ [])) refl refl b balanced_seven refl)

pub eight_and_three : (p : Scalar × Scalar) → Balanced (scalars_model 11) 2 (scalar 7) (scalar 2 ∷ p.0 ∷ p.1 ∷ []) → p ≡ (scalar 8, scalar 3)
eight_and_three p b =
    ap (λ (cs : List Scalar). (get_or cs 1 (scalar 0), get_or cs 2 (scalar 0)))
    (same_children field (scalar 7) (true ∷ false ∷ false ∷ []) (lit≤ tt) (scalar 2 ∷ p.0 ∷ p.1 ∷ []) (scalars (2 ∷ 8 ∷ 3 ∷ [])) refl refl b balanced_three refl)

abbrev pub seven : Transcript
seven = parsed rule to_seven

abbrev pub nine : Transcript
nine = parsed rule to_nine

pub taped : (a b c : ℕ) → T (ltb a 11) → T (ltb b 11) → T (ltb c 11) → Tape kinds rule (scalars (a ∷ b ∷ c ∷ []))
taped a b c x y z = record { long = refl; scalars = below_three (λ i. T (is_scalar kinds (get_or (scalars (a ∷ b ∷ c ∷ [])) i (scalar 0)))) x y z }

module _ (real : ℕ → Bool) (keys : List (Option Key)) (tape : List Scalar) (t : Transcript) where
  abbrev SimulatedLeaf : ℕ → ℕ → Image → Type 0
  SimulatedLeaf i kind s =
      T (not (real i))
      → (response rule t i ≡ drawn kinds rule tape i kind)
      × (commitment rule t i ≡ (kinds.kind kind).product ((kinds.kind kind).image (drawn kinds rule tape i kind)) (raised kinds kind s (11 - (challenge t i).0)))

  abbrev AnsweredLeaf : ℕ → ℕ → Image → Type 0
  AnsweredLeaf i kind s =
      T (real i)
      → (response rule t i ≡ add_keys 11 (drawn kinds rule tape i kind) (scale_key 11 (challenge t i) (held (key_at rule keys i))))
      × (commitment rule t i ≡ (kinds.kind kind).image (drawn kinds rule tape i kind))

  -- what is asked of the gate and of the two leaves
  made : Shaped rule t → Balanced (scalars_model 11) 1 (challenge t 0) (map (challenge t) (1 ∷ 2 ∷ []))
      → marked (given real 0 1 (1 ∷ 2 ∷ [])) (map (challenge t) (1 ∷ 2 ∷ [])) ≡ share kinds rule tape 0 1
      → SimulatedLeaf 1 1 (image 18 0 0 0) → SimulatedLeaf 2 4 (image 11 40 0 0) → AnsweredLeaf 1 1 (image 18 0 0 0) → AnsweredLeaf 2 4 (image 11 40 0 0)
      → Made kinds rule real keys tape (challenge t 0) t
  made shaped balanced shared s s' a a' = record {
    shaped = shaped;
    root = refl;
    balanced = at_gates (λ i k cs. Balanced (scalars_model 11) k (challenge t i) (map (challenge t) cs)) balanced;
    shared = at_gates (λ i k cs. marked (given real i k cs) (map (challenge t) cs) ≡ share kinds rule tape i (length cs - k)) shared;
    simulated = at_leaves SimulatedLeaf s s';
    answered = at_leaves AnsweredLeaf a a';
  }

pub simulated_seven : Made kinds rule (λ _. false) [] (scalars (2 ∷ 5 ∷ 6 ∷ [])) (scalar 7) seven
unfolding power
simulated_seven =
    made (λ _. false) [] (scalars (2 ∷ 5 ∷ 6 ∷ [])) seven (record { challenges = refl; commitments = refl; responses = refl }) balanced_seven refl
    (λ _. (refl, refl)) (λ _. (refl, refl)) (λ r. absurd r) (λ r. absurd r)

pub second_seven : Made kinds rule (marks true false true) second_key (scalars (2 ∷ 5 ∷ 7 ∷ [])) (scalar 7) seven
unfolding power
second_seven =
    made (marks true false true) second_key (scalars (2 ∷ 5 ∷ 7 ∷ [])) seven (record { challenges = refl; commitments = refl; responses = refl }) balanced_seven refl
    (λ _. (refl, refl)) (λ r. absurd r) (λ r. absurd r) (λ _. (refl, refl))

pub first_seven : Made kinds rule (marks true true false) first_key (scalars (8 ∷ 10 ∷ 6 ∷ [])) (scalar 7) seven
unfolding power
first_seven =
    made (marks true true false) first_key (scalars (8 ∷ 10 ∷ 6 ∷ [])) seven (record { challenges = refl; commitments = refl; responses = refl }) balanced_seven refl
    (λ r. absurd r) (λ _. (refl, refl)) (λ _. (refl, refl)) (λ r. absurd r)

pub second_nine : Made kinds rule (marks true false true) second_key (scalars (2 ∷ 5 ∷ 7 ∷ [])) (scalar 9) nine
unfolding power
second_nine =
    made (marks true false true) second_key (scalars (2 ∷ 5 ∷ 7 ∷ [])) nine (record { challenges = refl; commitments = refl; responses = refl }) balanced_nine refl
    (λ _. (refl, refl)) (λ r. absurd r) (λ r. absurd r) (λ _. (refl, refl))

-- the first satisfied child is real
abbrev ChildReal : List (Option Key) → (ℕ → Bool) → ℕ → ℕ → List ℕ → ℕ → Type 0
ChildReal keys real p k cs j =
    real (get_or cs j 0) ≡ (real p && (satisfied kinds rule keys (get_or cs j 0) && ltb (count (satisfied kinds rule keys) (take j cs)) k))

first_real : (keys : List (Option Key)) (a b : Bool) → ChildReal keys (marks true a b) 0 1 (1 ∷ 2 ∷ []) 0 → ChildReal keys (marks true a b) 0 1 (1 ∷ 2 ∷ []) 1
    → First kinds rule keys (marks true a b)
first_real keys a b x y = record {
  root = refl;
  child = at_gates (λ p k cs. (j : ℕ) → j < length cs → ChildReal keys (marks true a b) p k cs j) (below_two (ChildReal keys (marks true a b) 0 1 (1 ∷ 2 ∷ [])) x y);
  outside = outside_marks true a b;
}

pub second_key_real : First kinds rule second_key (marks true false true)
unfolding power satisfied
second_key_real = first_real second_key false true refl refl

pub first_key_real : First kinds rule first_key (marks true true false)
unfolding power satisfied
first_key_real = first_real first_key true false refl refl

abbrev Opened : List (Option Key) → ℕ → ℕ → Image → Type 0
Opened keys i kind s = (x : Key) → key_at rule keys i ≡ Some x → IsKey kinds kind x × ((kinds.kind kind).image x ≡ s)

pub second_fits : Fit kinds rule second_key
unfolding power satisfied
second_fits = record {
  opening = record {
    long = refl;
    each = at_leaves (Opened second_key) (λ x e. not_Some (sym e))
        (λ x e. subst (λ k. IsKey kinds 4 k × ((kinds.kind 4).image k ≡ image 11 40 0 0)) (SomeInj (key 4 0) x e) (tt, refl));
  };
  satisfying = tt;
}

pub first_fits : Fit kinds rule first_key
unfolding power satisfied
first_fits = record {
  opening = record {
    long = refl;
    each = at_leaves (Opened first_key) (λ x e. subst (λ k. IsKey kinds 1 k × ((kinds.kind 1).image k ≡ image 18 0 0 0)) (SomeInj (key 3 0) x e) (tt, refl))
        (λ x e. not_Some (sym e));
  };
  satisfying = tt;
}
