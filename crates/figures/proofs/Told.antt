-- What the calls reply, from what was computed.
use Rattle.std.proofs.Common.{◌≡◌, ℕ, ◌+◌, ◌*◌, ◌<◌, Bool, true, false, T, ltb, List, [], ◌∷◌, map, length, replicate, Some, None, Option, refl, ap, subst, inl, inr, arith, lit<, lit≤}
use Rattle.refusals.specs.declared.Refusal.TheVariants.{UnfitWord, Unbalanced, EquationFails}
use Rattle.fields.specs.Scalars.{scalar, scalars_model}
use Rattle.fields.specs.declared.scalar.Scalar.{Scalar}
use Rattle.groups.specs.Monoids.{power}
use Rattle.kinds.specs.Kinds.{Key}
use Rattle.kinds.specs.declared.image.Image.{Image}
use Rattle.splits.specs.Gates.{Balanced}
use Rattle.releases.specs.Entries.{number, leaves}
use Rattle.releases.specs.Transcripts.{Transcript, challenge, commitment, response, parsed, Acceptable, is_scalar, IsKey, IsImage, raised}
use Rattle.releases.specs.Keys.{key as key_at}
use Rattle.releases.specs.Making.{Tape, First, Made, Committed}
use Rattle.releases.specs.Forks.{Quotient, Forked}
use Rattle.releases.specs.Theorems.{Fit}
use Rattle.releases.specs.Checks.{Clear}
use Rattle.releases.specs.Calls.{Bench, fresh, IsSlot, Fits, Taped}
use Rattle.releases.specs.Runs.{Run}
use Rattle.releases.proofs.Checking.{keyed_clear, taped_clear, accepted_clear}
use Rattle.releases.proofs.Making.{simulated_fits, answered_fits}
use Rattle.figures.specs.Setting.{kinds, image, key, rule}
use Rattle.figures.specs.Figures.{scalars, commitments, words, to_seven, to_nine, first_key, second_key, simulating, answering, forking, refusing, used, filled}
use Rattle.figures.proofs.Entered.{setting, at_gates, at_leaves, below_three, marks}
use Rattle.figures.proofs.Computed.{seven, nine, balanced_seven, eight_alone, taped, simulated_seven, second_seven, first_seven, second_nine, second_key_real, first_key_real, second_fits, first_fits}

abbrev drawn : List Scalar
drawn = scalars (2 ∷ 5 ∷ 6 ∷ [])

pub simulates : Run kinds rule fresh (simulating (2 ∷ 5 ∷ 6 ∷ []) 7 to_seven) fresh
simulates = (
  fresh,
  (
    None,
    inl (refl, inl (tt, taped_clear kinds rule Clear drawn (taped 2 5 6 tt tt tt) refl)),
    (to_seven, (refl, simulated_seven), refl, refl),
  ),
  refl,
)

module _ (keys : List (Option Key)) (fit : Fit kinds rule keys) (tape : List ℕ) (fed : Tape kinds rule (scalars tape)) (real : ℕ → Bool) (first : First kinds rule keys real)
    (c : ℕ) (small : T (ltb c 11)) (ws : List ℕ) (long : length ws ≡ 15) (made : Made kinds rule real keys (scalars tape) (scalar c) (parsed rule ws)) where
  fits : Acceptable kinds rule (parsed rule ws) × Committed kinds rule keys (scalars tape) (parsed rule ws).commitments
  fits = (answered_fits kinds rule setting keys fit (scalars tape) fed).2 (scalar c) small (parsed rule ws) (real, first, made)

  pub acceptable : Acceptable kinds rule (parsed rule ws)
  acceptable = fits.0

  pub answers : (parsed rule ws).commitments ≡ commitments → Run kinds rule fresh (answering keys tape c ws) used
  answers same = (
    record { count = 1; holds = Some (record { serial = 1; keys = keys; tape = scalars tape }); drawer = replicate 8 None },
    (
      None,
      inl (
        refl,
        inl ((λ e. omega arith), keyed_clear kinds rule (Taped kinds rule (scalars tape) Clear) keys fit (taped_clear kinds rule Clear (scalars tape) fed refl)),
      ),
      (commitments, subst (Committed kinds rule keys (scalars tape)) same fits.1, refl, refl),
    ),
    (
      used,
      (
        None,
        inl (tt, inl (refl, inl (small, refl))),
        (record { serial = 1; keys = keys; tape = scalars tape }, refl, ws, (long, (real, first, made)), refl, refl),
      ),
      refl,
    ),
  )

pub second_answers : Run kinds rule fresh (answering second_key (2 ∷ 5 ∷ 7 ∷ []) 7 to_seven) used
second_answers =
    answers second_key second_fits (2 ∷ 5 ∷ 7 ∷ []) (taped 2 5 7 tt tt tt) (marks true false true) second_key_real 7 tt to_seven refl second_seven refl

pub first_answers : Run kinds rule fresh (answering first_key (8 ∷ 10 ∷ 6 ∷ []) 7 to_seven) used
first_answers =
    answers first_key first_fits (8 ∷ 10 ∷ 6 ∷ []) (taped 8 10 6 tt tt tt) (marks true true false) first_key_real 7 tt to_seven refl first_seven refl

pub second_answers_nine : Run kinds rule fresh (answering second_key (2 ∷ 5 ∷ 7 ∷ []) 9 to_nine) used
second_answers_nine =
    answers second_key second_fits (2 ∷ 5 ∷ 7 ∷ []) (taped 2 5 7 tt tt tt) (marks true false true) second_key_real 9 tt to_nine refl second_nine refl

seven_acceptable : Acceptable kinds rule seven
seven_acceptable = (simulated_fits kinds rule setting drawn (taped 2 5 6 tt tt tt) (scalar 7) tt).1 seven simulated_seven

nine_acceptable : Acceptable kinds rule nine
nine_acceptable =
    acceptable second_key second_fits (2 ∷ 5 ∷ 7 ∷ []) (taped 2 5 7 tt tt tt) (marks true false true) second_key_real 9 tt to_nine refl second_nine

abbrev one_filed : Bench
one_filed = record { count = 0; holds = None; drawer = Some to_seven ∷ replicate 7 None }

first_slot : IsSlot 1
first_slot = (lit≤ tt, lit≤ tt)

second_slot : IsSlot 2
second_slot = (lit≤ tt, lit≤ tt)

abbrev GivenAway : ℕ → ℕ → Image → Type 0
GivenAway i kind s =
    ¬ (challenge seven i ≡ challenge nine i)
    → (x : Key) × (key_at rule second_key i ≡ Some x) × Quotient 11 (challenge seven i) (challenge nine i) (response rule seven i) (response rule nine i) x

forked : Forked 11 rule seven nine second_key
forked = record {
  long = refl;
  absent = at_leaves (λ i kind s. challenge seven i ≡ challenge nine i → key_at rule second_key i ≡ None) (λ _. refl)
      (λ e. absurd (let z : ◌≡◌ {A = ℕ} 8 6 = ap (λ (c : Scalar). c.0) e in omega arith));
  present = at_leaves GivenAway (λ n. absurd (n refl))
      (λ n. (key 4 0, refl, record { first = lit< tt; second = lit< tt; product = refl }));
}

pub forks : Run kinds rule fresh forking filled
forks = (
  one_filed,
  (None, inl (first_slot, inl ((λ f. f), accepted_clear kinds rule Clear (lit< tt) to_seven (refl, seven_acceptable) refl)), (refl, refl)),
  (
    filled,
    (None, inl (second_slot, inl ((λ f. f), accepted_clear kinds rule Clear (lit< tt) to_nine (refl, nine_acceptable) refl)), (refl, refl)),
    (
      filled,
      (
        None,
        inl (
          first_slot,
          inl (
            tt,
            inl (
              second_slot,
              inl (
                tt,
                inl (
                  refl,
                  inl (
                    (λ l _. refl),
                    inl ((λ e. let z : ◌≡◌ {A = ℕ} 7 9 = ap (λ (c : Scalar). c.0) e in omega arith), refl),
                  ),
                ),
              ),
            ),
          ),
        ),
        (second_key, forked, refl, refl),
      ),
      refl,
    ),
  ),
)

pub unfit_word : Run kinds rule fresh (refusing (words 11 2 8 5 6) (UnfitWord 0)) fresh
unfit_word = (
  fresh,
  (
    Some (UnfitWord 0),
    inl (first_slot, inl ((λ f. f), inl (refl, inr (0, lit< tt, (λ j l. absurd (omega arith)), (λ f. f.scalars (lit< tt)), refl)))),
    (refl, refl),
  ),
  refl,
)

-- scalars at the challenges and responses are fit
all_fit : (c d e r s : ℕ) → T (ltb c 11) → T (ltb d 11) → T (ltb e 11) → T (ltb r 11) → T (ltb s 11) → (x : ℕ) → x < 15
    → Fits kinds rule (parsed rule (words c d e r s)) x
unfolding power
all_fit c d e r s hc hd he hr hs x l =
    let t = parsed rule (words c d e r s) in
    record {
      scalars = λ h. below_three (λ i. T (is_scalar kinds (challenge t i))) hc hd he x h;
      images = at_leaves (λ i kind s. x ≡ 3 + 4 * number rule i → IsImage kinds kind (commitment rule t i)) (λ _. tt) (λ _. tt);
      firsts = at_leaves (λ i kind s. x ≡ 3 + 4 * leaves rule + 2 * number rule i → T (is_scalar kinds (response rule t i).0)) (λ _. hr) (λ _. hs);
      seconds = at_leaves (λ i kind s. x ≡ 3 + 4 * leaves rule + 2 * number rule i + 1 → IsKey kinds kind (scalar 0, (response rule t i).1)) (λ _. tt) (λ _. tt);
    }

pub unbalanced_gate : Run kinds rule fresh (refusing (words 7 2 9 5 6) (Unbalanced 0)) fresh
unbalanced_gate = (
  fresh,
  (
    Some (Unbalanced 0),
    inl (
      first_slot,
      inl (
        (λ f. f),
        inl (
          refl,
          inl (
            all_fit 7 2 9 5 6 tt tt tt tt tt,
            inr (
              0,
              lit< tt,
              (λ j l. absurd (omega arith)),
              (λ f. let z : ◌≡◌ {A = ℕ} 9 8 = ap (λ (c : Scalar). c.0) (eight_alone (scalar 9) (f 1 (1 ∷ 2 ∷ []) refl)) in omega arith),
              refl,
            ),
          ),
        ),
      ),
    ),
    (refl, refl),
  ),
  refl,
)

abbrev wrong : Transcript
wrong = parsed rule (words 7 2 8 4 6)

abbrev Equation : ℕ → ℕ → Image → Type 0
Equation i kind s =
    (kinds.kind kind).image (response rule wrong i) ≡ (kinds.kind kind).product (commitment rule wrong i) (raised kinds kind s (challenge wrong i).0)

first_fails : ¬ Equation 1 1 (image 18 0 0 0)
unfolding power
first_fails e = let z : ◌≡◌ {A = ℕ} 3 12 = ap (λ (x : Image). x.0.0) e in omega arith

pub failing_equation : Run kinds rule fresh (refusing (words 7 2 8 4 6) (EquationFails 0)) fresh
failing_equation = (
  fresh,
  (
    Some (EquationFails 0),
    inl (
      first_slot,
      inl (
        (λ f. f),
        inl (
          refl,
          inl (
            all_fit 7 2 8 4 6 tt tt tt tt tt,
            inl (
              (λ i l. at_gates (λ i k cs. Balanced (scalars_model 11) k (challenge wrong i) (map (challenge wrong) cs)) balanced_seven i),
              inr (
                1,
                lit< tt,
                (λ j l kind s h. at_leaves (λ i kind s. i < 1 → Equation i kind s) (λ l. absurd (omega arith)) (λ l. absurd (omega arith)) j kind s h l),
                (λ f. first_fails (f 1 (image 18 0 0 0) refl)),
                refl,
              ),
            ),
          ),
        ),
      ),
    ),
    (refl, refl),
  ),
  refl,
)
