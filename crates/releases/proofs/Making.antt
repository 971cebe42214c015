-- Simulated and answered transcripts: each exists once, is acceptable, and has one tape.
use Rattle.std.proofs.Common.{◌≡◌, ℕ, Bool, false, T, List, [], Option, subst, arith, lt→ltb}
use Rattle.fields.specs.Scalars.{scalar}
use Rattle.fields.specs.declared.scalar.Scalar.{Scalar}
use Rattle.kinds.specs.Kinds.{KindModel, Key}
use Rattle.kinds.specs.declared.image.Image.{Image}
use Rattle.rules.specs.Tables.{Only}
use Rattle.releases.specs.Entries.{Entry}
use Rattle.releases.specs.Transcripts.{Transcript, challenge, Acceptable, is_scalar}
use Rattle.releases.specs.Making.{Tape, Made, Begun, Chosen, First, Answered, Committed}
use Rattle.releases.specs.Theorems.{Setting, Fit, SimulatedFits, FirstChosen, ChosenFits, AnsweredFits, OneSimulatedTape, OneHonestTape}
use Rattle.releases.proofs.Given.{Sound}
use Rattle.releases.proofs.Acceptance.{made_acceptable}
use Rattle.releases.proofs.Reading.{one_tape}
use Rattle.releases.proofs.Determined.{begun_same, made_begun}
use Rattle.releases.proofs.Existing.{one_transcript}
use Rattle.releases.proofs.Choosing.{one_first, first_chosen, chosen_sound, simulated_sound}

pub simulated_fits : SimulatedFits
simulated_fits m rule st tape tp c l =
    let so = simulated_sound m rule in (
      one_transcript m st.lawful rule st.formed (λ _. false) [] so tape tp c l,
      made_acceptable m rule st (λ _. false) [] so tape tp c l,
    )

pub first_is_chosen : FirstChosen
first_is_chosen m rule wf keys = (one_first m rule wf keys, λ sat real a. first_chosen m rule wf keys real a sat)

pub chosen_fits : ChosenFits
chosen_fits m rule st keys op real ch tape tp c l =
    let so = chosen_sound m rule st.formed keys op real ch in (
      one_transcript m st.lawful rule st.formed real keys so tape tp c l,
      made_acceptable m rule st real keys so tape tp c l,
    )

pub one_simulated_tape : OneSimulatedTape
one_simulated_tape m rule st t ok = one_tape m rule st (λ _. false) [] (simulated_sound m rule) t ok

module _ (m : KindModel) (rule : List Entry) (st : Setting m rule) (keys : List (Option Key)) (fit : Fit m rule keys) where
  real : ℕ → Bool
  real = (one_first m rule st.formed keys).0

  is_first : First m rule keys real
  unfolding real
  is_first = (one_first m rule st.formed keys).1

  same_real : (real' : ℕ → Bool) → First m rule keys real' → real' ≡ real
  unfolding real
  same_real = (one_first m rule st.formed keys).2

  chosen : Chosen m rule keys real
  chosen = first_chosen m rule st.formed keys real is_first fit.satisfying

  sound : Sound m rule keys real
  sound = chosen_sound m rule st.formed keys fit.opening real chosen

  made : (tape : List Scalar) (c : Scalar) (t : Transcript) → Answered m rule keys tape c t → Made m rule real keys tape c t
  made tape c t a = subst (λ r. Made m rule r keys tape c t) (same_real a.0 a.1) a.2

  begun : (tape : List Scalar) (a : List Image) (x : Committed m rule keys tape a) → Begun m rule real tape x.2 a
  begun tape a x = subst (λ r. Begun m rule r tape x.2 a) (same_real x.0 x.1) x.3

  committed : (tape : List Scalar) (c : Scalar) (t : Transcript) → Made m rule real keys tape c t → Committed m rule keys tape t.commitments
  committed tape c t md = (real, is_first, challenge t, made_begun m st.lawful rule st.formed real keys sound tape c t md)

  answers : (tape : List Scalar) → Tape m rule tape
      → Only (Committed m rule keys tape)
      × ((c : Scalar) → T (is_scalar m c) → Only (Answered m rule keys tape c))
      × ((c : Scalar) → T (is_scalar m c) → (t : Transcript) → Answered m rule keys tape c t → Acceptable m rule t × Committed m rule keys tape t.commitments)
  answers tape tp =
      let one : (c : Scalar) → T (is_scalar m c) → Only (Made m rule real keys tape c) = λ c l. one_transcript m st.lawful rule st.formed real keys sound tape tp c l in
      let low = st.lawful.low in
      let z = one (scalar 0) (lt→ltb 0 m.q (omega arith)) in
      let cz : Committed m rule keys tape z.0.commitments = committed tape (scalar 0) z.0 z.1 in (
        (
          z.0.commitments,
          cz,
          λ a x. begun_same m st.lawful rule st.formed real keys sound tape chosen.root x.2 cz.2 a z.0.commitments (begun tape a x) (begun tape z.0.commitments cz),
        ),
        λ c l. ((one c l).0, (real, is_first, (one c l).1), λ t a. (one c l).2 t (made tape c t a)),
        λ c l t a. (made_acceptable m rule st real keys sound tape tp c l t (made tape c t a), committed tape c t (made tape c t a)),
      )

  honest : (t : Transcript) → Acceptable m rule t
      → Only (λ tape. Tape m rule tape × Committed m rule keys tape t.commitments × Answered m rule keys tape (challenge t 0) t)
  honest t ok =
      let o = one_tape m rule st real keys sound t ok in
      let c = challenge t 0 in (
        o.0,
        (o.1.0, committed o.0 c t o.1.1, (real, is_first, o.1.1)),
        λ x p. o.2 x (p.0, made x c t p.2),
      )

pub answered_fits : AnsweredFits
answered_fits m rule st keys fit tape tp = answers m rule st keys fit tape tp

pub one_honest_tape : OneHonestTape
one_honest_tape m rule st keys fit t ok = honest m rule st keys fit t ok
