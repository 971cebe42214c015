-- The one simulated and the one honest tape of a transcript, by the calls at a new bench.
use Rattle.std.proofs.Common.{◌≡◌, ℕ, ◌*◌, T, List, [], ◌∷◌, Some, None, Option, sym, refl, ap, ◌∙◌, subst, inl, arith}
use Rattle.refusals.specs.declared.Refusal.{Refusal}
use Rattle.fields.specs.declared.scalar.Scalar.{Scalar}
use Rattle.kinds.specs.Kinds.{KindModel, Key}
use Rattle.kinds.specs.declared.image.Image.{Image}
use Rattle.rules.specs.Tables.{Only}
use Rattle.releases.specs.Entries.{Entry, leaves}
use Rattle.releases.specs.Transcripts.{Transcript, challenge, is_scalar, parsed, Acceptable}
use Rattle.releases.specs.Making.{Tape, Simulated, Answered, Committed}
use Rattle.releases.specs.Theorems.{Setting, Fit}
use Rattle.releases.specs.Checks.{Clear}
use Rattle.releases.specs.Calls.{Held, Bench, fresh, commit, answer, simulate, Reply, refused, committed, wrote, gave, done, with_holds, Taped, word_count, Refuses, Written, Outcome, Step}
use Rattle.releases.specs.Runs.{Run, SimulatedOnce, AnsweredOnce}
use Rattle.releases.proofs.Checking.{taped_clear, keyed_clear}
use Rattle.releases.proofs.Running.{SomeInj, is_wrote, wrote_inj, commit_passed, simulate_passed}
use Rattle.releases.proofs.Making.{one_simulated_tape, one_honest_tape}

abbrev is_committed : Reply → Type 0
is_committed (refused why) = ⊥
is_committed (committed chit a) = Unit {0}
is_committed (wrote ws) = ⊥
is_committed (gave keys) = ⊥
is_committed done = ⊥

abbrev commitments_or : List Image → Reply → List Image
commitments_or d (refused why) = d
commitments_or d (committed chit a) = a
commitments_or d (wrote ws) = d
commitments_or d (gave keys) = d
commitments_or d done = d

module _ (m : KindModel) (rule : List Entry) (st : Setting m rule) (ws : List ℕ) (good : Written m rule (Acceptable m rule) ws) where
  abbrev t : Transcript
  t = parsed rule ws

  abbrev c : Scalar
  c = challenge t 0

  c_in : T (is_scalar m c)
  c_in = good.1.scalars 0 st.formed.some_entry

  -- simulate
  simulate_clear : (b : Bench) (tape : List Scalar) → Tape m rule tape → Refuses m rule b (simulate c tape (word_count rule)) None
  simulate_clear b tape tp = inl (refl, inl (c_in, taped_clear m rule Clear tape tp refl))

  simulate_back : (b b' : Bench) (tape : List Scalar) → Step m rule b (simulate c tape (word_count rule)) (wrote ws) b' → Tape m rule tape × Simulated m rule tape c t
  simulate_back b b' tape step = go step.0 step.1 step.2
    where
      go : (o : Option Refusal) → Refuses m rule b (simulate c tape (word_count rule)) o → Outcome m rule b (simulate c tape (word_count rule)) (wrote ws) b' o
          → Tape m rule tape × Simulated m rule tape c t
      go None e x =
          ((simulate_passed m rule st b c tape (word_count rule) e).1, subst (λ v. Simulated m rule tape c (parsed rule v)) (sym (wrote_inj ws x.0 x.2)) x.1.1)
      go (Some why) e x = absurd (subst is_wrote x.0 tt)

  simulated_once' : Only {A = List Scalar} (λ tape. (b : Bench) × Run m rule fresh ((simulate c tape (word_count rule), wrote ws) ∷ []) b)
  simulated_once' =
      let o = one_simulated_tape m rule st t good.1 in (
        o.0,
        (fresh, (fresh, (None, simulate_clear fresh o.0 o.1.0, (ws, (good.0, o.1.1), refl, refl)), refl)),
        λ tape run. o.2 tape (simulate_back fresh run.1.0 tape run.1.1),
      )

  module _ (keys : List (Option Key)) (fit : Fit m rule keys) where
    abbrev held_by : List Scalar → Held
    held_by tape = record { serial = 1; keys = keys; tape = tape }

    abbrev mid : List Scalar → Bench
    mid tape = record { count = 1; holds = Some (record { serial = 1; keys = keys; tape = tape }); drawer = fresh.drawer }

    commit_clear : (tape : List Scalar) → Tape m rule tape → Refuses m rule fresh (commit keys tape (4 * leaves rule)) None
    commit_clear tape tp = inl (refl, inl ((λ e. absurd (omega arith)), keyed_clear m rule (Taped m rule tape Clear) keys fit (taped_clear m rule Clear tape tp refl)))

    answer_clear : (tape : List Scalar) → Refuses m rule (mid tape) (answer 1 c (word_count rule)) None
    answer_clear tape = inl (tt, inl (refl, inl (c_in, refl)))

    commit_back : (b' : Bench) (tape : List Scalar) (a : List Image) → Step m rule fresh (commit keys tape (4 * leaves rule)) (committed 1 a) b'
        → Tape m rule tape × Committed m rule keys tape a × (b' ≡ mid tape)
    commit_back b' tape a step = go step.0 step.1 step.2
      where
        go : (o : Option Refusal) → Refuses m rule fresh (commit keys tape (4 * leaves rule)) o → Outcome m rule fresh (commit keys tape (4 * leaves rule)) (committed 1 a) b' o
            → Tape m rule tape × Committed m rule keys tape a × (b' ≡ mid tape)
        go None e x = (
          (commit_passed m rule st fresh keys tape (4 * leaves rule) e).1,
          subst (Committed m rule keys tape) (sym (ap (commitments_or a) x.2)) x.1,
          x.3,
        )
        go (Some why) e x = absurd (subst is_committed x.0 tt)

    answer_back : (b b' : Bench) (tape : List Scalar) → b ≡ mid tape → Step m rule b (answer 1 c (word_count rule)) (wrote ws) b' → Answered m rule keys tape c t
    answer_back b b' tape at step = go step.0 step.2
      where
        go : (o : Option Refusal) → Outcome m rule b (answer 1 c (word_count rule)) (wrote ws) b' o → Answered m rule keys tape c t
        go None x =
            let e : x.0 ≡ held_by tape = SomeInj x.0 (held_by tape) (sym x.1 ∙ ap (λ (b : Bench). b.holds) at) in
            subst (λ (h : Held). Answered m rule h.keys h.tape c t) e
            (subst (λ v. Answered m rule x.0.keys x.0.tape c (parsed rule v)) (sym (wrote_inj ws x.2 x.4)) x.3.1)
        go (Some why) x = absurd (subst is_wrote x.0 tt)

    answered_once' : Only {A = List Scalar} (λ tape. (b : Bench) × Run m rule fresh
        ((commit keys tape (4 * leaves rule), committed 1 t.commitments) ∷ (answer 1 c (word_count rule), wrote ws) ∷ []) b)
    answered_once' =
        let o = one_honest_tape m rule st keys fit t good.1 in
        let tape = o.0 in
        let end = with_holds (mid tape) None in (
          tape,
          (
            end,
            (
              mid tape,
              (None, commit_clear tape o.1.0, (t.commitments, o.1.1, refl, refl)),
              (end, (None, answer_clear tape, (held_by tape, refl, ws, (good.0, o.1.2), refl, refl)), refl),
            ),
          ),
          λ tape' run.
              let x = commit_back run.1.0 tape' t.commitments run.1.1 in
              o.2 tape' (x.0, x.1, answer_back run.1.0 run.1.2.0 tape' x.2 run.1.2.1),
        )

pub simulated_once : SimulatedOnce
simulated_once m rule st ws good = simulated_once' m rule st ws good

pub answered_once : AnsweredOnce
answered_once m rule st keys fit ws good = answered_once' m rule st ws good keys fit
