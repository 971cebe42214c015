-- After any list of calls, every call has one reply and leaves one bench.
use Rattle.std.proofs.Common.{◌≡◌, ℕ, suc, ◌-◌, ◌*◌, T, List, map, length, get_or, Some, None, Option, sym, refl, ap, ◌∙◌, subst, ap₂, arith}
use native.Mathlib.Decide.{ℕ_discrete}
use Rattle.refusals.specs.declared.Refusal.{Refusal}
use Rattle.fields.specs.Fields.{FieldLaws}
use Rattle.fields.specs.Scalars.{scalar, scalars_model}
use Rattle.fields.specs.declared.scalar.Scalar.{Scalar}
use Rattle.fields.specs.ScalarLaws.{scalar_laws}
use Rattle.kinds.specs.Kinds.{KindModel, Key}
use Rattle.kinds.specs.declared.image.Image.{Image}
use Rattle.rules.specs.Tables.{Only}
use Rattle.releases.specs.Entries.{Entry, leaves}
use Rattle.splits.specs.Gates.{Balanced}
use Rattle.releases.specs.Transcripts.{Transcript, challenge, commitment, response, IsKey, raised, is_scalar, parsed, spelt, Acceptable}
use Rattle.releases.specs.Keys.{key, satisfied}
use Rattle.releases.specs.Making.{Simulated, Answered}
use Rattle.releases.specs.Forks.{Forked}
use Rattle.releases.specs.Theorems.{Setting}
use Rattle.releases.specs.Calls.{Held, Bench, fresh, Call, commit, answer, scrap, simulate, file, remove, fork, Reply, refused, committed, wrote, gave, done, slot_at, Filled, with_slot, with_holds, names, content, IfHeld, Keyed, Taped, Accepted, Slotted, Refuses, after_refusal, Written, Obeyed, Outcome, Step}
use Rattle.releases.specs.Runs.{RepliesOnce}
use Rattle.releases.proofs.Spelling.{words}
use Rattle.releases.proofs.Checking.{passed}
use Rattle.releases.proofs.Deciding.{Alike, Tells, clear_alike, clear_tells, test_alike, test_tells, each_alike, each_tells}
use Rattle.releases.proofs.Decided.{T?, not?, image?, slot?, filled?, held?, leaf?, gate?, fits?, gate_balanced?}
use Rattle.releases.proofs.Running.{SomeInj, Inv, run_kept, fresh_inv, commit_passed, answer_passed, simulate_passed}
use Rattle.releases.proofs.Making.{simulated_fits, answered_fits}
use Rattle.releases.proofs.Quotients.{one_fork}

pair : (p : Reply × Bench) (r : Reply) (b : Bench) → p.0 ≡ r → p.1 ≡ b → p ≡ (r, b)
pair p r b e f = ap₂ (λ x y. (x, y)) e f

-- what the checks tell is one
module _ (m : KindModel) (rule : List Entry) where
  keyed_alike : (keys : List (Option Key)) (next : Option Refusal → Type 0) → Alike next → Alike (Keyed m rule keys next)
  keyed_alike keys next h = test_alike _ _ _ (each_alike _ _ _ _ (each_alike _ _ _ _ (test_alike _ _ _ h)))

  taped_alike : (tape : List Scalar) (next : Option Refusal → Type 0) → Alike next → Alike (Taped m rule tape next)
  taped_alike tape next h = test_alike _ _ _ (each_alike _ _ _ _ h)

  accepted_alike : (ws : List ℕ) (next : Option Refusal → Type 0) → Alike next → Alike (Accepted m rule ws next)
  accepted_alike ws next h = test_alike _ _ _ (each_alike _ _ _ _ (each_alike _ _ _ _ (each_alike _ _ _ _ h)))

  slotted_alike : (b : Bench) (slot : ℕ) (next : Option Refusal → Type 0) → Alike next → Alike (Slotted b slot next)
  slotted_alike b slot next h = test_alike _ _ _ (test_alike _ _ _ h)

  refuses_alike : (b : Bench) (c : Call) → Alike (Refuses m rule b c)
  refuses_alike b (commit keys tape room) = test_alike _ _ _ (test_alike _ _ _ (keyed_alike keys _ (taped_alike tape _ clear_alike)))
  refuses_alike b (answer chit c room) = test_alike _ _ _ (test_alike _ _ _ (test_alike _ _ _ clear_alike))
  refuses_alike b (scrap chit) = test_alike _ _ _ clear_alike
  refuses_alike b (simulate c tape room) = test_alike _ _ _ (test_alike _ _ _ (taped_alike tape _ clear_alike))
  refuses_alike b (file slot ws) = test_alike _ _ _ (test_alike _ _ _ (accepted_alike ws _ clear_alike))
  refuses_alike b (remove slot) = slotted_alike b slot _ clear_alike
  refuses_alike b (fork slot slot' room) = slotted_alike b slot _ (slotted_alike b slot' _ (test_alike _ _ _ (each_alike _ _ _ _ (test_alike _ _ _ clear_alike))))

-- and they tell something
module _ (m : KindModel) (rule : List Entry) (st : Setting m rule) where
  scalars : FieldLaws (scalars_model m.q)
  scalars = scalar_laws m.q st.lawful.prime st.lawful.low

  keyed_tells : (keys : List (Option Key)) (next : Option Refusal → Type 0) → Tells next → Tells (Keyed m rule keys next)
  keyed_tells keys next h =
      test_tells _ _ _ (ℕ_discrete (length keys) (leaves rule))
      (each_tells _ _ _ _ (λ i _. leaf? m rule (λ i kind s. IfHeld (IsKey m kind) (key rule keys i)) i (λ kind s. held? (IsKey m kind) (key rule keys i) (λ x. T? _)))
      (each_tells _ _ _ _ (λ i _. leaf? m rule (λ i kind s. IfHeld (λ x. (m.kind kind).image x ≡ s) (key rule keys i)) i (λ kind s. held? (λ x. (m.kind kind).image x ≡ s) (key rule keys i) (λ x. image? ((m.kind kind).image x) s)))
      (test_tells _ _ _ (T? (satisfied m rule keys 0)) h)))

  taped_tells : (tape : List Scalar) (next : Option Refusal → Type 0) → Tells next → Tells (Taped m rule tape next)
  taped_tells tape next h = test_tells _ _ _ (ℕ_discrete (length tape) _) (each_tells _ _ _ _ (λ x _. T? (is_scalar m (get_or tape x (scalar 0)))) h)

  abbrev Equation : List ℕ → ℕ → ℕ → Image → Type 0
  Equation ws i kind s =
      let t = parsed rule ws in
      (m.kind kind).image (response rule t i) ≡ (m.kind kind).product (commitment rule t i) (raised m kind s (challenge t i).0)

  accepted_tells : (ws : List ℕ) (next : Option Refusal → Type 0) → Tells next → Tells (Accepted m rule ws next)
  accepted_tells ws next h =
      test_tells _ _ _ (ℕ_discrete (length ws) _)
      (each_tells _ _ _ _ (λ x _. fits? m rule (parsed rule ws) x)
      (each_tells _ _ _ _ (λ i _. gate? m rule (λ i k cs. Balanced (scalars_model m.q) k (challenge (parsed rule ws) i) (map (challenge (parsed rule ws)) cs)) i (λ k cs g. gate_balanced? m rule st (parsed rule ws) i k cs g))
      (each_tells _ _ _ _ (λ i _. leaf? m rule (Equation ws) i (λ kind s. image? _ _)) h)))

  slotted_tells : (b : Bench) (slot : ℕ) (next : Option Refusal → Type 0) → Tells next → Tells (Slotted b slot next)
  slotted_tells b slot next h = test_tells _ _ _ (slot? slot) (test_tells _ _ _ (filled? (slot_at b slot)) h)

  refuses_tells : (b : Bench) (c : Call) → Tells (Refuses m rule b c)
  refuses_tells b (commit keys tape room) =
      test_tells _ _ _ (ℕ_discrete room (4 * leaves rule)) (test_tells _ _ _ (not? (ℕ_discrete b.count 65535)) (keyed_tells keys _ (taped_tells tape _ clear_tells)))
  refuses_tells b (answer chit c room) =
      test_tells _ _ _ (T? (names b.holds chit)) (test_tells _ _ _ (ℕ_discrete room _) (test_tells _ _ _ (T? (is_scalar m c)) clear_tells))
  refuses_tells b (scrap chit) = test_tells _ _ _ (T? (names b.holds chit)) clear_tells
  refuses_tells b (simulate c tape room) = test_tells _ _ _ (ℕ_discrete room _) (test_tells _ _ _ (T? (is_scalar m c)) (taped_tells tape _ clear_tells))
  refuses_tells b (file slot ws) = test_tells _ _ _ (slot? slot) (test_tells _ _ _ (not? (filled? (slot_at b slot))) (accepted_tells ws _ clear_tells))
  refuses_tells b (remove slot) = slotted_tells b slot _ clear_tells
  refuses_tells b (fork slot slot' room) =
      slotted_tells b slot _ (slotted_tells b slot' _ (test_tells _ _ _ (ℕ_discrete room (leaves rule))
      (each_tells _ _ _ _ (λ l _. image? _ _) (test_tells _ _ _ (not? (scalars.same? _ _)) clear_tells))))

  -- one transcript as one list of words
  one_words : (P : Transcript → Type 0) → Only {A = Transcript} P → ((t : Transcript) → P t → Acceptable m rule t) → Only {A = List ℕ} (Written m rule P)
  one_words P o ok =
      let t = o.0 in
      let w = (words rule).0 t (ok t o.1).shaped in (
        spelt t,
        (w.0, subst P (sym w.1) o.1),
        λ ws x. sym ((words rule).1 ws x.0).1 ∙ ap spelt (o.2 (parsed rule ws) x.1),
      )

  named : (h : Option Held) (chit : ℕ) → T (names h chit) → (x : Held) × (h ≡ Some x)
  named None chit t = absurd t
  named (Some x) chit t = (x, refl)

  module _ (b : Bench) (i : Inv m rule st b) where
    stored : (ws ws' : List ℕ) → Written m rule (Acceptable m rule) ws → Written m rule (Acceptable m rule) ws' → Only (Forked m.q rule (parsed rule ws) (parsed rule ws'))
    stored ws ws' a a' =
        let low = st.lawful.low in
        one_fork m.q (omega arith) scalars rule (parsed rule ws) (parsed rule ws') a.1.scalars a'.1.scalars

    filled : (slot : ℕ) → Filled (slot_at b slot) → Written m rule (Acceptable m rule) (content (slot_at b slot))
    filled slot f = go (slot_at b slot) refl f
      where
        go : (o : Option (List ℕ)) → slot_at b slot ≡ o → Filled o → Written m rule (Acceptable m rule) (content o)
        go None e f = absurd f
        go (Some ws) e f = i.accepted (slot - 1) ws e

    obeyed_once : (c : Call) → Refuses m rule b c None → Only {A = Reply × Bench} (λ p. Obeyed m rule b c p.0 p.1)
    obeyed_once (commit keys tape room) e =
        let p = commit_passed m rule st b keys tape room e in
        let o = (answered_fits m rule st keys p.0 tape p.1).0 in
        let b' : Bench = record { count = suc b.count; holds = Some (record { serial = suc b.count; keys = keys; tape = tape }); drawer = b.drawer } in (
          (committed (suc b.count) o.0, b'),
          (o.0, o.1, refl, refl),
          λ p x. pair p (committed (suc b.count) o.0) b' (x.2 ∙ ap (committed (suc b.count)) (o.2 x.0 x.1)) x.3,
        )
    obeyed_once (answer chit c room) e =
        let h = named b.holds chit (passed e).0 in
        let k = i.held h.0 h.1 in
        let l = answer_passed m rule st b chit c room e in
        let a = answered_fits m rule st h.0.keys k.0 h.0.tape k.1 in
        let o = one_words (Answered m rule h.0.keys h.0.tape c) (a.1 c l) (λ t x. (a.2 c l t x).0) in (
          (wrote o.0, with_holds b None),
          (h.0, h.1, o.0, o.1, refl, refl),
          λ p x. pair p (wrote o.0) (with_holds b None)
              (x.4 ∙ ap wrote (o.2 x.2 (subst (λ (y : Held). Written m rule (Answered m rule y.keys y.tape c) x.2) (SomeInj x.0 h.0 (sym x.1 ∙ h.1)) x.3))) x.5,
        )
    obeyed_once (scrap chit) e = ((done, with_holds b None), (refl, refl), λ p x. pair p done (with_holds b None) x.0 x.1)
    obeyed_once (simulate c tape room) e =
        let p = simulate_passed m rule st b c tape room e in
        let s = simulated_fits m rule st tape p.1 c p.0 in
        let o = one_words (Simulated m rule tape c) s.0 s.1 in (
          (wrote o.0, b),
          (o.0, o.1, refl, refl),
          λ p x. pair p (wrote o.0) b (x.2 ∙ ap wrote (o.2 x.0 x.1)) x.3,
        )
    obeyed_once (file slot ws) e = ((done, with_slot b slot (Some ws)), (refl, refl), λ p x. pair p done (with_slot b slot (Some ws)) x.0 x.1)
    obeyed_once (remove slot) e = ((done, with_slot b slot None), (refl, refl), λ p x. pair p done (with_slot b slot None) x.0 x.1)
    obeyed_once (fork s s' room) e =
        let a = passed (passed e).1 in
        let a' = passed (passed a.1).1 in
        let o = stored (content (slot_at b s)) (content (slot_at b s')) (filled s a.0) (filled s' a'.0) in (
          (gave o.0, b),
          (o.0, o.1, refl, refl),
          λ p x. pair p (gave o.0) b (x.2 ∙ ap gave (o.2 x.0 x.1)) x.3,
        )

    step_once : (c : Call) → Only {A = Reply × Bench} (λ p. Step m rule b c p.0 p.1)
    step_once c = let t = refuses_tells b c in go t.0 t.1
      where
        go : (o : Option Refusal) → Refuses m rule b c o → Only {A = Reply × Bench} (λ p. Step m rule b c p.0 p.1)
        go None e =
            let k = obeyed_once c e in
            (k.0, (None, e, k.1), λ p x. k.2 p (subst (Outcome m rule b c p.0 p.1) (refuses_alike m rule b c x.0 None x.1 e) x.2))
        go (Some why) e = (
          (refused why, after_refusal b c),
          (Some why, e, (refl, refl)),
          λ p x.
              let y = subst (Outcome m rule b c p.0 p.1) (refuses_alike m rule b c x.0 (Some why) x.1 e) x.2 in
              pair p (refused why) (after_refusal b c) y.0 y.1,
        )

pub replies_once : RepliesOnce
replies_once m rule st es b run c = step_once m rule st b (run_kept m rule st es fresh b (fresh_inv m rule st) run).inv c
