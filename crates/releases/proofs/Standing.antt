-- The theorem over every list of calls.
use Rattle.std.proofs.Common.{◌≡◌, ℕ, zero, suc, ◌-◌, ◌<◌, cond, eqb, List, [], ◌∷◌, get_or, Some, None, Option, sym, refl, ap, ◌∙◌, subst, inl, inr, arith}
use mathlib.Core.Option.{some}
use lib.Dec.{eqb_refl}
use lib.ListN.{get_elem?}
use Rattle.refusals.specs.declared.Refusal.{Refusal}
use Rattle.kinds.specs.Kinds.{KindModel, Key, zeros}
use Rattle.releases.specs.Entries.{Entry, leaves}
use Rattle.releases.specs.Transcripts.{challenge, parsed}
use Rattle.releases.specs.Forks.{Forked}
use Rattle.releases.specs.Theorems.{Setting, Fit}
use Rattle.releases.specs.Checks.{Clear}
use Rattle.releases.specs.Calls.{Bench, fresh, Call, file, remove, fork, Reply, refused, committed, wrote, gave, done, slot_at, with_slot, IsSlot, Filled, content, Refuses, Outcome, Step}
use Rattle.releases.specs.Runs.{Event, Run, Filed, Vacant, AlwaysStands}
use Rattle.releases.proofs.Filing.{changed, filed, View, view, vacant_none}
use Rattle.releases.proofs.Places.{is_true, none_some, some_inj}
use Rattle.releases.proofs.Checking.{passed, accepted_clear}
use Rattle.releases.proofs.Running.{shown, shown_slot, slot_shown, Inv, step_kept, Ran, run_kept, fresh_inv, fresh_shown}
use Rattle.releases.proofs.Forking.{forks_satisfy}

abbrev is_done : Reply → Type 0
is_done (refused why) = ⊥
is_done (committed chit a) = ⊥
is_done (wrote ws) = ⊥
is_done (gave keys) = ⊥
is_done done = Unit {0}

module _ (m : KindModel) (rule : List Entry) (st : Setting m rule) where
  -- an obeyed file found its slot empty
  file_free : (b : Bench) (s : ℕ) (w : List ℕ) (b' : Bench) → Step m rule b (file s w) done b' → ¬ Filled (slot_at b s)
  file_free b s w b' step = go step.0 step.1 step.2
    where
      go : (o : Option Refusal) → Refuses m rule b (file s w) o → Outcome m rule b (file s w) done b' o → ¬ Filled (slot_at b s)
      go None e x = (passed (passed e).1).0
      go (Some why) e x = absurd (subst is_done x.0 tt)

  -- what lies in a slot stays until it is removed
  stays : (es : List Event) (b b' : Bench) → Inv m rule st b → Run m rule b es b' → (s : ℕ) (ws : List ℕ) → shown b s ≡ Some ws
      → ((y : ℕ) → ¬ (get_elem? es y ≡ some (remove s, done))) → shown b' s ≡ Some ws
  stays [] b b' i run s ws h none' = ap (λ b. shown b s) run ∙ h
  stays (e ∷ es) b b' i run s ws h none' =
      let k = step_kept m rule st b e.0 e.1 run.0 i run.1 in
      go (view s e.0 e.1 (shown b s)) (λ same. stays es run.0 b' k.inv run.2 s ws (k.slots s ∙ same ∙ h) (λ y. none' (suc y)))
    where
      go : View s e.0 e.1 (shown b s) → (changed s e.0 e.1 (shown b s) ≡ shown b s → shown b' s ≡ Some ws) → shown b' s ≡ Some ws
      go (inl v) next = next v.0
      go (inr (inl v)) next =
          let free = file_free b s v.0 run.0 (subst (λ (e : Event). Step m rule b e.0 e.1 run.0) v.1 run.1) in
          absurd (free (subst Filled (sym (shown_slot b s ws h).1) tt))
      go (inr (inr v)) next = absurd (none' 0 (ap some v.0))

  filed_shown : (es : List Event) (x : ℕ) (b b' : Bench) → Inv m rule st b → Run m rule b es b' → (s : ℕ) (ws : List ℕ) → get_elem? es x ≡ some (file s ws, done)
      → ((y : ℕ) → x < y → ¬ (get_elem? es y ≡ some (remove s, done))) → shown b' s ≡ Some ws
  filed_shown [] x b b' i run s ws at later = none_some (file s ws, done) at
  filed_shown (e ∷ es) zero b b' i run s ws at later =
      let k = step_kept m rule st b e.0 e.1 run.0 i run.1 in
      let is : e ≡ (file s ws, done) = some_inj e (file s ws, done) at in
      stays es run.0 b' k.inv run.2 s ws
      (k.slots s ∙ ap (λ (e : Event). changed s e.0 e.1 (shown b s)) is ∙ ap (λ c. cond c (Some ws) (shown b s)) (is_true (eqb s s) (eqb_refl s)))
      (λ y. later (suc y) (omega arith))
  filed_shown (e ∷ es) (suc x) b b' i run s ws at later =
      let k = step_kept m rule st b e.0 e.1 run.0 i run.1 in
      filed_shown es x run.0 b' k.inv run.2 s ws at (λ y l. later (suc y) (omega arith))

module _ (m : KindModel) (rule : List Entry) (st : Setting m rule) (es : List Event) (b : Bench) (run : Run m rule fresh es b) where
  ran : Ran m rule st fresh es b
  ran = run_kept m rule st es fresh b (fresh_inv m rule st) run

  slot_of : (s : ℕ) → shown b s ≡ filed s None es
  slot_of s = ran.slots s ∙ ap (λ x. filed s x es) (fresh_shown m rule st s)

  forks : (i j : ℕ) (ws ws' : List ℕ) → Filed es i ws → Filed es j ws'
      → (parsed rule ws).commitments ≡ (parsed rule ws').commitments → ¬ (challenge (parsed rule ws) 0 ≡ challenge (parsed rule ws') 0)
      → (keys : List (Option Key)) × Step m rule b (fork i j (leaves rule)) (gave keys) b × Fit m rule keys
  forks i j ws ws' fi fj same ne =
      let si = shown_slot b i ws (filed_shown m rule st es fi.0 fresh b (fresh_inv m rule st) run i ws fi.1 fi.2) in
      let sj = shown_slot b j ws' (filed_shown m rule st es fj.0 fresh b (fresh_inv m rule st) run j ws' fj.1 fj.2) in
      let ci : content (slot_at b i) ≡ ws = ap content si.1 in
      let cj : content (slot_at b j) ≡ ws' = ap content sj.1 in
      let there : (k : ℕ) (x : List ℕ) → slot_at b k ≡ Some x → Filled (slot_at b k) = λ k x e. subst Filled (sym e) tt in
      let f = forks_satisfy m rule st (parsed rule ws) (parsed rule ws') (ran.inv.accepted (i - 1) ws si.1).1 (ran.inv.accepted (j - 1) ws' sj.1).1 same ne in
      let keys = f.0.0 in
      let forked : Forked m.q rule (parsed rule (content (slot_at b i))) (parsed rule (content (slot_at b j))) keys =
      subst (λ u. Forked m.q rule (parsed rule u) (parsed rule (content (slot_at b j))) keys) (sym ci)
      (subst (λ v. Forked m.q rule (parsed rule ws) (parsed rule v) keys) (sym cj) f.0.1) in
      let equal : (parsed rule (content (slot_at b i))).commitments ≡ (parsed rule (content (slot_at b j))).commitments =
      ap (λ w. (parsed rule w).commitments) ci ∙ same ∙ ap (λ w. (parsed rule w).commitments) (sym cj) in (
        keys,
        (
          None,
          inl (
            si.0,
            inl (
              there i ws si.1,
              inl (
                sj.0,
                inl (
                  there j ws' sj.1,
                  inl (
                    refl,
                    inl (
                      (λ l _. ap (λ cs. get_or cs l zeros) equal),
                      inl ((λ e. ne (ap (λ w. challenge (parsed rule w) 0) (sym ci) ∙ e ∙ ap (λ w. challenge (parsed rule w) 0) cj)), refl),
                    ),
                  ),
                ),
              ),
            ),
          ),
          (keys, forked, refl, refl),
        ),
        f.1 keys f.0.1,
      )

  files : (x : ℕ) (c : Call) (ws : List ℕ) → get_elem? es x ≡ some (c, wrote ws) → (slot : ℕ) → IsSlot slot → Vacant es slot
      → Step m rule b (file slot ws) done (with_slot b slot (Some ws))
  files x c ws e slot t empty =
      let good = ran.fair x c ws e in
      let free : slot_at b slot ≡ None = slot_shown b slot t ∙ slot_of slot ∙ vacant_none es slot empty in
      let low = st.lawful.low in
      (None, inl (t, inl ((λ full. subst Filled free full), accepted_clear m rule Clear (omega arith) ws good refl)), (refl, refl))

pub always_stands : AlwaysStands
always_stands m rule st es b run = record { forks = forks m rule st es b run; files = files m rule st es b run }
