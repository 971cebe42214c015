-- What each call keeps, and what follows of any list of calls.
use Rattle.std.proofs.Common.{◌≡◌, ℕ, zero, suc, ◌-◌, Bool, true, false, cond, ◌&&◌, T, eqb, leb, ◌⊎◌, List, [], ◌∷◌, length, get_or, set, replicate, Some, None, Option, sym, refl, ap, ◌∙◌, subst, inl, inr, arith, le→leb, eqb→eq, leb→le, T_not, length-set, get_or-set_other, get_or-set_same}
use mathlib.Core.Option.{some}
use lib.Dec.{eqb_refl}
use lib.Ieee.Fits.{and_i, and_l, and_r}
use lib.ListN.{get_elem?}
use Rattle.refusals.specs.declared.Refusal.{Refusal}
use Rattle.fields.specs.declared.scalar.Scalar.{Scalar}
use Rattle.kinds.specs.Kinds.{KindModel, Key}
use Rattle.releases.specs.Entries.{Entry}
use Rattle.releases.specs.Transcripts.{is_scalar, parsed, Acceptable}
use Rattle.releases.specs.Making.{Tape}
use Rattle.releases.specs.Theorems.{Setting, Fit}
use Rattle.releases.specs.Checks.{Clear}
use Rattle.releases.specs.Calls.{Held, Bench, fresh, Call, commit, answer, scrap, simulate, file, remove, fork, Reply, refused, committed, wrote, gave, done, slot_at, with_slot, with_holds, names, IsSlot, Taped, Refuses, after_refusal, Written, Obeyed, Outcome, Step}
use Rattle.releases.specs.Runs.{Event, Run}
use Rattle.releases.proofs.Filing.{changed, filed}
use Rattle.releases.proofs.Places.{either, is_true, is_false, none_some, some_inj}
use Rattle.releases.proofs.Checking.{not_Some, passed, keyed_passed, taped_passed, accepted_passed}
use Rattle.releases.proofs.Making.{simulated_fits, answered_fits}

abbrev words_or : List ℕ → Reply → List ℕ
words_or d (refused why) = d
words_or d (committed chit a) = d
words_or d (wrote ws) = ws
words_or d (gave keys) = d
words_or d done = d

abbrev pub is_wrote : Reply → Type 0
is_wrote (refused why) = ⊥
is_wrote (committed chit a) = ⊥
is_wrote (wrote ws) = Unit {0}
is_wrote (gave keys) = ⊥
is_wrote done = ⊥

pub wrote_inj : (ws ws' : List ℕ) → wrote ws ≡ wrote ws' → ws ≡ ws'
wrote_inj ws ws' e = ap (words_or ws) e

changed_refused : (s : ℕ) (c : Call) (why : Refusal) (x : Option (List ℕ)) → changed s c (refused why) x ≡ x
changed_refused s (commit keys tape room) why x = refl
changed_refused s (answer chit c room) why x = refl
changed_refused s (scrap chit) why x = refl
changed_refused s (simulate c tape room) why x = refl
changed_refused s (file slot ws) why x = refl
changed_refused s (remove slot) why x = refl
changed_refused s (fork i j room) why x = refl

set_or : {X : Type 0} (xs : List X) (i j : ℕ) (v d : X) → (get_or (set xs i v) j d ≡ v) ⊎ (get_or (set xs i v) j d ≡ get_or xs j d)
set_or [] i j v d = inr refl
set_or (x ∷ xs) zero zero v d = inl refl
set_or (x ∷ xs) zero (suc j) v d = inr refl
set_or (x ∷ xs) (suc i) zero v d = inr refl
set_or (x ∷ xs) (suc i) (suc j) v d = set_or xs i j v d

abbrev value_or : {A : Type 0} → A → Option A → A
value_or d None = d
value_or d (Some x) = x

pub SomeInj : {A : Type 0} (x y : A) → Some x ≡ Some y → x ≡ y
SomeInj x y e = ap (value_or x) e

-- what a slot shows: nothing outside 1 to 8
abbrev is_slot : ℕ → Bool
is_slot slot = leb 1 slot && leb slot 8

abbrev pub shown : Bench → ℕ → Option (List ℕ)
shown b s = cond (is_slot s) (slot_at b s) None

shown_test : (b : Bench) (s : ℕ) (ws : List ℕ) → shown b s ≡ Some ws → T (is_slot s) × (slot_at b s ≡ Some ws)
shown_test b s ws e = go (is_slot s) e
  where
    go : (t : Bool) → cond t (slot_at b s) None ≡ Some ws → T t × (slot_at b s ≡ Some ws)
    go true e = (tt, e)
    go false e = not_Some (sym e)

slot_range : (s : ℕ) → T (is_slot s) → IsSlot s
slot_range s t = (leb→le 1 s (and_l (leb 1 s) _ t), leb→le s 8 (and_r (leb 1 s) _ t))

range_slot : (s : ℕ) → IsSlot s → T (is_slot s)
range_slot s r = and_i _ _ (le→leb 1 s r.0) (le→leb s 8 r.1)

pub shown_slot : (b : Bench) (s : ℕ) (ws : List ℕ) → shown b s ≡ Some ws → IsSlot s × (slot_at b s ≡ Some ws)
shown_slot b s ws e = let o = shown_test b s ws e in (slot_range s o.0, o.1)

pub slot_shown : (b : Bench) (s : ℕ) → IsSlot s → slot_at b s ≡ shown b s
slot_shown b s r = sym (ap (λ y. cond y (slot_at b s) None) (is_true (is_slot s) (range_slot s r)))

shown_set : (b : Bench) (slot : ℕ) (x : Option (List ℕ)) → length b.drawer ≡ 8 → T (is_slot slot) → (s : ℕ) → shown (with_slot b slot x) s ≡ cond (eqb slot s) x (shown b s)
shown_set b slot x long t s =
    either (eqb slot s)
    (λ same. let e = eqb→eq slot s same in
    let r = slot_range slot t in
    ap (λ c. cond c (slot_at (with_slot b slot x) s) None) (is_true (is_slot s) (subst (λ u. T (is_slot u)) e t))
    ∙ ap (λ u. get_or (set b.drawer (slot - 1) x) (u - 1) None) (sym e)
    ∙ get_or-set_same b.drawer (slot - 1) x None (omega arith)
    ∙ sym (ap (λ c. cond c x (shown b s)) (is_true (eqb slot s) same)))
    (λ other. let ne : ¬ (slot ≡ s) = λ e. T_not (eqb slot s) other (subst (λ u. T (eqb slot u)) e (eqb_refl slot)) in
    let r = slot_range slot t in
    either (is_slot s)
    (λ ts. let rs = slot_range s ts in
    ap (λ y. cond (is_slot s) y None) (get_or-set_other b.drawer (slot - 1) (s - 1) x None (λ e. ne (omega arith))) ∙ sym (ap (λ c. cond c x (shown b s)) (is_false (eqb slot s) other)))
    (λ fs. ap (λ c. cond c (slot_at (with_slot b slot x) s) None) (is_false (is_slot s) fs) ∙ sym (ap (λ c. cond c (slot_at b s) None) (is_false (is_slot s) fs))
    ∙ sym (ap (λ c. cond c x (shown b s)) (is_false (eqb slot s) other))))

module _ (m : KindModel) (rule : List Entry) (st : Setting m rule) where
  abbrev pub GoodWords : List ℕ → Type 0
  GoodWords = Written m rule (Acceptable m rule)

  -- everything in the drawer is acceptable; the held commitment is of keys and a tape that passed
  pub record Inv (b : Bench) : Type 0 where
    pub long : length b.drawer ≡ 8
    pub accepted : (i : ℕ) (ws : List ℕ) → get_or b.drawer i None ≡ Some ws → GoodWords ws
    pub held : (h : Held) → b.holds ≡ Some h → Fit m rule h.keys × Tape m rule h.tape

  pub record Kept (b : Bench) (c : Call) (r : Reply) (b' : Bench) : Type 0 where
    pub inv : Inv b'
    pub fair : (ws : List ℕ) → r ≡ wrote ws → GoodWords ws
    pub slots : (s : ℕ) → shown b' s ≡ changed s c r (shown b s)

  drop_held : (b : Bench) → Inv b → Inv (with_holds b None)
  drop_held b i = record { long = i.long; accepted = i.accepted; held = λ h e. not_Some (sym e) }

  silent : (r : Reply) → (is_wrote r → ⊥) → (ws : List ℕ) → r ≡ wrote ws → GoodWords ws
  silent r n ws e = absurd (n (subst is_wrote (sym e) tt))

  after_kept : (b : Bench) (c : Call) → Inv b → Inv (after_refusal b c) × ((after_refusal b c).drawer ≡ b.drawer)
  after_kept b (commit keys tape room) i = (i, refl)
  after_kept b (answer chit c room) i = go (names b.holds chit)
    where
      go : (t : Bool) → Inv (cond t (with_holds b None) b) × ((cond t (with_holds b None) b).drawer ≡ b.drawer)
      go true = (drop_held b i, refl)
      go false = (i, refl)
  after_kept b (scrap chit) i = (i, refl)
  after_kept b (simulate c tape room) i = (i, refl)
  after_kept b (file slot ws) i = (i, refl)
  after_kept b (remove slot) i = (i, refl)
  after_kept b (fork s s' room) i = (i, refl)

  put : (b : Bench) (slot : ℕ) (x : Option (List ℕ)) → Inv b → ((ws : List ℕ) → x ≡ Some ws → GoodWords ws) → Inv (with_slot b slot x)
  put b slot x i ok = record {
    long = length-set b.drawer (slot - 1) x ∙ i.long;
    accepted = λ j ws e. elim (set_or b.drawer (slot - 1) j x None) [ inl p ↦ ok ws (sym p ∙ e) | inr p ↦ i.accepted j ws (sym p ∙ e) ];
    held = i.held;
  }

  -- what the checks of each call have shown
  pub commit_passed : (b : Bench) (keys : List (Option Key)) (tape : List Scalar) (room : ℕ) → Refuses m rule b (commit keys tape room) None → Fit m rule keys × Tape m rule tape
  commit_passed b keys tape room e =
      let k = keyed_passed m rule (Taped m rule tape Clear) keys (passed (passed e).1).1 in
      (k.0, (taped_passed m rule Clear tape k.1).0)

  pub answer_passed : (b : Bench) (chit : ℕ) (c : Scalar) (room : ℕ) → Refuses m rule b (answer chit c room) None → T (is_scalar m c)
  answer_passed b chit c room e = (passed (passed (passed e).1).1).0

  pub simulate_passed : (b : Bench) (c : Scalar) (tape : List Scalar) (room : ℕ) → Refuses m rule b (simulate c tape room) None → T (is_scalar m c) × Tape m rule tape
  simulate_passed b c tape room e =
      let a = passed (passed e).1 in
      (a.0, (taped_passed m rule Clear tape a.1).0)

  file_passed : (b : Bench) (slot : ℕ) (ws : List ℕ) → Refuses m rule b (file slot ws) None → IsSlot slot × GoodWords ws
  file_passed b slot ws e =
      let a = passed e in
      (a.0, (accepted_passed m rule Clear ws (passed a.1).1).0)

  remove_passed : (b : Bench) (slot : ℕ) → Refuses m rule b (remove slot) None → IsSlot slot
  remove_passed b slot e = (passed e).0

  obeyed_kept : (b : Bench) (c : Call) (r : Reply) (b' : Bench) → Inv b → Refuses m rule b c None → Obeyed m rule b c r b' → Kept b c r b'
  obeyed_kept b (commit keys tape room) r b' i e o =
      let p = commit_passed b keys tape room e in
      subst (λ b'. Kept b (commit keys tape room) r b') (sym o.3) (record {
        inv = record { long = i.long; accepted = i.accepted; held = λ h f. subst (λ (h : Held). Fit m rule h.keys × Tape m rule h.tape) (SomeInj _ h f) p };
        fair = silent r (λ w. subst is_wrote o.2 w);
        slots = λ s. refl;
      })
  obeyed_kept b (answer chit c room) r b' i e o =
      let p = i.held o.0 o.1 in
      let w = o.3 in
      subst (λ b'. Kept b (answer chit c room) r b') (sym o.5) (record {
        inv = drop_held b i;
        fair = λ ws f. subst GoodWords (wrote_inj o.2 ws (sym o.4 ∙ f)) (w.0, ((answered_fits m rule st o.0.keys p.0 o.0.tape p.1).2 c (answer_passed b chit c room e) (parsed rule o.2) w.1).0);
        slots = λ s. refl;
      })
  obeyed_kept b (scrap chit) r b' i e o =
      subst (λ b'. Kept b (scrap chit) r b') (sym o.1) (record { inv = drop_held b i; fair = silent r (λ w. subst is_wrote o.0 w); slots = λ s. refl })
  obeyed_kept b (simulate c tape room) r b' i e o =
      let p = simulate_passed b c tape room e in
      let w = o.1 in
      subst (λ b'. Kept b (simulate c tape room) r b') (sym o.3) (record {
        inv = i;
        fair = λ ws f. subst GoodWords (wrote_inj o.0 ws (sym o.2 ∙ f)) (w.0, (simulated_fits m rule st tape p.1 c p.0).1 (parsed rule o.0) w.1);
        slots = λ s. refl;
      })
  obeyed_kept b (file slot ws) r b' i e o =
      let p = file_passed b slot ws e in
      subst (λ r. Kept b (file slot ws) r b') (sym o.0) (subst (λ b'. Kept b (file slot ws) done b') (sym o.1) (record {
        inv = put b slot (Some ws) i (λ ws' f. subst GoodWords (SomeInj ws ws' f) p.1);
        fair = silent done (λ w. w);
        slots = shown_set b slot (Some ws) i.long (range_slot slot p.0);
      }))
  obeyed_kept b (remove slot) r b' i e o =
      subst (λ r. Kept b (remove slot) r b') (sym o.0) (subst (λ b'. Kept b (remove slot) done b') (sym o.1) (record {
        inv = put b slot None i (λ ws' f. not_Some (sym f));
        fair = silent done (λ w. w);
        slots = shown_set b slot None i.long (range_slot slot (remove_passed b slot e));
      }))
  obeyed_kept b (fork s s' room) r b' i e o =
      subst (λ b'. Kept b (fork s s' room) r b') (sym o.3) (record { inv = i; fair = silent r (λ w. subst is_wrote o.2 w); slots = λ s. refl })

  pub step_kept : (b : Bench) (c : Call) (r : Reply) (b' : Bench) → Inv b → Step m rule b c r b' → Kept b c r b'
  step_kept b c r b' i step = go step.0 step.1 step.2
    where
      go : (o : Option Refusal) → Refuses m rule b c o → Outcome m rule b c r b' o → Kept b c r b'
      go None e x = obeyed_kept b c r b' i e x
      go (Some why) e x =
          let a = after_kept b c i in
          subst (λ r. Kept b c r b') (sym x.0) (subst (λ b'. Kept b c (refused why) b') (sym x.1) (record {
            inv = a.0;
            fair = silent (refused why) (λ w. w);
            slots = λ s. ap (λ d. cond (is_slot s) (get_or d (s - 1) None) None) a.1 ∙ sym (changed_refused s c why (shown b s));
          }))

  pub record Ran (b : Bench) (es : List Event) (b' : Bench) : Type 0 where
    pub inv : Inv b'
    pub fair : (x : ℕ) (c : Call) (ws : List ℕ) → get_elem? es x ≡ some (c, wrote ws) → GoodWords ws
    pub slots : (s : ℕ) → shown b' s ≡ filed s (shown b s) es

  pub run_kept : (es : List Event) (b b' : Bench) → Inv b → Run m rule b es b' → Ran b es b'
  run_kept [] b b' i e = record { inv = subst Inv (sym e) i; fair = λ x c ws h. none_some (c, wrote ws) h; slots = λ s. ap (λ b. shown b s) e }
  run_kept (e ∷ es) b b' i run =
      let k = step_kept b e.0 e.1 run.0 i run.1 in
      let r = run_kept es run.0 b' k.inv run.2 in
      record {
        inv = r.inv;
        fair = fairs k.fair r.fair;
        slots = λ s. r.slots s ∙ ap (λ x. filed s x es) (k.slots s);
      }
    where
      fairs : ((ws : List ℕ) → e.1 ≡ wrote ws → GoodWords ws) → ((x : ℕ) (c : Call) (ws : List ℕ) → get_elem? es x ≡ some (c, wrote ws) → GoodWords ws)
          → (x : ℕ) (c : Call) (ws : List ℕ) → get_elem? (e ∷ es) x ≡ some (c, wrote ws) → GoodWords ws
      fairs f g zero c ws h = f ws (ap (λ (p : Event). p.1) (some_inj e (c, wrote ws) h))
      fairs f g (suc x) c ws h = g x c ws h

  none_in : (n i : ℕ) → ◌≡◌ {A = Option (List ℕ)} (get_or (replicate n None) i None) None
  none_in zero i = refl
  none_in (suc n) zero = refl
  none_in (suc n) (suc i) = none_in n i

  pub fresh_inv : Inv fresh
  fresh_inv = record { long = refl; accepted = λ i ws e. not_Some (sym (sym (none_in 8 i) ∙ e)); held = λ h e. not_Some (sym e) }

  pub fresh_shown : (s : ℕ) → shown fresh s ≡ None
  fresh_shown s = go (is_slot s)
    where
      go : (t : Bool) → ◌≡◌ {A = Option (List ℕ)} (cond t (get_or (replicate 8 None) (s - 1) None) None) None
      go true = none_in 8 (s - 1)
      go false = refl
