-- What a list of calls leaves in a slot, step by step, and that this is what is filed.
use Rattle.std.proofs.Common.{◌≡◌, ℕ, zero, suc, ◌<◌, Bool, false, cond, not, T, eqb, ◌⊎◌, List, [], ◌∷◌, Some, None, Option, sym, refl, ap, ◌∙◌, subst, inl, inr, le_of_suc-le-suc, arith, eqb→eq, T_not}
use mathlib.Core.Option.{some}
use lib.Dec.{eqb_refl}
use lib.ListN.{get_elem?}
use Rattle.releases.specs.Calls.{Call, commit, answer, scrap, simulate, file, remove, fork, Reply, refused, committed, wrote, gave, done}
use Rattle.releases.specs.Runs.{Event, Filed, Vacant}
use Rattle.releases.proofs.Places.{is_true, is_false, either, none_some, some_inj}
use Rattle.releases.proofs.Checking.{not_Some}

-- what a slot holds after a call, if it held x before: only an obeyed file or remove that names it changes it
abbrev pub changed : ℕ → Call → Reply → Option (List ℕ) → Option (List ℕ)
changed slot (file slot' ws) done x = cond (eqb slot' slot) (Some ws) x
changed slot (file slot' ws) (refused why) x = x
changed slot (file slot' ws) (committed chit a) x = x
changed slot (file slot' ws) (wrote ws') x = x
changed slot (file slot' ws) (gave keys) x = x
changed slot (remove slot') done x = cond (eqb slot' slot) None x
changed slot (remove slot') (refused why) x = x
changed slot (remove slot') (committed chit a) x = x
changed slot (remove slot') (wrote ws') x = x
changed slot (remove slot') (gave keys) x = x
changed slot (commit keys tape room) r x = x
changed slot (answer chit c room) r x = x
changed slot (scrap chit) r x = x
changed slot (simulate c tape room) r x = x
changed slot (fork i j room) r x = x

-- what a list of calls leaves filed in a slot that held x: told from the calls and replies alone
abbrev pub filed : ℕ → Option (List ℕ) → List Event → Option (List ℕ)
filed slot x [] = x
filed slot x (e ∷ es) = filed slot (changed slot e.0 e.1 x) es

-- an obeyed remove of the slot
abbrev pub removal : ℕ → Event → Bool
removal slot (file s ws, r) = false
removal slot (remove s, done) = eqb s slot
removal slot (remove s, refused why) = false
removal slot (remove s, committed chit a) = false
removal slot (remove s, wrote ws) = false
removal slot (remove s, gave keys) = false
removal slot (commit keys tape room, r) = false
removal slot (answer chit c room, r) = false
removal slot (scrap chit, r) = false
removal slot (simulate c tape room, r) = false
removal slot (fork i j room, r) = false

abbrev value_or : List ℕ → Option (List ℕ) → List ℕ
value_or d None = d
value_or d (Some x) = x

-- a call leaves the slot alone, or files in it, or empties it
abbrev pub View : ℕ → Call → Reply → Option (List ℕ) → Type 0
View s c r x =
    ((changed s c r x ≡ x) × T (not (removal s (c, r))))
    ⊎ (((w : List ℕ) × (◌≡◌ {A = Event} (c, r) (file s w, done)) × (changed s c r x ≡ Some w)) ⊎ ((◌≡◌ {A = Event} (c, r) (remove s, done)) × (changed s c r x ≡ None)))

pub view : (s : ℕ) (c : Call) (r : Reply) (x : Option (List ℕ)) → View s c r x
view s (file s' w) done x =
    either (eqb s' s)
    (λ t. inr (inl (w, ap (λ u. (file u w, done)) (eqb→eq s' s t), ap (λ b. cond b (Some w) x) (is_true (eqb s' s) t))))
    (λ f. inl (ap (λ b. cond b (Some w) x) (is_false (eqb s' s) f), tt))
view s (file s' w) (refused why) x = inl (refl, tt)
view s (file s' w) (committed chit a) x = inl (refl, tt)
view s (file s' w) (wrote ws) x = inl (refl, tt)
view s (file s' w) (gave keys) x = inl (refl, tt)
view s (remove s') done x =
    either (eqb s' s)
    (λ t. inr (inr (ap (λ u. (remove u, done)) (eqb→eq s' s t), ap (λ b. cond b None x) (is_true (eqb s' s) t))))
    (λ f. inl (ap (λ b. cond b None x) (is_false (eqb s' s) f), f))
view s (remove s') (refused why) x = inl (refl, tt)
view s (remove s') (committed chit a) x = inl (refl, tt)
view s (remove s') (wrote ws) x = inl (refl, tt)
view s (remove s') (gave keys) x = inl (refl, tt)
view s (commit keys tape room) r x = inl (refl, tt)
view s (answer chit c room) r x = inl (refl, tt)
view s (scrap chit) r x = inl (refl, tt)
view s (simulate c tape room) r x = inl (refl, tt)
view s (fork i j room) r x = inl (refl, tt)

no_removal : (s : ℕ) (e : Event) → T (not (removal s e)) → ¬ (e ≡ (remove s, done))
no_removal s e n h = T_not (removal s e) n (subst (λ e. T (removal s e)) (sym h) (eqb_refl s))

module _ (s : ℕ) (ws : List ℕ) where
  abbrev Unremoved : List Event → Type 0
  Unremoved es = (y : ℕ) → ¬ (get_elem? es y ≡ some (remove s, done))

  after : (e : Event) (es : List Event) (x : ℕ) → ((y : ℕ) → x < suc y → ¬ (get_elem? es y ≡ some (remove s, done))) → (y : ℕ) → x < y → ¬ (get_elem? (e ∷ es) y ≡ some (remove s, done))
  after e es x f zero l h = omega arith
  after e es x f (suc y) l h = f y l h

  pub filed_is : (es : List Event) (x : Option (List ℕ)) → filed s x es ≡ Some ws → Filed es s ws ⊎ ((x ≡ Some ws) × Unremoved es)
  filed_is [] x h = inr (h, λ y e. none_some (remove s, done) e)
  filed_is (e ∷ es) x h = go (filed_is es (changed s e.0 e.1 x) h) (view s e.0 e.1 x)
    where
      all : T (not (removal s e)) → Unremoved es → Unremoved (e ∷ es)
      all n f zero h = no_removal s e n (some_inj e (remove s, done) h)
      all n f (suc y) h = f y h

      go : Filed es s ws ⊎ ((changed s e.0 e.1 x ≡ Some ws) × Unremoved es) → View s e.0 e.1 x → Filed (e ∷ es) s ws ⊎ ((x ≡ Some ws) × Unremoved (e ∷ es))
      go (inl k) v = inl (suc k.0, k.1, after e es (suc k.0) (λ y l. k.2 y (le_of_suc-le-suc l)))
      go (inr p) (inl v) = inr (sym v.0 ∙ p.0, all v.1 p.1)
      go (inr p) (inr (inl v)) = inl (0, ap some (v.1 ∙ ap (λ w. (file s w, done)) (ap (value_or v.0) (sym v.2 ∙ p.0))), after e es 0 (λ y l. p.1 y))
      go (inr p) (inr (inr v)) = not_Some (sym p.0 ∙ v.1)

pub vacant_none : (es : List Event) (s : ℕ) → Vacant es s → filed s None es ≡ None
vacant_none es s v = go (filed s None es) refl
  where
    go : (o : Option (List ℕ)) → filed s None es ≡ o → o ≡ None
    go None e = refl
    go (Some ws) e = elim (filed_is s ws es None e) [ inl f ↦ absurd (v ws f) | inr p ↦ not_Some (sym p.0) ]
