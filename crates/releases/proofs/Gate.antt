-- Gates: the own challenge and the marked children's determine the rest, and different own challenges reach k children.
--   spread bs s    the entries of s at the marked places, zero elsewhere
use Rattle.std.proofs.Common.{◌≡◌, ℕ, zero, suc, ◌+◌, ◌<◌, ◌≤◌, Bool, true, false, cond, T, List, [], ◌∷◌, map, length, get_or, drop, sym, refl, ap, ◌∙◌, subst, ap₂, le_of_suc-le-suc, not-suc-le-zero, arith}
use native.Mathlib.Nat.{suc_inj}
use lib.ListN.{length-map}
use Rattle.fields.specs.Fields.{FieldModel, FieldLaws}
use Rattle.polynomials.specs.Polynomials.{Members, newton}
use Rattle.polynomials.proofs.Roots.{All}
use Rattle.polynomials.proofs.Carried.{value_in}
use Rattle.splits.specs.Gates.{Balanced, Agree, Differing}
use Rattle.splits.specs.Gates.{none, same, other}
use Rattle.splits.specs.Marks.{missing, marked, points_from}
use Rattle.splits.proofs.Picked.{all_from, members_from}
use Rattle.splits.proofs.Splitting.{nodes, values, Solved, nodes_in, values_in, nodes_apart, as_long, is_balanced, is_kept, is_only, determined}
use Rattle.splits.proofs.Forks.{at_least_differ}
use Rattle.releases.specs.Entries.{count}
use Rattle.releases.proofs.Places.{run, length_run, getD_run}
use Rattle.releases.proofs.Interpolation.{through}

missing_small : (bs : List Bool) → missing bs ≤ length bs
missing_small [] = omega arith
missing_small (true ∷ bs) = let r = missing_small bs in omega arith
missing_small (false ∷ bs) = let r = missing_small bs in omega arith

module _ {E : Type 0} (m : FieldModel E) where
  abbrev spread : List Bool → List E → List E
  spread [] s = []
  spread (false ∷ bs) s = m.zero ∷ spread bs s
  spread (true ∷ bs) [] = m.zero ∷ spread bs []
  spread (true ∷ bs) (x ∷ s) = x ∷ spread bs s

  spread_length : (bs : List Bool) (s : List E) → length bs ≡ length (spread bs s)
  spread_length [] s = refl
  spread_length (false ∷ bs) s = ap suc (spread_length bs s)
  spread_length (true ∷ bs) [] = ap suc (spread_length bs [])
  spread_length (true ∷ bs) (x ∷ s) = ap suc (spread_length bs s)

  spread_all : (P : E → Type 0) → P m.zero → (bs : List Bool) (s : List E) → All P s → All P (spread bs s)
  spread_all P z [] s a = tt
  spread_all P z (false ∷ bs) s a = (z, spread_all P z bs s a)
  spread_all P z (true ∷ bs) [] a = (z, spread_all P z bs [] a)
  spread_all P z (true ∷ bs) (x ∷ s) a = (a.0, spread_all P z bs s a.1)

  marked_spread : (bs : List Bool) (s : List E) → length s + missing bs ≡ length bs → marked bs (spread bs s) ≡ s
  marked_spread [] [] e = refl
  marked_spread [] (x ∷ s) e = absurd (omega arith)
  marked_spread (false ∷ bs) s e = marked_spread bs s (omega arith)
  marked_spread (true ∷ bs) [] e = let r = missing_small bs in absurd (omega arith)
  marked_spread (true ∷ bs) (x ∷ s) e = ap (λ u. x ∷ u) (marked_spread bs s (omega arith))

  -- to agree at the marked places is to have the same marked entries
  agree_marked : (bs : List Bool) (xs ys : List E) → length bs ≡ length xs → length bs ≡ length ys → Agree m bs xs ys → marked bs xs ≡ marked bs ys
  agree_marked [] xs ys l k a = refl
  agree_marked (b ∷ bs) [] ys l k a = absurd (omega arith)
  agree_marked (b ∷ bs) (x ∷ xs) [] l k a = absurd (omega arith)
  agree_marked (true ∷ bs) (x ∷ xs) (y ∷ ys) l k a =
      ap₂ ◌∷◌ (a zero (omega arith) tt) (agree_marked bs xs ys (suc_inj l) (suc_inj k) (λ j h t. a (suc j) (omega arith) t))
  agree_marked (false ∷ bs) (x ∷ xs) (y ∷ ys) l k a = agree_marked bs xs ys (suc_inj l) (suc_inj k) (λ j h t. a (suc j) (omega arith) t)

  pub marked_agree : (bs : List Bool) (xs ys : List E) → length bs ≡ length xs → length bs ≡ length ys → marked bs xs ≡ marked bs ys → Agree m bs xs ys
  marked_agree [] xs ys l k e j h t = absurd (not-suc-le-zero h)
  marked_agree (b ∷ bs) [] ys l k e j h t = absurd (omega arith)
  marked_agree (b ∷ bs) (x ∷ xs) [] l k e j h t = absurd (omega arith)
  marked_agree (true ∷ bs) (x ∷ xs) (y ∷ ys) l k e zero h t = ap (λ u. get_or u 0 x) e
  marked_agree (false ∷ bs) (x ∷ xs) (y ∷ ys) l k e zero h t = absurd t
  marked_agree (true ∷ bs) (x ∷ xs) (y ∷ ys) l k e (suc j) h t = marked_agree bs xs ys (suc_inj l) (suc_inj k) (ap (drop 1) e) j (le_of_suc-le-suc h) t
  marked_agree (false ∷ bs) (x ∷ xs) (y ∷ ys) l k e (suc j) h t = marked_agree bs xs ys (suc_inj l) (suc_inj k) e j (le_of_suc-le-suc h) t

module _ {E : Type 0} {m : FieldModel E} (laws : FieldLaws m) where
  abbrev In : E → Type 0
  In x = T (m.member x)

  -- the challenges of a balanced gate are elements
  pub own_in : (k : ℕ) (own : E) (cs : List E) → Balanced m k own cs → In own
  own_in k own cs b = subst In b.3 (value_in laws b.0 b.2 (m.point 0) (laws.point_in 0 (omega arith)))

  pub child_in : (k : ℕ) (own : E) (cs : List E) → length cs ≤ 8 → Balanced m k own cs → Members m cs
  child_in k own cs few b j l = subst In (b.4 j l) (value_in laws b.0 b.2 (m.point (j + 1)) (laws.point_in (j + 1) (omega arith)))

  -- exactly one balanced gate has these children at the marked places
  abbrev Split : E → List Bool → List E → List E → Type 0
  Split own known given after =
      (length after ≡ length given) × Balanced m (missing known) own after × Agree m known after given
      × ((others : List E) → length others ≡ length given → Balanced m (missing known) own others → Agree m known others given → others ≡ after)

  split : (own : E) (known : List Bool) (given : List E) → length known ≡ length given → length given ≤ 8 → In own → Members m given
      → (after : List E) × Split own known given after
  split own known given long few own' given' =
      let ns = nodes m own known given in
      let vs = values m own known given in
      let o = through laws ns vs (as_long laws own known given long few) (nodes_in laws own known given long few) (values_in laws own known given long few own' given')
      (nodes_apart laws own known given long few) in
      let f : ℕ → E = λ j. cond (get_or known j false) (get_or given j m.zero) (newton m ns o.0 (get_or (points_from m 1 (length given)) j m.zero)) in
      let after = run f (length given) in
      let after-long = length_run f (length given) in
      let solved : Solved m own known given ns vs o.0 after = (o.1, o.2, λ j l. getD_run f (length given) j m.zero l) in (
        after,
        (
          after-long,
          is_balanced laws own known given long few o.0 after after-long solved,
          is_kept laws own known given long few o.0 after after-long solved,
          is_only laws own known given long few o.0 after after-long solved,
        ),
      )

  -- the own challenge and the marked children's, whatever they are, can be completed
  pub complete : (own : E) (known : List Bool) (s : List E) → length known ≤ 8 → In own → Members m s → length s + missing known ≡ length known
      → (cs : List E) × (length cs ≡ length known) × Balanced m (missing known) own cs × (marked known cs ≡ s)
  complete own known s few own' s' fit =
      let given = spread m known s in
      let long = spread_length m known s in
      let o = split own known given long (omega arith) own' (members_from m given (spread_all m In laws.zero_in known s (all_from In s m.zero s'))) in (
        o.0,
        o.1.0 ∙ sym long,
        o.1.1,
        agree_marked m known o.0 given (long ∙ sym o.1.0) long o.1.2 ∙ marked_spread m known s fit,
      )

  -- in one way
  pub same_children : (own : E) (known : List Bool) → length known ≤ 8 → (cs cs' : List E) → length cs ≡ length known → length cs' ≡ length known
      → Balanced m (missing known) own cs → Balanced m (missing known) own cs' → marked known cs ≡ marked known cs' → cs ≡ cs'
  same_children own known few cs cs' l l' b b' e =
      determined laws own known cs' (sym l') (omega arith) cs cs' (l ∙ sym l') refl b b' (marked_agree m known cs cs' (sym l) (sym l') e) (λ j h t. refl)

  same_list? : (xs ys : List E) → Dec (xs ≡ ys)
  same_list? [] [] = yes refl
  same_list? [] (y ∷ ys) = no (λ e. let l : ◌≡◌ {A = ℕ} 0 (suc (length ys)) = ap length e in omega arith)
  same_list? (x ∷ xs) [] = no (λ e. let l : ◌≡◌ {A = ℕ} (suc (length xs)) 0 = ap length e in omega arith)
  same_list? (x ∷ xs) (y ∷ ys) = go (laws.same? x y) (same_list? xs ys)
    where
      go : Dec (x ≡ y) → Dec (xs ≡ ys) → Dec (x ∷ xs ≡ y ∷ ys)
      go (yes e) (yes f) = yes (ap₂ ◌∷◌ e f)
      go (no n) f = no (λ e. n (ap (λ u. get_or u 0 x) e))
      go (yes e) (no n) = no (λ f. n (ap (drop 1) f))

  -- whether a gate balances: it does where it is the one split that has its marked children
  pub balanced? : (own : E) (known : List Bool) (cs : List E) → length known ≡ length cs → length cs ≤ 8 → In own → Members m cs → Dec (Balanced m (missing known) own cs)
  balanced? own known cs long few own' cs' =
      let o = split own known cs long few own' cs' in
      go o.0 o.1.1 (λ b. o.1.3 cs refl b (λ j h t. refl)) (same_list? cs o.0)
    where
      go : (after : List E) → Balanced m (missing known) own after → (Balanced m (missing known) own cs → cs ≡ after) → Dec (cs ≡ after) → Dec (Balanced m (missing known) own cs)
      go after b one (yes e) = yes (subst (Balanced m (missing known) own) (sym e) b)
      go after b one (no n) = no (λ c. n (one c))

  -- whatever marks each child that differs marks at least as many as differ
  differ : (ch ch' : ℕ → E) (f : ℕ → Bool) (cs : List ℕ) → ((j : ℕ) → j < length cs → ¬ (ch (get_or cs j 0) ≡ ch' (get_or cs j 0)) → T (f (get_or cs j 0)))
      → (r : ℕ) × Differing (map ch cs) (map ch' cs) r × (r ≤ count f cs)
  differ ch ch' f [] h = (0, none, omega arith)
  differ ch ch' f (c ∷ cs) h = go (laws.same? (ch c) (ch' c)) (f c) (h zero (omega arith)) (differ ch ch' f cs (λ j l. h (suc j) (omega arith)))
    where
      go : Dec (ch c ≡ ch' c) → (b : Bool) → (¬ (ch c ≡ ch' c) → T b) → (r : ℕ) × Differing (map ch cs) (map ch' cs) r × (r ≤ count f cs)
          → (r : ℕ) × Differing (ch c ∷ map ch cs) (ch' c ∷ map ch' cs) r × (r ≤ cond b (suc (count f cs)) (count f cs))
      go (yes e) true g r = let l = r.2 in (r.0, same e r.1, omega arith)
      go (yes e) false g r = (r.0, same e r.1, r.2)
      go (no n) true g r = let l = r.2 in (suc r.0, other n r.1, omega arith)
      go (no n) false g r = absurd (g n)

  -- two balanced gates with different challenges of their own: whatever marks each child that differs marks k
  pub reaches : (k : ℕ) (own own' : E) (ch ch' : ℕ → E) (cs : List ℕ) (f : ℕ → Bool) → k ≤ length cs → length cs ≤ 8 → ¬ (own ≡ own')
      → Balanced m k own (map ch cs) → Balanced m k own' (map ch' cs)
      → ((j : ℕ) → j < length cs → ¬ (ch (get_or cs j 0) ≡ ch' (get_or cs j 0)) → T (f (get_or cs j 0))) → k ≤ count f cs
  reaches k own own' ch ch' cs f le few ne b b' marks =
      let d = differ ch ch' f cs marks in
      let l = length-map cs ch in
      let more : k ≤ d.0 = at_least_differ m laws (map ch cs) (map ch' cs) d.0 d.1 (omega arith) k own own' (omega arith) b b' ne in
      let less = d.2 in
      omega arith
