-- A gate of which some children are known: there is one balanced gate with these, and it is what the polynomial through them gives.
--   nodes, values   the points of the gate and of its known children, and the challenges there
--   Solved          cs are the coefficients of a polynomial through these, and `after` has the known children and its values at the others
use Rattle.std.proofs.Common.{◌≡◌, ℕ, zero, suc, ◌+◌, ◌-◌, ◌<◌, ◌≤◌, Bool, true, false, cond, T, List, ◌∷◌, length, get_or, sym, refl, ap, ◌∙◌, subst, ap₂, suc-le-suc, zero-le, le_of_suc-le-suc, arith}
use Rattle.std.proofs.lemmas.List.{ext_get_or}
use Rattle.fields.specs.Fields.{FieldModel, FieldLaws}
use Rattle.polynomials.specs.Polynomials.{value, Members, Apart, Passes, Polynomial, newton}
use Rattle.polynomials.proofs.Carried.{value_in, agree_everywhere}
use Rattle.splits.specs.Gates.{Balanced, Agree}
use Rattle.splits.specs.Marks.{missing, marked, points_from}
use Rattle.splits.proofs.Picked.{length_marked, all_marked, distinct_marked, all_from, apart_from, members_from, passes_at, passes_from, length_points, getD_points, all_points, distinct_points}

module _ {E : Type 0} (m : FieldModel E) (own : E) (known : List Bool) (given : List E) where
  abbrev pub nodes : List E
  nodes = m.point 0 ∷ marked known (points_from m 1 (length given))

  abbrev pub values : List E
  values = own ∷ marked known given

  abbrev pub Solved : List E → List E → List E → List E → Type 0
  Solved ns vs cs after =
      Polynomial m (length ns) (newton m ns cs)
      × Passes m (newton m ns cs) ns vs
      × ((j : ℕ) → j < length given → get_or after j m.zero
      ≡ cond (get_or known j false) (get_or given j m.zero) (newton m ns cs (get_or (points_from m 1 (length given)) j m.zero)))

-- by what a mark is
by_mark : {A : Type 0} (b : Bool) {x y r : A} → r ≡ cond b x y → (T b → y ≡ x) → r ≡ y
by_mark true e h = e ∙ sym (h tt)
by_mark false e h = e

marked_is : {A : Type 0} (b : Bool) (x y r : A) → r ≡ cond b x y → T b → r ≡ x
marked_is true x y r e t = e
marked_is false x y r e t = absurd t

module _ {E : Type 0} {m : FieldModel E} (laws : FieldLaws m) (own : E) (known : List Bool) (given : List E)
    (long : length known ≡ length given) (few : length given ≤ 8) where
  points_long : length known ≡ length (points_from m 1 (length given))
  points_long = long ∙ sym (length_points m 1 (length given))

  pub nodes_in : Members m (nodes m own known given)
  nodes_in =
      members_from m (nodes m own known given)
      (laws.point_in 0 (omega arith), all_marked (λ x. T (m.member x)) known (points_from m 1 (length given)) (all_points m (λ x. T (m.member x)) 1 (length given) (λ i a b. laws.point_in i (omega arith))))

  pub values_in : T (m.member own) → Members m given → Members m (values m own known given)
  values_in h k = members_from m (values m own known given) (h, all_marked (λ x. T (m.member x)) known given (all_from (λ x. T (m.member x)) given m.zero k))

  pub nodes_apart : Apart m (nodes m own known given)
  nodes_apart =
      apart_from m (nodes m own known given) (
        all_marked (λ y. ¬ (y ≡ m.point 0)) known (points_from m 1 (length given))
            (all_points m (λ y. ¬ (y ≡ m.point 0)) 1 (length given) (λ i a b e. let q : i ≡ 0 = laws.points_apart i 0 (omega arith) (omega arith) e in omega arith)),
        distinct_marked known (points_from m 1 (length given)) (distinct_points m laws 1 (length given) (omega arith)),
      )

  pub nodes_long : length (nodes m own known given) ≡ length given - missing known + 1
  nodes_long = omega (arith, length_marked known (points_from m 1 (length given)) points_long)

  pub as_long : length (nodes m own known given) ≡ length (values m own known given)
  as_long = omega (arith, length_marked known (points_from m 1 (length given)) points_long, length_marked known given long)

  point_is : (j : ℕ) → j < length given → get_or (points_from m 1 (length given)) j m.zero ≡ m.point (j + 1)
  point_is j l = getD_points m 1 (length given) j m.zero l

  -- what holds of every balanced gate that agrees with what is given: its polynomial passes through the nodes
  balanced_passes : (others : List E) → length others ≡ length given → (b : Balanced m (missing known) own others) → Agree m known others given
      → Passes m (value m b.0) (nodes m own known given) (values m own known given)
  balanced_passes others l b agree zero h = b.3
  balanced_passes others l b agree (suc i) h =
      passes_from m (value m b.0) known (points_from m 1 (length given)) given points_long long
      (λ j a t. ap (value m b.0) (point_is j (omega arith)) ∙ b.4 j (omega arith) ∙ agree j a t) i (le_of_suc-le-suc h)

  -- the own challenge and the known children's determine a balanced gate
  pub determined : (xs ys : List E) → length xs ≡ length given → length ys ≡ length given → Balanced m (missing known) own xs → Balanced m (missing known) own ys
      → Agree m known xs given → Agree m known ys given → xs ≡ ys
  determined xs ys l k b c agree agree' =
      let n = length given - missing known + 1 in
      let same : (x : E) → T (m.member x) → value m b.0 x ≡ value m c.0 x =
      agree_everywhere laws n (value m b.0) (value m c.0)
      (b.0, b.1 ∙ ap (λ n. n - missing known + 1) l, b.2, λ x h. refl) (c.0, c.1 ∙ ap (λ n. n - missing known + 1) k, c.2, λ x h. refl)
      (nodes m own known given) nodes_in nodes_apart (omega (arith, nodes_long))
      (λ i h. balanced_passes xs l b agree i h ∙ sym (balanced_passes ys k c agree' i h)) in
      ext_get_or m.zero xs ys (l ∙ sym k)
      (λ j h. sym (b.4 j h) ∙ same (m.point (j + 1)) (laws.point_in (j + 1) (omega arith)) ∙ c.4 j (omega arith))

  pub solved_from : (ns fs vs cs points after : List E) → ns ≡ nodes m own known given → fs ≡ nodes m own known given → vs ≡ values m own known given → points ≡ points_from m 1 (length given)
      → Polynomial m (length ns) (newton m ns cs) → Passes m (newton m ns cs) ns vs
      → ((j : ℕ) → j < length given → get_or after j m.zero ≡ cond (get_or known j false) (get_or given j m.zero) (newton m fs cs (get_or points j m.zero)))
      → Solved m own known given (nodes m own known given) (values m own known given) cs after
  solved_from ns fs vs cs points after en ef ev ep polynomial passes filled =
      subst (λ u. Solved m own known given u (values m own known given) cs after) en
      (subst (λ u. Solved m own known given ns u cs after) ev (
        polynomial,
        passes,
        λ j l. filled j l ∙ ap₂ (λ u v. cond (get_or known j false) (get_or given j m.zero) (newton m u cs (get_or v j m.zero))) (ef ∙ sym en) ep,
      ))

  module _ (cs after : List E) (after-long : length after ≡ length given) (solved : Solved m own known given (nodes m own known given) (values m own known given) cs after) where
    -- the polynomial has every child's challenge at its point
    pub child_is : (j : ℕ) → j < length given → newton m (nodes m own known given) cs (m.point (j + 1)) ≡ get_or after j m.zero
    child_is j l =
        let form = newton m (nodes m own known given) cs in
        let at : get_or after j m.zero ≡ form (get_or (points_from m 1 (length given)) j m.zero) = by_mark (get_or known j false) (solved.2 j l)
        (passes_at m form known (points_from m 1 (length given)) given points_long long (λ i h. solved.1 (suc i) (suc-le-suc h)) j (omega arith)) in
        ap form (sym (point_is j l)) ∙ sym at

    pub is_balanced : Balanced m (missing known) own after
    is_balanced =
        let p = solved.0 in (
          p.0,
          p.1 ∙ nodes_long ∙ ap (λ n. n - missing known + 1) (sym after-long),
          p.2,
          p.3 (m.point 0) (laws.point_in 0 (omega arith)) ∙ solved.1 zero (suc-le-suc zero-le),
          λ j l. p.3 (m.point (j + 1)) (laws.point_in (j + 1) (omega arith)) ∙ child_is j (omega arith),
        )

    pub is_kept : Agree m known after given
    is_kept j l t = marked_is (get_or known j false) (get_or given j m.zero) _ (get_or after j m.zero) (solved.2 j (omega arith)) t

    pub is_in : Members m after
    is_in j l =
        let p = solved.0 in
        let at = m.point (j + 1) in
        let at_in = laws.point_in (j + 1) (omega arith) in
        subst (λ y. T (m.member y)) (p.3 at at_in ∙ child_is j (omega arith)) (value_in laws p.0 p.2 at at_in)

    pub is_only : (others : List E) → length others ≡ length given → Balanced m (missing known) own others → Agree m known others given → others ≡ after
    is_only others l b agree = determined others after l after-long b is_balanced agree is_kept
