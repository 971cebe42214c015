-- Any values at different points lie on a polynomial with as many coefficients as there are points.
use Rattle.std.proofs.Common.{◌≡◌, ℕ, zero, suc, ◌+◌, ◌<◌, ◌≤◌, T, List, length, get_or, take, set, ◌∙◌, arith, length-set}
use native.Mathlib.Decide.{dec_le}
use Rattle.std.proofs.lemmas.List.{get_or-take, length-take-le}
use Rattle.fields.specs.Fields.{FieldModel, FieldLaws, minus}
use Rattle.polynomials.specs.Polynomials.{Members, Apart, Passes, Polynomial, newton, weight}
use Rattle.polynomials.proofs.Carried.{newton_in, weight_in, weight_apart, newton_polynomial}
use Rattle.polynomials.proofs.Steps.{Begun, members_take, begun_first, begun_more, begun_all}
use Rattle.releases.proofs.Arithmetic.{minus_in, quotient}

module _ {E : Type 0} {m : FieldModel E} (laws : FieldLaws m) (points given : List E) (long : length points ≡ length given)
    (points-in : Members m points) (given-in : Members m given) (apart : Apart m points) where
  -- the coefficient for one point more
  next : (i : ℕ) → i < length points → (values : List E) → length points ≡ length values → Begun m points given values i
      → (c : E) × T (m.member c)
      × (m.times c (weight m (take i points) (get_or points i m.zero))
      ≡ minus m (get_or values i m.zero) (newton m (take i points) (take i values) (get_or points i m.zero)))
  next i l values e b =
      let ns = take i points in
      let x = get_or points i m.zero in
      let ns_in = members_take m points i (omega arith) points-in in
      let w = weight m ns x in
      let w-in = weight_in laws ns ns_in x (points-in i l) in
      let y = minus m (get_or values i m.zero) (newton m ns (take i values) x) in
      let y-in = minus_in laws _ _ (b.0 i (omega arith)) (newton_in laws ns (take i values) ns_in (members_take m values i (omega arith) b.0) x (points-in i l)) in
      let o = quotient laws w y w-in y-in (weight_apart laws ns ns_in x (points-in i l) away) in
      (o.0, o.1, laws.times_comm o.0 w o.1 w-in ∙ o.2)
    where
      away : (j : ℕ) → j < length (take i points) → ¬ (get_or points i m.zero ≡ get_or (take i points) j m.zero)
      away j h f =
          let k : j < i = omega (arith, length-take-le i points (omega arith)) in
          let same : i ≡ j = apart i j l (omega arith) (f ∙ get_or-take i points j m.zero k) in
          omega arith

  abbrev Through : List E → Type 0
  Through cs = (length points ≡ length cs) × Members m cs × Passes m (newton m points cs) points given

  loop : (d i : ℕ) (values : List E) → length points ≤ i + d → length points ≡ length values → Begun m points given values i → (cs : List E) × Through cs
  loop zero i values h e b = (values, (e, b.0, begun_all laws points given values i e (omega arith) b))
  loop (suc d) i values h e b = go (dec_le (suc i) (length points)) (λ next-values r s. loop d (i + 1) next-values (omega arith) r s)
    where
      go : Dec (i < length points) → ((vs : List E) → length points ≡ length vs → Begun m points given vs (i + 1) → (cs : List E) × Through cs) → (cs : List E) × Through cs
      go (yes l) more =
          let c = next i l values e b in
          more (set values i c.0) (omega (arith, length-set values i c.0))
          (begun_more laws points given values i c.0 e points-in c.1 l c.2 b)
      go (no l) more = (values, (e, b.0, begun_all laws points given values i e (omega arith) b))

  pub through : (cs : List E) × Polynomial m (length points) (newton m points cs) × Passes m (newton m points cs) points given
  through =
      let o = loop (length points) 1 given (omega arith) long (begun_first laws points given long points-in given-in) in
      (o.0, newton_polynomial laws points o.0 points-in o.1.1 o.1.0, o.1.2)
