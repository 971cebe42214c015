-- The elements of a commutative monoid whose q-th power is neutral are a monoid of exponent q.
use Rattle.std.specs.Prelude.{◌≡◌, ℕ, zero, suc, Bool, T}
use Rattle.std.proofs.Math.Path.{refl, sym, ap}
use Rattle.std.proofs.Common.{ap₂, ◌∙◌}
use Rattle.groups.specs.Monoids.{MonoidModel, MonoidLaws, power}
use Rattle.groups.specs.Powers.{power_in}
use Rattle.groups.specs.Ambients.{Torsion, elements}

module _ {E : Type 0} {m : MonoidModel E} (laws : MonoidLaws m) where
  abbrev In : E → Type 0
  In x = T (m.member x)

  pub power_one : T (m.member m.one) → (k : ℕ) → power m m.one k ≡ m.one
  unfolding power
  power_one h zero = refl
  power_one h (suc k) = laws.one_left (power m m.one k) (power_in laws m.one k h) ∙ power_one h k

  -- (xy)(ab) = (xa)(yb)
  pub exchange : (x y a b : E) → In x → In y → In a → In b → m.times (m.times x y) (m.times a b) ≡ m.times (m.times x a) (m.times y b)
  exchange x y a b hx hy ha hb =
      let ab = laws.times_in a b ha hb in
      let yb = laws.times_in y b hy hb in
      laws.assoc x y (m.times a b) hx hy ab
      ∙ ap (m.times x) (sym (laws.assoc y a b hy ha hb) ∙ ap (λ u. m.times u b) (laws.comm y a hy ha) ∙ laws.assoc a y b ha hy hb)
      ∙ sym (laws.assoc x a (m.times y b) hx ha yb)

  pub power_times : (x y : E) (k : ℕ) → In x → In y → power m (m.times x y) k ≡ m.times (power m x k) (power m y k)
  unfolding power
  power_times x y zero hx hy = sym (laws.one_left m.one (laws.one_in x hx))
  power_times x y (suc k) hx hy =
      ap (m.times (m.times x y)) (power_times x y k hx hy)
      ∙ exchange x y (power m x k) (power m y k) hx hy (power_in laws x k hx) (power_in laws y k hy)

module _ {E : Type 0} {m : MonoidModel E} (laws : MonoidLaws m) {q : ℕ} {element : E → Bool} (t : Torsion m q element) where
  same_power : (x : E) (k : ℕ) → power (elements m element) x k ≡ power m x k
  unfolding power
  same_power x zero = refl
  same_power x (suc k) = ap (m.times x) (same_power x k)

  pub torsion_ordered : (x : E) → T (element x) → power (elements m element) x q ≡ m.one
  torsion_ordered x h = same_power x q ∙ t.turns x h

  pub torsion_laws : MonoidLaws (elements m element)
  torsion_laws = record {
    one_in = λ x hx. let one = laws.one_in x (t.inside x hx) in t.back m.one one (power_one laws one q);
    times_in = λ x y hx hy.
        let ix = t.inside x hx in
        let iy = t.inside y hy in
        t.back (m.times x y) (laws.times_in x y ix iy)
        (power_times laws x y q ix iy ∙ ap₂ m.times (t.turns x hx) (t.turns y hy) ∙ laws.one_left m.one (laws.one_in x ix));
    assoc = λ x y z hx hy hz. laws.assoc x y z (t.inside x hx) (t.inside y hy) (t.inside z hz);
    comm = λ x y hx hy. laws.comm x y (t.inside x hx) (t.inside y hy);
    one_left = λ x hx. laws.one_left x (t.inside x hx);
  }
