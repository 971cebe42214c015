-- A commutative monoid, as one value and its laws, and powers in it.
--   MonoidModel E   its elements are some of the values of E: member, one (the neutral element), times
--   MonoidLaws m    products of elements are elements, associative and commutative; one changes nothing
--   power m x k     x multiplied k times
use Rattle.std.specs.Prelude.{◌≡◌, ℕ, zero, suc, Bool, T}

pub record MonoidModel (E : Type 0) : Type 0 where
  pub member : E → Bool
  pub one : E
  pub times : E → E → E

unfoldable pub power : {E : Type 0} → MonoidModel E → E → ℕ → E
power m x zero = m.one
power m x (suc k) = m.times x (power m x k)

pub record MonoidLaws {E : Type 0} (m : MonoidModel E) : Type 0 where
  -- where there is an element at all, the neutral one is one
  pub one_in : (x : E) → T (m.member x) → T (m.member m.one)
  pub times_in : (x y : E) → T (m.member x) → T (m.member y) → T (m.member (m.times x y))
  pub assoc : (x y z : E) → T (m.member x) → T (m.member y) → T (m.member z) → m.times (m.times x y) z ≡ m.times x (m.times y z)
  pub comm : (x y : E) → T (m.member x) → T (m.member y) → m.times x y ≡ m.times y x
  pub one_left : (x : E) → T (m.member x) → m.times m.one x ≡ x
