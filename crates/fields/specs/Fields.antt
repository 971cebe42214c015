-- A commutative field with nine different points, as one value and the laws that it keeps.
--   FieldModel E   the operations of a field whose elements are some of the values of E:
--                  member (which values are elements), zero, one, plus, negative, times,
--                  point j (the element at which child j of a gate stands; a gate itself stands at point 0)
--   minus m x y    x + (-y)
--   FieldLaws m    the laws of a commutative field, on elements; the points 0 to 8 differ
use Rattle.std.specs.Prelude.{◌≡◌, ℕ, ◌≤◌, Bool, T}

pub record FieldModel (E : Type 0) : Type 0 where
  pub member : E → Bool
  pub zero : E
  pub one : E
  pub plus : E → E → E
  pub negative : E → E
  pub times : E → E → E
  pub point : ℕ → E

abbrev pub minus : {E : Type 0} → FieldModel E → E → E → E
minus m x y = m.plus x (m.negative y)

pub record FieldLaws {E : Type 0} (m : FieldModel E) : Type 0 where
  pub zero_in : T (m.member m.zero)
  pub one_in : T (m.member m.one)
  pub plus_in : (x y : E) → T (m.member x) → T (m.member y) → T (m.member (m.plus x y))
  pub negative_in : (x : E) → T (m.member x) → T (m.member (m.negative x))
  pub times_in : (x y : E) → T (m.member x) → T (m.member y) → T (m.member (m.times x y))
  pub plus_assoc : (x y z : E) → T (m.member x) → T (m.member y) → T (m.member z) → m.plus (m.plus x y) z ≡ m.plus x (m.plus y z)
  pub plus_comm : (x y : E) → T (m.member x) → T (m.member y) → m.plus x y ≡ m.plus y x
  pub plus_zero : (x : E) → T (m.member x) → m.plus x m.zero ≡ x
  pub plus_negative : (x : E) → T (m.member x) → m.plus x (m.negative x) ≡ m.zero
  pub times_assoc : (x y z : E) → T (m.member x) → T (m.member y) → T (m.member z) → m.times (m.times x y) z ≡ m.times x (m.times y z)
  pub times_comm : (x y : E) → T (m.member x) → T (m.member y) → m.times x y ≡ m.times y x
  pub times_one : (x : E) → T (m.member x) → m.times x m.one ≡ x
  pub times_plus : (x y z : E) → T (m.member x) → T (m.member y) → T (m.member z) → m.times x (m.plus y z) ≡ m.plus (m.times x y) (m.times x z)
  -- every element but zero has an inverse
  pub inverse : (x : E) → T (m.member x) → ¬ (x ≡ m.zero) → (y : E) × T (m.member y) × (m.times x y ≡ m.one)
  pub one_apart : ¬ (m.one ≡ m.zero)
  pub same? : (x y : E) → Dec (x ≡ y)
  pub point_in : (j : ℕ) → j ≤ 8 → T (m.member (m.point j))
  pub point_zero : m.point 0 ≡ m.zero
  pub points_apart : (i j : ℕ) → i ≤ 8 → j ≤ 8 → m.point i ≡ m.point j → i ≡ j
