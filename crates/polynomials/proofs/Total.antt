-- A field whose operations are total, and the elements of a lawful field as one: what the algebra is done over.
--   TotalField      operations on a whole type, with the laws of a commutative field
--   Element m       the values of a field that are elements of it
--   elements laws   the elements of a lawful field, as a TotalField
use Rattle.std.proofs.Common.{◌≡◌, T}
use mathlib.Core.HLevel.{is_prop→PathP}
use lib.Dec.{T_prop}
use Rattle.fields.specs.Fields.{FieldModel, FieldLaws}

pub record TotalField : Type 1 where
  pub car : Type 0
  pub zero : car
  pub one : car
  pub plus : car → car → car
  pub negative : car → car
  pub times : car → car → car
  pub plus_assoc : (x y z : car) → plus (plus x y) z ≡ plus x (plus y z)
  pub plus_comm : (x y : car) → plus x y ≡ plus y x
  pub plus_zero : (x : car) → plus x zero ≡ x
  pub plus_negative : (x : car) → plus x (negative x) ≡ zero
  pub times_assoc : (x y z : car) → times (times x y) z ≡ times x (times y z)
  pub times_comm : (x y : car) → times x y ≡ times y x
  pub times_one : (x : car) → times x one ≡ x
  pub times_plus : (x y z : car) → times x (plus y z) ≡ plus (times x y) (times x z)
  pub inverse : (x : car) → ¬ (x ≡ zero) → (y : car) × (times x y ≡ one)

module _ {E : Type 0} (m : FieldModel E) where
  pub record Element : Type 0 where
    pub raw : E
    pub is_in : T (m.member raw)

-- an element is told by its value alone: that it is one has one proof
pub same_element : {E : Type 0} {m : FieldModel E} {x y : Element m} → x.raw ≡ y.raw → x ≡ y
same_element {m = m} {x = x} {y = y} e =
    λ i. record { raw = e i; is_in = is_prop→PathP (λ i. T (m.member (e i))) (λ i. T_prop (m.member (e i))) x.is_in y.is_in i }

module _ {E : Type 0} {m : FieldModel E} (laws : FieldLaws m) where
  abbrev pub element : (x : E) → T (m.member x) → Element m
  element x h = record { raw = x; is_in = h }

  abbrev pub elements : TotalField
  elements = record {
    car = Element m;
    zero = element m.zero laws.zero_in;
    one = element m.one laws.one_in;
    plus = λ x y. element (m.plus x.raw y.raw) (laws.plus_in x.raw y.raw x.is_in y.is_in);
    negative = λ x. element (m.negative x.raw) (laws.negative_in x.raw x.is_in);
    times = λ x y. element (m.times x.raw y.raw) (laws.times_in x.raw y.raw x.is_in y.is_in);
    plus_assoc = λ x y z. same_element (laws.plus_assoc x.raw y.raw z.raw x.is_in y.is_in z.is_in);
    plus_comm = λ x y. same_element (laws.plus_comm x.raw y.raw x.is_in y.is_in);
    plus_zero = λ x. same_element (laws.plus_zero x.raw x.is_in);
    plus_negative = λ x. same_element (laws.plus_negative x.raw x.is_in);
    times_assoc = λ x y z. same_element (laws.times_assoc x.raw y.raw z.raw x.is_in y.is_in z.is_in);
    times_comm = λ x y. same_element (laws.times_comm x.raw y.raw x.is_in y.is_in);
    times_one = λ x. same_element (laws.times_one x.raw x.is_in);
    times_plus = λ x y z. same_element (laws.times_plus x.raw y.raw z.raw x.is_in y.is_in z.is_in);
    inverse = λ x n.
        let y = laws.inverse x.raw x.is_in (λ e. n (same_element e)) in
        (element y.0 y.1, same_element y.2);
  }
