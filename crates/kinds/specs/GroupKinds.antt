-- The three kinds over a group with bases g and h.
--   single   width 1: the image of (w, 0) is g^w
--   twin     width 1: the image of (w, 0) is g^w, h^w
--   mixed    width 2: the image of (u, v) is g^u h^v
--   form_kind m g f                   the kind of the form f
--   form_set m g f                    the set of this one kind
--   single_set, twin_set, mixed_set   the three such sets
-- An image is the words of one element and two zeros, at twin the words of two elements.
use Rattle.std.specs.Prelude.{cond, ◌&&◌, Some, None, Option, ◌==◌}
use Rattle.groups.specs.Monoids.{MonoidModel, power}
use Rattle.groups.specs.Groups.{GroupModel}
use Rattle.kinds.specs.Kinds.{Kind, KindModel}
use Rattle.kinds.specs.Coded.{Coding, coded, alone}
use Rattle.kinds.specs.declared.form.Form.{Form}
use Rattle.kinds.specs.declared.form.Form.TheVariants.{Single, Twin, Mixed}

-- one element
abbrev pub one_element : {E : Type 0} → GroupModel E → Coding E
one_element g = record {
  encode = λ x. record { 0 = g.words x; 1 = (0, 0) };
  decode = λ i. cond (i.1.0 == 0 && i.1.1 == 0) (g.reads i.0) None;
}

-- two elements
abbrev pub paired : {E : Type 0} → Option E → Option E → Option (E × E)
paired None y = None
paired (Some x) None = None
paired (Some x) (Some y) = Some (x, y)

abbrev pub two_elements : {E : Type 0} → GroupModel E → Coding (E × E)
two_elements g = record {
  encode = λ x. record { 0 = g.words x.0; 1 = g.words x.1 };
  decode = λ i. paired (g.reads i.0) (g.reads i.1);
}

-- pairs of elements, multiplied element by element
abbrev pub pairs : {E : Type 0} → MonoidModel E → MonoidModel (E × E)
pairs m = record {
  member = λ x. m.member x.0 && m.member x.1;
  one = (m.one, m.one);
  times = λ x y. (m.times x.0 y.0, m.times x.1 y.1);
}

module _ {E : Type 0} (m : MonoidModel E) (g : GroupModel E) where
  abbrev pub single : Kind
  single = coded g.order 1 m (one_element g) (λ w. power m g.base_g w.0.0)

  abbrev pub twin : Kind
  twin = coded g.order 1 (pairs m) (two_elements g) (λ w. (power m g.base_g w.0.0, power m g.base_h w.0.0))

  abbrev pub mixed : Kind
  mixed = coded g.order 2 m (one_element g) (λ w. m.times (power m g.base_g w.0.0) (power m g.base_h w.1.0))

  abbrev pub form_kind : Form → Kind
  form_kind Single = single
  form_kind Twin = twin
  form_kind Mixed = mixed

  abbrev pub form_set : Form → KindModel
  form_set f = alone g.order (form_kind f)

  abbrev pub single_set : KindModel
  single_set = form_set Single

  abbrev pub twin_set : KindModel
  twin_set = form_set Twin

  abbrev pub mixed_set : KindModel
  mixed_set = form_set Mixed
