-- Dividing by an inverse: the product with it, times the divisor, is the dividend.
use Rattle.std.proofs.Common.{◌≡◌, T, sym, ap, ◌∙◌}
use Rattle.fields.specs.Fields.{FieldModel, FieldLaws}

module _ {E : Type 0} {m : FieldModel E} (laws : FieldLaws m) where
  pub divided : (by inverse x : E) → T (m.member by) → T (m.member inverse) → T (m.member x) → m.times inverse by ≡ m.one → m.times by (m.times inverse x) ≡ x
  divided by inverse x hb hi hx e =
      sym (laws.times_assoc by inverse x hb hi hx) ∙ ap (λ u. m.times u x) (laws.times_comm by inverse hb hi ∙ e)
      ∙ laws.times_comm m.one x laws.one_in hx ∙ laws.times_one x hx
