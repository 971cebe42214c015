-- Differences and quotients in a field.
use Rattle.std.proofs.Common.{◌≡◌, T, sym, ap, ◌∙◌}
use Rattle.fields.specs.Fields.{FieldModel, FieldLaws, minus}

module _ {E : Type 0} {m : FieldModel E} (laws : FieldLaws m) where
  abbrev In : E → Type 0
  In x = T (m.member x)

  pub minus_in : (x y : E) → In x → In y → In (minus m x y)
  minus_in x y hx hy = laws.plus_in x (m.negative y) hx (laws.negative_in y hy)

  -- (a - b) + b = a
  pub minus_plus : (a b : E) → In a → In b → m.plus (minus m a b) b ≡ a
  minus_plus a b ha hb =
      let hn = laws.negative_in b hb in
      laws.plus_assoc a (m.negative b) b ha hn hb
      ∙ ap (m.plus a) (laws.plus_comm (m.negative b) b hn hb ∙ laws.plus_negative b hb) ∙ laws.plus_zero a ha

  -- (a + b) - b = a
  pub plus_minus : (a b : E) → In a → In b → minus m (m.plus a b) b ≡ a
  plus_minus a b ha hb =
      laws.plus_assoc a b (m.negative b) ha hb (laws.negative_in b hb) ∙ ap (m.plus a) (laws.plus_negative b hb) ∙ laws.plus_zero a ha

  pub minus_apart : (a b : E) → In a → In b → ¬ (a ≡ b) → ¬ (minus m a b ≡ m.zero)
  minus_apart a b ha hb ne e =
      ne (sym (minus_plus a b ha hb) ∙ ap (λ u. m.plus u b) e ∙ laws.plus_comm m.zero b laws.zero_in hb ∙ laws.plus_zero b hb)

  pub times_zero : (a : E) → In a → m.times a m.zero ≡ m.zero
  times_zero a ha =
      let z = m.zero in
      let hz = laws.zero_in in
      let p = m.times a z in
      let hp = laws.times_in a z ha hz in
      let doubled : m.plus p p ≡ p = sym (laws.times_plus a z z ha hz hz) ∙ ap (m.times a) (laws.plus_zero z hz) in
      sym (plus_minus p p hp hp) ∙ ap (λ u. minus m u p) doubled ∙ laws.plus_negative p hp

  -- exactly one x with d · x = y
  pub quotient : (d y : E) → In d → In y → ¬ (d ≡ m.zero) → (x : E) × In x × (m.times d x ≡ y)
  quotient d y hd hy ne =
      let i = laws.inverse d hd ne in (
        m.times i.0 y,
        laws.times_in i.0 y i.1 hy,
        sym (laws.times_assoc d i.0 y hd i.1 hy) ∙ ap (λ u. m.times u y) i.2 ∙ laws.times_comm m.one y laws.one_in hy ∙ laws.times_one y hy,
      )

  pub cancel_times : (d x y : E) → In d → In x → In y → ¬ (d ≡ m.zero) → m.times d x ≡ m.times d y → x ≡ y
  cancel_times d x y hd hx hy ne e =
      let i = laws.inverse d hd ne in
      let back : (z : E) → In z → m.times i.0 (m.times d z) ≡ z =
      λ z hz. sym (laws.times_assoc i.0 d z i.1 hd hz) ∙ ap (λ u. m.times u z) (laws.times_comm i.0 d i.1 hd ∙ i.2)
      ∙ laws.times_comm m.one z laws.one_in hz ∙ laws.times_one z hz in
      sym (back x hx) ∙ ap (m.times i.0) e ∙ back y hy
