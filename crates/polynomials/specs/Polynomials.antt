-- Polynomials over a field, by their coefficients, lowest first.
--   value m cs x          the value at x, by Horner's rule
--   Members m xs          every entry of xs is an element of the field
--   Apart m xs            no two entries of xs are the same
--   Passes m f xs ys      f has the values ys at the points xs
--   Vanishes m f xs       f is zero at the points xs
--   Polynomial m n f      f is the value of a polynomial with n coefficients
--   newton m ns cs x      the value at x in Newton's form on the nodes ns, a0, a1 and so on: c0 + (x - a0)(c1 + (x - a1)(c2 + ..))
--   weight m ns x         (x - a0)(x - a1)(x - a2)..
use Rattle.std.specs.Prelude.{◌≡◌, ℕ, ◌<◌, T, List, [], ◌∷◌, length, slice_index_or}
use Rattle.fields.specs.Fields.{FieldModel, minus}

module _ {E : Type 0} (m : FieldModel E) where
  abbrev pub value : List E → E → E
  value [] x = m.zero
  value (c ∷ cs) x = m.plus c (m.times x (value cs x))

  abbrev pub Members : List E → Type 0
  Members xs = (i : ℕ) → i < length xs → T (m.member (slice_index_or xs i m.zero))

  abbrev pub Apart : List E → Type 0
  Apart xs = (i j : ℕ) → i < length xs → j < length xs → slice_index_or xs i m.zero ≡ slice_index_or xs j m.zero → i ≡ j

  abbrev pub Passes : (E → E) → List E → List E → Type 0
  Passes f xs ys = (i : ℕ) → i < length xs → f (slice_index_or xs i m.zero) ≡ slice_index_or ys i m.zero

  abbrev pub Vanishes : (E → E) → List E → Type 0
  Vanishes f xs = (i : ℕ) → i < length xs → f (slice_index_or xs i m.zero) ≡ m.zero

  abbrev pub Polynomial : ℕ → (E → E) → Type 0
  Polynomial n f = (cs : List E) × (length cs ≡ n) × Members cs × ((x : E) → T (m.member x) → value cs x ≡ f x)

  abbrev pub newton : List E → List E → E → E
  newton [] cs x = m.zero
  newton (n ∷ ns) [] x = m.zero
  newton (n ∷ ns) (c ∷ cs) x = m.plus c (m.times (minus m x n) (newton ns cs x))

  abbrev pub weight : List E → E → E
  weight [] x = m.one
  weight (n ∷ ns) x = m.times (minus m x n) (weight ns x)
