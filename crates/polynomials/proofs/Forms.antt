-- Over a total field: Newton's form, its coefficients as a plain polynomial, and one node more.
--   form K ns cs x     c0 + (x - a0)(c1 + (x - a1)(c2 + ..))
--   factors K ns x     (x - a0)(x - a1)(x - a2)..
use Rattle.std.proofs.Common.{◌≡◌, ℕ, zero, suc, ◌<◌, List, [], ◌∷◌, ◌++◌, length, get_or, refl, ap, ◌∙◌, le_of_suc-le-suc, not-suc-le-zero, arith}
use Rattle.polynomials.proofs.Total.{TotalField}
use Rattle.polynomials.proofs.Ring.{ring, times_nought}
use Rattle.polynomials.proofs.Ring.{var, 𝟘, 𝟙, ◌⊕◌, ◌⊗◌, ◌⊖◌}
use Rattle.polynomials.proofs.Roots.{eval, All, difference_apart, no_divisor}

abbrev pub form : (K : TotalField) → List K.car → List K.car → K.car → K.car
form K [] cs x = K.zero
form K (n ∷ ns) [] x = K.zero
form K (n ∷ ns) (c ∷ cs) x = K.plus c (K.times (K.plus x (K.negative n)) (form K ns cs x))

abbrev pub factors : (K : TotalField) → List K.car → K.car → K.car
factors K [] x = K.one
factors K (n ∷ ns) x = K.times (K.plus x (K.negative n)) (factors K ns x)

module _ (K : TotalField) where
  open K use {car, zero as nought, one, plus as ◌+◌, negative as neg, times as ◌*◌}

  infixl 60 ◌+◌
  infixl 70 ◌*◌
  -- y + (x - a) q(x)
  abbrev lift : car → car → List car → List car
  lift y a [] = y ∷ []
  lift y a (c ∷ q) = (y + neg (a * c)) ∷ lift c a q

  length_lift : (y a : car) (q : List car) → length (lift y a q) ≡ suc (length q)
  length_lift y a [] = refl
  length_lift y a (c ∷ q) = ap suc (length_lift c a q)

  eval_lift : (y a : car) (q : List car) (x : car) → eval K (lift y a q) x ≡ y + (x + neg a) * eval K q x
  eval_lift y a [] x = ring K (x ∷ a ∷ y ∷ []) (var 2 ⊕ var 0 ⊗ 𝟘) (var 2 ⊕ (var 0 ⊖ var 1) ⊗ 𝟘) refl
  eval_lift y a (c ∷ q) x =
      ap (λ u. (y + neg (a * c)) + x * u) (eval_lift c a q x)
      ∙ ring K (x ∷ a ∷ y ∷ c ∷ eval K q x ∷ []) ((var 2 ⊖ var 1 ⊗ var 3) ⊕ var 0 ⊗ (var 3 ⊕ (var 0 ⊖ var 1) ⊗ var 4))
      (var 2 ⊕ (var 0 ⊖ var 1) ⊗ (var 3 ⊕ var 0 ⊗ var 4)) refl

  -- the coefficients of a form as a plain polynomial
  abbrev pub plain : List car → List car → List car
  plain [] cs = []
  plain (n ∷ ns) [] = []
  plain (n ∷ ns) (c ∷ cs) = lift c n (plain ns cs)

  pub length_plain : (ns cs : List car) → length ns ≡ length cs → length (plain ns cs) ≡ length cs
  length_plain [] cs l = l
  length_plain (n ∷ ns) [] l = refl
  length_plain (n ∷ ns) (c ∷ cs) l = length_lift c n (plain ns cs) ∙ ap suc (length_plain ns cs (omega arith))

  pub eval_plain : (ns cs : List car) (x : car) → eval K (plain ns cs) x ≡ form K ns cs x
  eval_plain [] cs x = refl
  eval_plain (n ∷ ns) [] x = refl
  eval_plain (n ∷ ns) (c ∷ cs) x = eval_lift c n (plain ns cs) x ∙ ap (λ u. c + (x + neg n) * u) (eval_plain ns cs x)

  -- one node and one coefficient more
  pub form_push : (ns cs : List car) (n c : car) → length ns ≡ length cs → (x : car)
      → form K (ns ++ (n ∷ [])) (cs ++ (c ∷ [])) x ≡ form K ns cs x + c * factors K ns x
  form_push [] [] n c l x = ring K (x ∷ n ∷ c ∷ []) (var 2 ⊕ (var 0 ⊖ var 1) ⊗ 𝟘) (𝟘 ⊕ var 2 ⊗ 𝟙) refl
  form_push [] (d ∷ cs) n c l x = absurd (omega arith)
  form_push (b ∷ ns) [] n c l x = absurd (omega arith)
  form_push (b ∷ ns) (d ∷ cs) n c l x =
      ap (λ u. d + (x + neg b) * u) (form_push ns cs n c (omega arith) x)
      ∙ ring K (x ∷ b ∷ d ∷ c ∷ form K ns cs x ∷ factors K ns x ∷ [])
      (var 2 ⊕ (var 0 ⊖ var 1) ⊗ (var 4 ⊕ var 3 ⊗ var 5)) ((var 2 ⊕ (var 0 ⊖ var 1) ⊗ var 4) ⊕ var 3 ⊗ ((var 0 ⊖ var 1) ⊗ var 5)) refl

  -- the one node: the form is its coefficient
  pub form_one : (n c x : car) → form K (n ∷ []) (c ∷ []) x ≡ c
  form_one n c x = ring K (x ∷ n ∷ c ∷ []) (var 2 ⊕ (var 0 ⊖ var 1) ⊗ 𝟘) (var 2) refl

  -- the factors vanish at the nodes, and nowhere else
  pub factors_at : (ns : List car) (j : ℕ) → j < length ns → factors K ns (get_or ns j nought) ≡ nought
  factors_at [] j l = absurd (not-suc-le-zero l)
  factors_at (n ∷ ns) zero l = ring K (n ∷ factors K ns n ∷ []) ((var 0 ⊖ var 0) ⊗ var 1) 𝟘 refl
  factors_at (n ∷ ns) (suc j) l =
      let x = get_or ns j nought in ap (λ u. (x + neg n) * u) (factors_at ns j (le_of_suc-le-suc l)) ∙ times_nought K (x + neg n)

  pub factors_apart : (ns : List car) (x : car) → ¬ (one ≡ nought) → All (λ n. ¬ (x ≡ n)) ns → ¬ (factors K ns x ≡ nought)
  factors_apart [] x o a e = o e
  factors_apart (n ∷ ns) x o a e = factors_apart ns x o a.1 (no_divisor K (x + neg n) (factors K ns x) (difference_apart K a.0) e)

  -- with the coefficient that fits, the form takes the value y at the new node
  pub form_push_new : (ns cs : List car) (n c y : car) → length ns ≡ length cs → c * factors K ns n ≡ y + neg (form K ns cs n)
      → form K (ns ++ (n ∷ [])) (cs ++ (c ∷ [])) n ≡ y
  form_push_new ns cs n c y l h =
      form_push ns cs n c l n ∙ ap (λ u. form K ns cs n + u) h
      ∙ ring K (y ∷ form K ns cs n ∷ []) (var 1 ⊕ (var 0 ⊖ var 1)) (var 0) refl

  -- and keeps the values at the old ones
  pub form_push_old : (ns cs : List car) (n c x : car) → length ns ≡ length cs → factors K ns x ≡ nought
      → form K (ns ++ (n ∷ [])) (cs ++ (c ∷ [])) x ≡ form K ns cs x
  form_push_old ns cs n c x l h =
      form_push ns cs n c l x ∙ ap (λ u. form K ns cs x + c * u) h
      ∙ ring K (c ∷ form K ns cs x ∷ []) (var 1 ⊕ var 0 ⊗ 𝟘) (var 1) refl
