-- Over a total field: the value of a polynomial, division by x - a, and few roots.
--   eval K cs x     the value at x of the polynomial with these coefficients, lowest first
--   All P xs        P holds of every entry
--   Distinct xs     no two entries are the same
use Rattle.std.proofs.Common.{◌≡◌, suc, ◌≤◌, List, [], ◌∷◌, length, sym, refl, ap, ◌∙◌, ap₂, le_of_suc-le-suc, not-suc-le-zero, arith}
use Rattle.polynomials.proofs.Total.{TotalField}
use Rattle.polynomials.proofs.Ring.{ring, combine, nought_plus, times_nought}
use Rattle.polynomials.proofs.Ring.{var, 𝟘, 𝟙, ◌⊕◌, ◌⊗◌, ⊝◌, ◌⊖◌}

abbrev pub eval : (K : TotalField) → List K.car → K.car → K.car
eval K [] x = K.zero
eval K (c ∷ cs) x = K.plus c (K.times x (eval K cs x))

abbrev pub All : {A : Type 0} → (A → Type 0) → List A → Type 0
All P [] = Unit {0}
All P (x ∷ xs) = P x × All P xs

abbrev pub Away : {A : Type 0} → A → List A → Type 0
Away a xs = All (λ x. ¬ (x ≡ a)) xs

abbrev pub Distinct : {A : Type 0} → List A → Type 0
Distinct [] = Unit {0}
Distinct (x ∷ xs) = Away x xs × Distinct xs

module _ (K : TotalField) where
  open K use {car, zero as nought, one, plus as ◌+◌, negative as neg, times as ◌*◌}

  infixl 60 ◌+◌
  infixl 70 ◌*◌
  -- the quotient of c ∷ cs by x - a, whatever c
  abbrev quotient : car → List car → List car
  quotient a [] = []
  quotient a (d ∷ cs) = eval K (d ∷ cs) a ∷ quotient a cs

  length_quotient : (a : car) (cs : List car) → length (quotient a cs) ≡ length cs
  length_quotient a [] = refl
  length_quotient a (d ∷ cs) = ap suc (length_quotient a cs)

  divided_more : (x a d R S Q : car) → x * R + neg (a * S) ≡ (x + neg a) * Q
      → x * (d + x * R) + neg (a * (d + a * S)) ≡ (x + neg a) * ((d + a * S) + x * Q)
  divided_more x a d R S Q h =
      combine K (x ∷ a ∷ d ∷ R ∷ S ∷ Q ∷ [])
      (var 0 ⊗ (var 2 ⊕ var 0 ⊗ var 3) ⊖ var 1 ⊗ (var 2 ⊕ var 1 ⊗ var 4))
      ((var 0 ⊖ var 1) ⊗ ((var 2 ⊕ var 1 ⊗ var 4) ⊕ var 0 ⊗ var 5))
      (var 0) (var 0 ⊗ var 3 ⊖ var 1 ⊗ var 4) ((var 0 ⊖ var 1) ⊗ var 5) h refl

  divided : (a x : car) (cs : List car) → x * eval K cs x + neg (a * eval K cs a) ≡ (x + neg a) * eval K (quotient a cs) x
  divided a x [] = ring K (x ∷ a ∷ []) (var 0 ⊗ 𝟘 ⊖ var 1 ⊗ 𝟘) ((var 0 ⊖ var 1) ⊗ 𝟘) refl
  divided a x (d ∷ cs) = divided_more x a d (eval K cs x) (eval K cs a) (eval K (quotient a cs) x) (divided a x cs)

  -- p(x) = p(a) + (x - a) q(x)
  division : (a x c : car) (cs : List car) → eval K (c ∷ cs) x ≡ eval K (c ∷ cs) a + (x + neg a) * eval K (quotient a cs) x
  division a x c cs =
      ring K (x ∷ a ∷ c ∷ eval K cs x ∷ eval K cs a ∷ []) (var 2 ⊕ var 0 ⊗ var 3)
      ((var 2 ⊕ var 1 ⊗ var 4) ⊕ (var 0 ⊗ var 3 ⊖ var 1 ⊗ var 4)) refl
      ∙ ap (λ u. (c + a * eval K cs a) + u) (divided a x cs)

  -- x - a is zero only where x is a
  pub difference_apart : {x a : car} → ¬ (x ≡ a) → ¬ (x + neg a ≡ nought)
  difference_apart {x} {a} h e = h (combine K (x ∷ a ∷ []) (var 0) (var 1) 𝟙 (var 0 ⊖ var 1) 𝟘 e refl)

  pub no_divisor : (x y : car) → ¬ (x ≡ nought) → x * y ≡ nought → y ≡ nought
  no_divisor x y h e =
      let i = K.inverse x h in
      combine K (x ∷ y ∷ i.0 ∷ []) (var 1) (var 0 ⊗ var 2 ⊗ var 1) (⊝ var 1) (var 0 ⊗ var 2) 𝟙 i.1 refl
      ∙ combine K (x ∷ y ∷ i.0 ∷ []) (var 0 ⊗ var 2 ⊗ var 1) 𝟘 (var 2) (var 0 ⊗ var 1) 𝟘 e refl

  quotient_roots : (c : car) (cs : List car) (a : car) → eval K (c ∷ cs) a ≡ nought → (zs : List car) → Away a zs
      → All (λ z. eval K (c ∷ cs) z ≡ nought) zs → All (λ z. eval K (quotient a cs) z ≡ nought) zs
  quotient_roots c cs a r [] away rs = tt
  quotient_roots c cs a r (z ∷ zs) away rs = (
    no_divisor (z + neg a) (eval K (quotient a cs) z) (difference_apart away.0)
        (sym (nought_plus K _) ∙ ap (λ u. u + (z + neg a) * eval K (quotient a cs) z) (sym r) ∙ sym (division a z c cs) ∙ rs.0),
    quotient_roots c cs a r zs away.1 rs.1,
  )

  -- a polynomial with at least as many different roots as it has coefficients is zero everywhere
  pub few_roots : (zs cs : List car) → Distinct zs → length cs ≤ length zs → All (λ z. eval K cs z ≡ nought) zs
      → (x : car) → eval K cs x ≡ nought
  few_roots [] [] d l rs x = refl
  few_roots [] (c ∷ cs) d l rs x = absurd (not-suc-le-zero l)
  few_roots (a ∷ zs) [] d l rs x = refl
  few_roots (a ∷ zs) (c ∷ cs) d l rs x =
      division a x c cs
      ∙ ap₂ ◌+◌ rs.0
      (ap (λ u. (x + neg a) * u)
      (few_roots zs (quotient a cs) d.1 (rw (length_quotient a cs) (le_of_suc-le-suc l)) (quotient_roots c cs a rs.0 zs d.0 rs.1) x)
      ∙ times_nought K (x + neg a))
      ∙ nought_plus K nought

  -- p - q, over two lists of one length
  abbrev less : List car → List car → List car
  less [] q = []
  less (c ∷ p) [] = []
  less (c ∷ p) (d ∷ q) = (c + neg d) ∷ less p q

  length_less : (p q : List car) → length p ≡ length q → length (less p q) ≡ length p
  length_less [] q l = refl
  length_less (c ∷ p) [] l = absurd (omega arith)
  length_less (c ∷ p) (d ∷ q) l = ap suc (length_less p q (omega arith))

  eval_less : (p q : List car) → length p ≡ length q → (x : car) → eval K (less p q) x ≡ eval K p x + neg (eval K q x)
  eval_less [] [] l x = ring K [] 𝟘 (𝟘 ⊖ 𝟘) refl
  eval_less [] (d ∷ q) l x = absurd (omega arith)
  eval_less (c ∷ p) [] l x = absurd (omega arith)
  eval_less (c ∷ p) (d ∷ q) l x =
      ap (λ u. (c + neg d) + x * u) (eval_less p q (omega arith) x)
      ∙ ring K (x ∷ c ∷ d ∷ eval K p x ∷ eval K q x ∷ []) ((var 1 ⊖ var 2) ⊕ var 0 ⊗ (var 3 ⊖ var 4)) ((var 1 ⊕ var 0 ⊗ var 3) ⊖ (var 2 ⊕ var 0 ⊗ var 4)) refl

  less_roots : (p q : List car) → length p ≡ length q → (zs : List car) → All (λ z. eval K p z ≡ eval K q z) zs → All (λ z. eval K (less p q) z ≡ nought) zs
  less_roots p q l [] a = tt
  less_roots p q l (z ∷ zs) a =
      (eval_less p q l z ∙ ap (λ u. u + neg (eval K q z)) a.0 ∙ K.plus_negative (eval K q z), less_roots p q l zs a.1)

  -- two polynomials that agree at as many different points as each has coefficients agree everywhere
  pub agree : (zs p q : List car) → Distinct zs → length p ≡ length q → length p ≤ length zs
      → All (λ z. eval K p z ≡ eval K q z) zs → (x : car) → eval K p x ≡ eval K q x
  agree zs p q d e l a x =
      combine K (eval K p x ∷ eval K q x ∷ []) (var 0) (var 1) 𝟙 (var 0 ⊖ var 1) 𝟘
      (sym (eval_less p q e x) ∙ few_roots zs (less p q) d (rw (length_less p q e) l) (less_roots p q e zs a) x) refl
