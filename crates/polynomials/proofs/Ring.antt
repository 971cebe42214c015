-- Equations of a commutative ring by computation: `ring` proves an equation of two expressions whose sorted monomials are the same.
use Rattle.std.proofs.Common.{◌≡◌, ℕ, suc, Bool, true, false, cond, eqb, ltb, List, [], ◌∷◌, ◌++◌, get_or, sym, refl, ap, ◌∙◌, ap₂}
use Rattle.polynomials.proofs.Total.{TotalField}

-- an expression in numbered variables
infixl 60 ◌⊕◌
infixl 70 ◌⊗◌
infix 80 ⊝◌
pub data Expression : Type 0 where
  var : ℕ → Expression
  𝟘 𝟙 : Expression
  ◌⊕◌ ◌⊗◌ : Expression → Expression → Expression
  ⊝◌ : Expression → Expression

infixl 60 ◌⊖◌
abbrev pub ◌⊖◌ : Expression → Expression → Expression
a ⊖ b = a ⊕ (⊝ b)

-- a monomial is a list of variables
abbrev monomial_le : List ℕ → List ℕ → Bool
monomial_le [] n = true
monomial_le (x ∷ m) [] = false
monomial_le (x ∷ m) (y ∷ n) = let rest = monomial_le m n in cond (ltb x y) true (cond (eqb x y) rest false)

abbrev number_le : ℕ → ℕ → Bool
number_le x y = ltb x (suc y)

abbrev pub insert : {A : Type 0} → (A → A → Bool) → A → List A → List A
insert le x [] = x ∷ []
insert le x (y ∷ ys) = let rest = insert le x ys in cond (le x y) (x ∷ (y ∷ ys)) (y ∷ rest)

abbrev pub sort : {A : Type 0} → (A → A → Bool) → List A → List A
sort le [] = []
sort le (x ∷ xs) = insert le x (sort le xs)

abbrev scale : List ℕ → List (List ℕ) → List (List ℕ)
scale m [] = []
scale m (n ∷ ns) = (m ++ n) ∷ scale m ns

abbrev products : List (List ℕ) → List (List ℕ) → List (List ℕ)
products [] ns = []
products (m ∷ ms) ns = scale m ns ++ products ms ns

abbrev sort_each : List (List ℕ) → List (List ℕ)
sort_each [] = []
sort_each (m ∷ ms) = sort number_le m ∷ sort_each ms

-- the monomials that are added, and those that are subtracted
abbrev signed : Expression → List (List ℕ) × List (List ℕ)
signed (var n) = ((n ∷ []) ∷ [], [])
signed 𝟘 = ([], [])
signed 𝟙 = ([] ∷ [], [])
signed (a ⊕ b) = let s = signed a in let t = signed b in (s.0 ++ t.0, s.1 ++ t.1)
signed (a ⊗ b) = let s = signed a in let t = signed b in (products s.0 t.0 ++ products s.1 t.1, products s.0 t.1 ++ products s.1 t.0)
signed (⊝ a) = let s = signed a in (s.1, s.0)

-- the two sides agree as sorted lists of monomials, after what is subtracted on one side is added on the other
abbrev pub Same : Expression → Expression → Type 0
Same a b = sort monomial_le (sort_each ((signed a).0 ++ (signed b).1)) ≡ sort monomial_le (sort_each ((signed b).0 ++ (signed a).1))

module _ (K : TotalField) where
  open K use {car, zero as nought, one, plus as ◌+◌, negative as neg, times as ◌*◌, plus_assoc, plus_comm, plus_zero, plus_negative, times_assoc, times_comm, times_one, times_plus}

  infixl 60 ◌+◌
  infixl 70 ◌*◌
  pub nought_plus : (x : car) → nought + x ≡ x
  nought_plus x = plus_comm nought x ∙ plus_zero x

  pub plus_left_comm : (x y z : car) → x + (y + z) ≡ y + (x + z)
  plus_left_comm x y z = sym (plus_assoc x y z) ∙ ap (λ w. w + z) (plus_comm x y) ∙ plus_assoc y x z

  pub times_left_comm : (x y z : car) → x * (y * z) ≡ y * (x * z)
  times_left_comm x y z = sym (times_assoc x y z) ∙ ap (λ w. w * z) (times_comm x y) ∙ times_assoc y x z

  pub plus_times : (x y z : car) → (x + y) * z ≡ x * z + y * z
  plus_times x y z = times_comm (x + y) z ∙ times_plus z x y ∙ ap₂ ◌+◌ (times_comm z x) (times_comm z y)

  pub cancel : (x y z : car) → x + y ≡ x + z → y ≡ z
  cancel x y z h =
      let back : (w : car) → neg x + (x + w) ≡ w = λ w. sym (plus_assoc (neg x) x w) ∙ ap (λ u. u + w) (plus_comm (neg x) x ∙ plus_negative x) ∙ nought_plus w in
      sym (back y) ∙ ap (λ u. neg x + u) h ∙ back z

  pub times_nought : (x : car) → x * nought ≡ nought
  times_nought x = cancel (x * nought) (x * nought) nought (sym (times_plus x nought nought) ∙ ap (λ u. x * u) (plus_zero nought) ∙ sym (plus_zero (x * nought)))

  pub neg_is : (x y : car) → x + y ≡ nought → y ≡ neg x
  neg_is x y h = cancel x y (neg x) (h ∙ sym (plus_negative x))

  pub neg_neg : (x : car) → neg (neg x) ≡ x
  neg_neg x = sym (neg_is (neg x) x (plus_comm (neg x) x ∙ plus_negative x))

  pub neg_nought : neg nought ≡ nought
  neg_nought = sym (neg_is nought nought (plus_zero nought))

  pub neg_plus : (x y : car) → neg (x + y) ≡ neg x + neg y
  neg_plus x y = sym (neg_is (x + y) (neg x + neg y) (simp (plus_assoc, plus_left_comm y (neg x) (neg y), plus_negative, plus_zero)))

  pub times_neg : (x y : car) → x * neg y ≡ neg (x * y)
  times_neg x y = neg_is (x * y) (x * neg y) (sym (times_plus x y (neg y)) ∙ ap (λ u. x * u) (plus_negative y) ∙ times_nought x)

  pub neg_times : (x y : car) → neg x * y ≡ neg (x * y)
  neg_times x y = times_comm (neg x) y ∙ times_neg y x ∙ ap neg (times_comm y x)

  module _ (ρ : List car) where
    abbrev pub value : Expression → car
    value (var n) = get_or ρ n nought
    value 𝟘 = nought
    value 𝟙 = one
    value (a ⊕ b) = value a + value b
    value (a ⊗ b) = value a * value b
    value (⊝ a) = neg (value a)

    abbrev mono : List ℕ → car
    mono [] = one
    mono (n ∷ ns) = get_or ρ n nought * mono ns

    abbrev sum : List (List ℕ) → car
    sum [] = nought
    sum (m ∷ ms) = mono m + sum ms

    one_times : (x : car) → one * x ≡ x
    one_times x = times_comm one x ∙ times_one x

    mono_append : (m n : List ℕ) → mono (m ++ n) ≡ mono m * mono n
    mono_append [] n = sym (one_times (mono n))
    mono_append (x ∷ m) n = ap (λ u. get_or ρ x nought * u) (mono_append m n) ∙ sym (times_assoc (get_or ρ x nought) (mono m) (mono n))

    sum_append : (m n : List (List ℕ)) → sum (m ++ n) ≡ sum m + sum n
    sum_append [] n = sym (nought_plus (sum n))
    sum_append (x ∷ m) n = ap (λ u. mono x + u) (sum_append m n) ∙ sym (plus_assoc (mono x) (sum m) (sum n))

    sum_scale : (m : List ℕ) (ns : List (List ℕ)) → sum (scale m ns) ≡ mono m * sum ns
    sum_scale m [] = sym (times_nought (mono m))
    sum_scale m (n ∷ ns) = ap₂ ◌+◌ (mono_append m n) (sum_scale m ns) ∙ sym (times_plus (mono m) (mono n) (sum ns))

    nought_times : (x : car) → nought * x ≡ nought
    nought_times x = times_comm nought x ∙ times_nought x

    sum_products : (ms ns : List (List ℕ)) → sum (products ms ns) ≡ sum ms * sum ns
    sum_products [] ns = sym (nought_times (sum ns))
    sum_products (m ∷ ms) ns = sum_append (scale m ns) (products ms ns) ∙ ap₂ ◌+◌ (sum_scale m ns) (sum_products ms ns) ∙ sym (plus_times (mono m) (sum ms) (sum ns))

    mono_insert : (le : ℕ → ℕ → Bool) (x : ℕ) (m : List ℕ) → mono (insert le x m) ≡ mono (x ∷ m)
    mono_insert le x [] = refl
    mono_insert le x (y ∷ m) = go (mono_insert le x m) (le x y)
      where
        go : mono (insert le x m) ≡ mono (x ∷ m) → (b : Bool) → mono (cond b (x ∷ (y ∷ m)) (y ∷ insert le x m)) ≡ mono (x ∷ (y ∷ m))
        go h true = refl
        go h false = ap (λ u. get_or ρ y nought * u) h ∙ times_left_comm (get_or ρ y nought) (get_or ρ x nought) (mono m)

    mono_sort : (m : List ℕ) → mono (sort number_le m) ≡ mono m
    mono_sort [] = refl
    mono_sort (x ∷ m) = mono_insert number_le x (sort number_le m) ∙ ap (λ u. get_or ρ x nought * u) (mono_sort m)

    sum_sort_each : (ms : List (List ℕ)) → sum (sort_each ms) ≡ sum ms
    sum_sort_each [] = refl
    sum_sort_each (m ∷ ms) = ap₂ ◌+◌ (mono_sort m) (sum_sort_each ms)

    sum_insert : (le : List ℕ → List ℕ → Bool) (x : List ℕ) (m : List (List ℕ)) → sum (insert le x m) ≡ sum (x ∷ m)
    sum_insert le x [] = refl
    sum_insert le x (y ∷ m) = go (sum_insert le x m) (le x y)
      where
        go : sum (insert le x m) ≡ sum (x ∷ m) → (b : Bool) → sum (cond b (x ∷ (y ∷ m)) (y ∷ insert le x m)) ≡ sum (x ∷ (y ∷ m))
        go h true = refl
        go h false = ap (λ u. mono y + u) h ∙ plus_left_comm (mono y) (mono x) (sum m)

    sum_sort : (m : List (List ℕ)) → sum (sort monomial_le m) ≡ sum m
    sum_sort [] = refl
    sum_sort (x ∷ m) = sum_insert monomial_le x (sort monomial_le m) ∙ ap (λ u. mono x + u) (sum_sort m)

    -- (p - n) + (q - m) and (p - n) * (q - m), by the laws
    swap_plus : (p n q m : car) → (p + neg n) + (q + neg m) ≡ (p + q) + neg (n + m)
    swap_plus p n q m = simp (neg_plus n m, plus_assoc, plus_left_comm (neg n) q (neg m))

    swap_times : (p n q m : car) → (p + neg n) * (q + neg m) ≡ (p * q + n * m) + neg (p * m + n * q)
    swap_times p n q m =
        plus_times p (neg n) (q + neg m)
        ∙ ap₂ ◌+◌ (times_plus p q (neg m)) (times_plus (neg n) q (neg m))
        ∙ simp (times_neg, neg_times, neg_neg, neg_plus, plus_assoc, plus_comm, plus_left_comm)

    sound : (e : Expression) → value e ≡ sum (signed e).0 + neg (sum (signed e).1)
    sound (var n) = sym (ap₂ ◌+◌ (plus_zero (get_or ρ n nought * one) ∙ times_one (get_or ρ n nought)) neg_nought ∙ plus_zero (get_or ρ n nought))
    sound 𝟘 = sym (plus_negative nought)
    sound 𝟙 = sym (ap₂ ◌+◌ (plus_zero one) neg_nought ∙ plus_zero one)
    sound (a ⊕ b) =
        ap₂ ◌+◌ (sound a) (sound b)
        ∙ swap_plus (sum (signed a).0) (sum (signed a).1) (sum (signed b).0) (sum (signed b).1)
        ∙ sym (ap₂ (λ x y. x + neg y) (sum_append (signed a).0 (signed b).0) (sum_append (signed a).1 (signed b).1))
    sound (a ⊗ b) =
        let sp = (signed a).0 in
        let sn = (signed a).1 in
        let tp = (signed b).0 in
        let tn = (signed b).1 in
        ap₂ ◌*◌ (sound a) (sound b)
        ∙ swap_times (sum sp) (sum sn) (sum tp) (sum tn)
        ∙ sym (ap₂ (λ x y. x + neg y)
        (sum_append (products sp tp) (products sn tn) ∙ ap₂ ◌+◌ (sum_products sp tp) (sum_products sn tn))
        (sum_append (products sp tn) (products sn tp) ∙ ap₂ ◌+◌ (sum_products sp tn) (sum_products sn tp)))
    sound (⊝ a) =
        ap neg (sound a) ∙ neg_plus (sum (signed a).0) (neg (sum (signed a).1))
        ∙ ap (λ u. neg (sum (signed a).0) + u) (neg_neg (sum (signed a).1))
        ∙ plus_comm (neg (sum (signed a).0)) (sum (signed a).1)

    drop_mid : (x y z : car) → (x + y) + (neg y + z) ≡ x + z
    drop_mid x y z = plus_assoc x y (neg y + z) ∙ ap (λ u. x + u) (sym (plus_assoc y (neg y) z) ∙ ap (λ u. u + z) (plus_negative y) ∙ nought_plus z)

    -- p - n is q - m where p + m is q + n
    across : (p n q m : car) → p + m ≡ q + n → p + neg n ≡ q + neg m
    across p n q m h =
        sym (drop_mid p m (neg n)) ∙ ap (λ u. u + (neg m + neg n)) h
        ∙ ap (λ u. (q + n) + u) (plus_comm (neg m) (neg n)) ∙ drop_mid q n (neg m)

    -- The one line: `ring K (x ∷ y ∷ []) (var 0 ⊗ var 1) (var 1 ⊗ var 0) refl`
    pub ring : (a b : Expression) → Same a b → value a ≡ value b
    ring a b h =
        let ap' = (signed a).0 in
        let an = (signed a).1 in
        let bp = (signed b).0 in
        let bn = (signed b).1 in
        sound a
        ∙ across (sum ap') (sum an) (sum bp) (sum bn)
        (sym (sum_append ap' bn) ∙ sym (sum_sort_each (ap' ++ bn)) ∙ sym (sum_sort (sort_each (ap' ++ bn)))
        ∙ ap sum h ∙ sum_sort (sort_each (bp ++ an)) ∙ sum_sort_each (bp ++ an) ∙ sum_append bp an)
        ∙ sym (sound b)

    -- A goal from an equation c ≡ d that it is k times of, up to the laws
    pub combine : (a b k c d : Expression) → value c ≡ value d → Same (a ⊕ k ⊗ d) (b ⊕ k ⊗ c) → value a ≡ value b
    combine a b k c d h s =
        cancel (value k * value d) (value a) (value b)
        (plus_comm (value k * value d) (value a) ∙ ring (a ⊕ k ⊗ d) (b ⊕ k ⊗ c) s ∙ ap (λ u. value b + value k * u) h ∙ plus_comm (value b) (value k * value d))
