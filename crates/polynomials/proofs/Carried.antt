-- What was proved over a total field, carried over to the elements of a lawful field.
use Rattle.std.proofs.Common.{◌≡◌, ℕ, zero, suc, ◌<◌, ◌≤◌, T, List, [], ◌∷◌, ◌++◌, length, get_or, sym, refl, ap, ◌∙◌, subst, ap₂, suc-le-suc, zero-le, le_of_suc-le-suc, not-suc-le-zero, arith}
use native.Mathlib.Nat.{suc_inj}
use Rattle.fields.specs.Fields.{FieldModel, FieldLaws, minus}
use Rattle.polynomials.specs.Polynomials.{value, Members, Apart, Vanishes, Polynomial, newton, weight}
use Rattle.polynomials.proofs.Total.{TotalField, Element, same_element, element, elements}
use Rattle.polynomials.proofs.Roots.{eval, All, Distinct, few_roots, agree}
use Rattle.polynomials.proofs.Forms.{form, factors, plain, length_plain, eval_plain, form_one, factors_at, factors_apart, form_push_new, form_push_old}

above : {n : ℕ} → 0 < suc n
above = suc-le-suc zero-le

module _ {E : Type 0} {m : FieldModel E} (laws : FieldLaws m) where
  abbrev K : TotalField
  K = elements laws

  pub members_tail : (x : E) (xs : List E) → Members m (x ∷ xs) → Members m xs
  members_tail x xs h i l = h (suc i) (suc-le-suc l)

  pub members_push : (xs : List E) (y : E) → Members m xs → T (m.member y) → Members m (xs ++ (y ∷ []))
  members_push [] y h k zero l = k
  members_push [] y h k (suc i) l = absurd (not-suc-le-zero (le_of_suc-le-suc l))
  members_push (x ∷ xs) y h k zero l = h zero above
  members_push (x ∷ xs) y h k (suc i) l = members_push xs y (members_tail x xs h) k i (le_of_suc-le-suc l)

  -- members as elements, and elements as values
  abbrev raise : (xs : List E) → Members m xs → List (Element m)
  raise [] h = []
  raise (x ∷ xs) h = element laws x (h zero above) ∷ raise xs (members_tail x xs h)

  abbrev lower : List (Element m) → List E
  lower [] = []
  lower (x ∷ xs) = x.raw ∷ lower xs

  length_raise : (xs : List E) (h : Members m xs) → length (raise xs h) ≡ length xs
  length_raise [] h = refl
  length_raise (x ∷ xs) h = ap suc (length_raise xs (members_tail x xs h))

  length_lower : (xs : List (Element m)) → length (lower xs) ≡ length xs
  length_lower [] = refl
  length_lower (x ∷ xs) = ap suc (length_lower xs)

  members_lower : (xs : List (Element m)) → Members m (lower xs)
  members_lower [] i l = absurd (not-suc-le-zero l)
  members_lower (x ∷ xs) zero l = x.is_in
  members_lower (x ∷ xs) (suc i) l = members_lower xs i (le_of_suc-le-suc l)

  raise_push : (xs : List E) (h : Members m xs) (y : E) (k : T (m.member y)) (hk : Members m (xs ++ (y ∷ [])))
      → raise (xs ++ (y ∷ [])) hk ≡ raise xs h ++ (element laws y k ∷ [])
  raise_push [] h y k hk = ap (λ (e : Element m). e ∷ []) (same_element refl)
  raise_push (x ∷ xs) h y k hk =
      ap₂ ◌∷◌ (same_element refl) (raise_push xs (members_tail x xs h) y k (members_tail x (xs ++ (y ∷ [])) hk))

  getD_raise : (xs : List E) (h : Members m xs) (i : ℕ) → (get_or (raise xs h) i K.zero).raw ≡ get_or xs i m.zero
  getD_raise [] h i = refl
  getD_raise (x ∷ xs) h zero = refl
  getD_raise (x ∷ xs) h (suc i) = getD_raise xs (members_tail x xs h) i

  value_raise : (cs : List E) (h : Members m cs) (x : Element m) → (eval K (raise cs h) x).raw ≡ value m cs x.raw
  value_raise [] h x = refl
  value_raise (c ∷ cs) h x = ap (λ u. m.plus c (m.times x.raw u)) (value_raise cs (members_tail c cs h) x)

  value_lower : (cs : List (Element m)) (x : Element m) → (eval K cs x).raw ≡ value m (lower cs) x.raw
  value_lower [] x = refl
  value_lower (c ∷ cs) x = ap (λ u. m.plus c.raw (m.times x.raw u)) (value_lower cs x)

  newton_raise : (ns cs : List E) (h : Members m ns) (k : Members m cs) (x : Element m) → (form K (raise ns h) (raise cs k) x).raw ≡ newton m ns cs x.raw
  newton_raise [] cs h k x = refl
  newton_raise (n ∷ ns) [] h k x = refl
  newton_raise (n ∷ ns) (c ∷ cs) h k x =
      ap (λ u. m.plus c (m.times (minus m x.raw n) u)) (newton_raise ns cs (members_tail n ns h) (members_tail c cs k) x)

  weight_raise : (ns : List E) (h : Members m ns) (x : Element m) → (factors K (raise ns h) x).raw ≡ weight m ns x.raw
  weight_raise [] h x = refl
  weight_raise (n ∷ ns) h x = ap (λ u. m.times (minus m x.raw n) u) (weight_raise ns (members_tail n ns h) x)

  all_raise : (P : Element m → Type 0) (xs : List E) (h : Members m xs)
      → ((i : ℕ) → i < length xs → (k : T (m.member (get_or xs i m.zero))) → P (element laws (get_or xs i m.zero) k)) → All P (raise xs h)
  all_raise P [] h f = tt
  all_raise P (x ∷ xs) h f = (f zero above (h zero above), all_raise P xs (members_tail x xs h) (λ i l k. f (suc i) (suc-le-suc l) k))

  distinct_raise : (xs : List E) (h : Members m xs) → Apart m xs → Distinct (raise xs h)
  distinct_raise [] h apart = tt
  distinct_raise (x ∷ xs) h apart = (
    all_raise (λ y. ¬ (y ≡ element laws x (h zero above))) xs (members_tail x xs h)
        (λ i l k e. let z : suc i ≡ 0 = apart (suc i) zero (suc-le-suc l) above (ap (λ (y : Element m). y.raw) e) in omega arith),
    distinct_raise xs (members_tail x xs h) (λ i j a b e. suc_inj (apart (suc i) (suc j) (suc-le-suc a) (suc-le-suc b) e)),
  )

  -- the values are elements
  pub value_in : (cs : List E) → Members m cs → (x : E) → T (m.member x) → T (m.member (value m cs x))
  value_in cs h x k = subst (λ y. T (m.member y)) (value_raise cs h (element laws x k)) (eval K (raise cs h) (element laws x k)).is_in

  pub newton_in : (ns cs : List E) → Members m ns → Members m cs → (x : E) → T (m.member x) → T (m.member (newton m ns cs x))
  newton_in ns cs h k x i =
      subst (λ y. T (m.member y)) (newton_raise ns cs h k (element laws x i)) (form K (raise ns h) (raise cs k) (element laws x i)).is_in

  pub weight_in : (ns : List E) → Members m ns → (x : E) → T (m.member x) → T (m.member (weight m ns x))
  weight_in ns h x k = subst (λ y. T (m.member y)) (weight_raise ns h (element laws x k)) (factors K (raise ns h) (element laws x k)).is_in

  -- few roots
  pub vanishes_everywhere : (n : ℕ) (f : E → E) → Polynomial m n f → (zs : List E) → Members m zs → Apart m zs → n ≤ length zs
      → Vanishes m f zs → (x : E) → T (m.member x) → f x ≡ m.zero
  vanishes_everywhere n f p zs h apart few roots x k =
      let cs = raise p.0 p.2 in
      sym (p.3 x k) ∙ sym (value_raise p.0 p.2 (element laws x k))
      ∙ ap (λ (y : Element m). y.raw)
      (few_roots K (raise zs h) cs (distinct_raise zs h apart) (omega (arith, length_raise zs h, length_raise p.0 p.2, p.1))
      (all_raise (λ z. eval K cs z ≡ K.zero) zs h
      (λ i l z-in. same_element (value_raise p.0 p.2 (element laws (get_or zs i m.zero) z-in) ∙ p.3 (get_or zs i m.zero) z-in ∙ roots i l)))
      (element laws x k))

  -- two polynomials with n coefficients that agree at n different points agree everywhere
  pub agree_everywhere : (n : ℕ) (f g : E → E) → Polynomial m n f → Polynomial m n g → (zs : List E) → Members m zs → Apart m zs → n ≤ length zs
      → ((i : ℕ) → i < length zs → f (get_or zs i m.zero) ≡ g (get_or zs i m.zero)) → (x : E) → T (m.member x) → f x ≡ g x
  agree_everywhere n f g p q zs h apart few same x k =
      let cs = raise p.0 p.2 in
      let ds = raise q.0 q.2 in
      sym (p.3 x k) ∙ sym (value_raise p.0 p.2 (element laws x k))
      ∙ ap (λ (y : Element m). y.raw)
      (agree K (raise zs h) cs ds (distinct_raise zs h apart)
      (length_raise p.0 p.2 ∙ p.1 ∙ sym q.1 ∙ sym (length_raise q.0 q.2))
      (omega (arith, length_raise zs h, length_raise p.0 p.2, p.1))
      (all_raise (λ z. eval K cs z ≡ eval K ds z) zs h
      (λ i l z-in.
      let z = get_or zs i m.zero in
      same_element (value_raise p.0 p.2 (element laws z z-in) ∙ p.3 z z-in ∙ same i l ∙ sym (q.3 z z-in) ∙ sym (value_raise q.0 q.2 (element laws z z-in)))))
      (element laws x k))
      ∙ value_raise q.0 q.2 (element laws x k) ∙ q.3 x k

  -- a form is a polynomial with as many coefficients
  pub newton_polynomial : (ns cs : List E) → Members m ns → Members m cs → length ns ≡ length cs → Polynomial m (length ns) (newton m ns cs)
  newton_polynomial ns cs h k l =
      let p = plain K (raise ns h) (raise cs k) in (
        lower p,
        length_lower p ∙ length_plain K (raise ns h) (raise cs k) (length_raise ns h ∙ l ∙ sym (length_raise cs k)) ∙ length_raise cs k ∙ sym l,
        members_lower p,
        λ x i. sym (value_lower p (element laws x i)) ∙ ap (λ (y : Element m). y.raw) (eval_plain K (raise ns h) (raise cs k) (element laws x i)) ∙ newton_raise ns cs h k (element laws x i),
      )

  pub newton_one : (n c x : E) → T (m.member n) → T (m.member c) → T (m.member x) → newton m (n ∷ []) (c ∷ []) x ≡ c
  newton_one n c x h k i = ap (λ (y : Element m). y.raw) (form_one K (element laws n h) (element laws c k) (element laws x i))

  pub weight_at : (ns : List E) → Members m ns → (j : ℕ) → j < length ns → weight m ns (get_or ns j m.zero) ≡ m.zero
  weight_at ns h j l =
      ap (weight m ns) (sym (getD_raise ns h j)) ∙ sym (weight_raise ns h (get_or (raise ns h) j K.zero))
      ∙ ap (λ (y : Element m). y.raw) (factors_at K (raise ns h) j (rw (length_raise ns h) l))

  pub weight_apart : (ns : List E) → Members m ns → (x : E) → T (m.member x) → ((j : ℕ) → j < length ns → ¬ (x ≡ get_or ns j m.zero))
      → ¬ (weight m ns x ≡ m.zero)
  weight_apart ns h x k away e =
      factors_apart K (raise ns h) (element laws x k) (λ o. laws.one_apart (ap (λ (y : Element m). y.raw) o))
      (all_raise (λ n. ¬ (element laws x k ≡ n)) ns h (λ i l n-in f. away i l (ap (λ (y : Element m). y.raw) f)))
      (same_element (weight_raise ns h (element laws x k) ∙ e))

  -- one node more, with the coefficient that fits: the value at the new node, and the values at the old ones
  module _ (ns cs : List E) (n c : E) (h : Members m ns) (k : Members m cs) (n-in : T (m.member n)) (c_in : T (m.member c)) (l : length ns ≡ length cs) where
    pushed : (x : E) (x-in : T (m.member x)) (y : Element m)
        → form K (raise ns h ++ (element laws n n-in ∷ [])) (raise cs k ++ (element laws c c_in ∷ [])) (element laws x x-in) ≡ y
        → newton m (ns ++ (n ∷ [])) (cs ++ (c ∷ [])) x ≡ y.raw
    pushed x x-in y e =
        let hn = members_push ns n h n-in in
        let kc = members_push cs c k c_in in
        sym (newton_raise (ns ++ (n ∷ [])) (cs ++ (c ∷ [])) hn kc (element laws x x-in))
        ∙ ap (λ (z : Element m). z.raw)
        (ap₂ (λ u v. form K u v (element laws x x-in)) (raise_push ns h n n-in hn) (raise_push cs k c c_in kc) ∙ e)

    pub newton_push_new : (y : E) → T (m.member y) → m.times c (weight m ns n) ≡ minus m y (newton m ns cs n)
        → newton m (ns ++ (n ∷ [])) (cs ++ (c ∷ [])) n ≡ y
    newton_push_new y y-in e =
        pushed n n-in (element laws y y-in)
        (form_push_new K (raise ns h) (raise cs k) (element laws n n-in) (element laws c c_in) (element laws y y-in)
        (length_raise ns h ∙ l ∙ sym (length_raise cs k))
        (same_element (ap (m.times c) (weight_raise ns h (element laws n n-in)) ∙ e ∙ ap (minus m y) (sym (newton_raise ns cs h k (element laws n n-in))))))

    pub newton_push_old : (j : ℕ) → j < length ns
        → newton m (ns ++ (n ∷ [])) (cs ++ (c ∷ [])) (get_or ns j m.zero) ≡ newton m ns cs (get_or ns j m.zero)
    newton_push_old j b =
        let x = get_or ns j m.zero in
        let x' = element laws x (h j b) in
        pushed x (h j b) (form K (raise ns h) (raise cs k) x')
        (form_push_old K (raise ns h) (raise cs k) (element laws n n-in) (element laws c c_in) x'
        (length_raise ns h ∙ l ∙ sym (length_raise cs k))
        (same_element (weight_raise ns h x' ∙ weight_at ns h j b)))
        ∙ newton_raise ns cs h k x'
