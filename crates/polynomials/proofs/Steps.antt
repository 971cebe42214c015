-- What one turn of each loop over nodes and coefficients does.
--   Begun m points given values i   the first i values are coefficients by now, with which the form on the first i points passes through what was given there
use Rattle.std.proofs.Common.{◌≡◌, ℕ, zero, suc, ◌+◌, ◌<◌, ◌≤◌, T, ◌≢◌, List, [], ◌∷◌, ◌++◌, length, get_or, take, drop, set, sym, refl, ap, ◌∙◌, subst, ap₂, append_assoc, length-append, suc-le-suc, zero-le, not-suc-le-zero, arith, length-drop, length-set, take_all, get_or-set_other, get_or-set_same}
use native.Mathlib.Decide.{dec_lt}
use Rattle.std.proofs.lemmas.List.{get_or-append-add, get_or_read, get_or-take, get_or-drop, drop_more, drop_all, take_more, take_more_set, length-take-le}
use Rattle.fields.specs.Fields.{FieldModel, FieldLaws, minus}
use Rattle.polynomials.specs.Polynomials.{Members, Apart, Passes, Polynomial, newton, weight}
use Rattle.polynomials.proofs.Carried.{newton_one, newton_push_new, newton_push_old, newton_polynomial, agree_everywhere}

-- a list is what a loop has left of it before what it has taken from its end: one entry more is taken
pub taken_back : {A : Type 0} (xs rest left done : List A) (x : A) → xs ≡ rest ++ done → rest ≡ left ++ (x ∷ []) → xs ≡ left ++ (x ∷ done)
taken_back xs rest left done x e p = e ∙ ap (λ u. u ++ done) p ∙ append_assoc left (x ∷ []) done

pub all_taken : {A : Type 0} (xs rest done : List A) → xs ≡ rest ++ done → length rest ≡ 0 → done ≡ xs
all_taken xs [] done e z = sym e
all_taken xs (x ∷ rest) done e z = absurd (omega arith)

module _ {E : Type 0} (m : FieldModel E) where
  -- what was taken from the end of a list of elements is elements
  pub members_back : (xs rest done : List E) → xs ≡ rest ++ done → Members m xs → Members m done
  members_back xs rest done e h i k =
      subst (λ y. T (m.member y)) (ap (λ u. get_or u (length rest + i) m.zero) e ∙ get_or-append-add rest done i m.zero)
      (h (length rest + i) (omega (arith, ap length e, length-append rest done)))

  pub taken_in : (xs left done : List E) (x : E) → xs ≡ left ++ (x ∷ done) → Members m xs → T (m.member x)
  taken_in xs left done x e h = members_back xs left (x ∷ done) e h 0 (suc-le-suc zero-le)

  -- a result is an element where what it equals is one
  pub same_in : (r x : E) → r ≡ x → T (m.member x) → T (m.member r)
  same_in r x e h = subst (λ y. T (m.member y)) (sym e) h

  pub read_in : (xs : List E) → Members m xs → (i : ℕ) (x : E) → i < length xs → x ≡ get_or xs i x → T (m.member x)
  read_in xs h i x l e = subst (λ y. T (m.member y)) (sym (get_or_read xs i x l e m.zero)) (h i l)

  pub members_take : (xs : List E) (n : ℕ) → n ≤ length xs → Members m xs → Members m (take n xs)
  members_take xs n l h i k =
      let b : i < n = omega (arith, length-take-le n xs l) in
      subst (λ y. T (m.member y)) (sym (get_or-take n xs i m.zero b)) (h i (omega arith))

  pub members_drop : (xs : List E) (n : ℕ) → Members m xs → Members m (drop n xs)
  members_drop xs n h i k =
      subst (λ y. T (m.member y)) (sym (get_or-drop n xs i m.zero)) (h (n + i) (omega (arith, length-drop n xs)))

  pub members_set : (xs : List E) (i : ℕ) (x : E) → i < length xs → Members m xs → T (m.member x) → Members m (set xs i x)
  members_set xs i x l h k j b = go (dec_lt j i) (dec_lt i j)
    where
      other : j ≢ i → T (m.member (get_or (set xs i x) j m.zero))
      other ne = subst (λ y. T (m.member y)) (sym (get_or-set_other xs i j x m.zero ne)) (h j (omega (arith, length-set xs i x)))

      go : Dec (j < i) → Dec (i < j) → T (m.member (get_or (set xs i x) j m.zero))
      go (yes p) d = other (λ e. omega arith)
      go (no p) (yes q) = other (λ e. omega arith)
      go (no p) (no q) =
          let e : i ≡ j = omega arith in
          subst (λ k. T (m.member (get_or (set xs i x) k m.zero))) e (subst (λ y. T (m.member y)) (sym (get_or-set_same xs i x m.zero l)) k)

  abbrev pub Begun : List E → List E → List E → ℕ → Type 0
  Begun points given values i =
      Members m values
      × ((j : ℕ) → j < i → j < length points → newton m (take i points) (take i values) (get_or points j m.zero) ≡ get_or given j m.zero)
      × ((j : ℕ) → i ≤ j → get_or values j m.zero ≡ get_or given j m.zero)

module _ {E : Type 0} {m : FieldModel E} (laws : FieldLaws m) where
  pub difference_in : (r x y : E) → r ≡ minus m x y → T (m.member x) → T (m.member y) → T (m.member r)
  difference_in r x y e h k = same_in m r (minus m x y) e (laws.plus_in x (m.negative y) h (laws.negative_in y k))

  pub product_in : (r x y : E) → r ≡ m.times x y → T (m.member x) → T (m.member y) → T (m.member r)
  product_in r x y e h k = same_in m r (m.times x y) e (laws.times_in x y h k)

  pub newton_last : (ns cs : List E) (x : E) (j : ℕ) → length ns ≡ length cs → j + 1 ≡ length ns → Members m ns → Members m cs → T (m.member x)
      → (c : E) → c ≡ get_or cs j c → c ≡ newton m (drop j ns) (drop j cs) x
  newton_last ns cs x j l e h k x-in c ec =
      let b : j < length ns = omega arith in
      let z = m.zero in
      get_or_read cs j c (omega arith) ec z
      ∙ sym (newton_one laws (get_or ns j z) (get_or cs j z) x (h j b) (k j (omega arith)) x-in)
      ∙ sym (ap₂ (λ u v. newton m u v x)
      (drop_more ns j z b ∙ ap (λ u. get_or ns j z ∷ u) (drop_all (j + 1) ns (omega arith)))
      (drop_more cs j z (omega arith) ∙ ap (λ u. get_or cs j z ∷ u) (drop_all (j + 1) cs (omega arith))))

  pub begun_first : (points values : List E) → length points ≡ length values → Members m points → Members m values → Begun m points values values 1
  begun_first points values l h k = (k, first points values l h k, λ j b. refl)
    where
      first : (ps vs : List E) → length ps ≡ length vs → Members m ps → Members m vs
          → (j : ℕ) → j < 1 → j < length ps → newton m (take 1 ps) (take 1 vs) (get_or ps j m.zero) ≡ get_or vs j m.zero
      first [] vs l h k j a b = absurd (not-suc-le-zero b)
      first (p ∷ ps) [] l h k j a b = absurd (omega arith)
      first (p ∷ ps) (v ∷ vs) l h k zero a b = newton_one laws p v p (h zero (omega arith)) (k zero (omega arith)) (h zero (omega arith))
      first (p ∷ ps) (v ∷ vs) l h k (suc j) a b = absurd (omega arith)

  pub begun_more : (points given values : List E) (i : ℕ) (c : E) → length points ≡ length values → Members m points → T (m.member c) → i < length points
      → m.times c (weight m (take i points) (get_or points i m.zero))
      ≡ minus m (get_or values i m.zero) (newton m (take i points) (take i values) (get_or points i m.zero))
      → Begun m points given values i → Begun m points given (set values i c) (i + 1)
  begun_more points given values i c l h c_in b fits begun = (
    members_set m values i c (omega arith) begun.0 c_in,
    (λ j lt lp. form_is j ∙ at j lt lp (dec_lt j i)),
    (λ j le. let ne : j ≢ i = λ e. omega arith in get_or-set_other values i j c z ne ∙ begun.2 j (omega arith)),
  )
    where
      z : E
      z = m.zero

      ns : List E
      ns = take i points

      cs : List E
      cs = take i values

      ns_in : Members m ns
      ns_in = members_take m points i (omega arith) h

      cs_in : Members m cs
      cs_in = members_take m values i (omega arith) begun.0

      n : E
      n = get_or points i z

      same : length ns ≡ length cs
      same = length-take-le i points (omega arith) ∙ sym (length-take-le i values (omega arith))

      form_is : (j : ℕ) → newton m (take (i + 1) points) (take (i + 1) (set values i c)) (get_or points j z) ≡ newton m (ns ++ (n ∷ [])) (cs ++ (c ∷ [])) (get_or points j z)
      form_is j = ap₂ (λ u v. newton m u v (get_or points j z)) (take_more points i z b) (take_more_set values i c (omega arith))

      at : (j : ℕ) → j < i + 1 → j < length points → Dec (j < i) → newton m (ns ++ (n ∷ [])) (cs ++ (c ∷ [])) (get_or points j z) ≡ get_or given j z
      at j lt lp (yes p) =
          let within : j < length ns = omega (arith, length-take-le i points (omega arith)) in
          let e : get_or ns j z ≡ get_or points j z = get_or-take i points j z p in
          ap (λ x. newton m (ns ++ (n ∷ [])) (cs ++ (c ∷ [])) x) (sym e)
          ∙ newton_push_old laws ns cs n c ns_in cs_in (h i b) c_in same j within
          ∙ ap (λ x. newton m ns cs x) e ∙ begun.1 j p lp
      at j lt lp (no p) =
          let e : j ≡ i = omega arith in
          ap (λ k. newton m (ns ++ (n ∷ [])) (cs ++ (c ∷ [])) (get_or points k z)) e
          ∙ newton_push_new laws ns cs n c ns_in cs_in (h i b) c_in same (get_or values i z) (begun.0 i (omega arith)) fits
          ∙ begun.2 i (omega arith) ∙ ap (λ k. get_or given k z) (sym e)

  pub begun_all : (points given values : List E) (i : ℕ) → length points ≡ length values → length points ≤ i
      → Begun m points given values i → Passes m (newton m points values) points given
  begun_all points given values i l b begun j lt =
      ap₂ (λ u v. newton m u v (get_or points j m.zero)) (sym (take_all i points b)) (sym (take_all i values (omega arith))) ∙ begun.1 j (omega arith) lt

  pub only_one : (points given values : List E) → length points ≡ length values → Members m points → Members m values → Apart m points
      → Passes m (newton m points values) points given
      → (f : E → E) → Polynomial m (length points) f → Passes m f points given → (x : E) → T (m.member x) → f x ≡ newton m points values x
  only_one points given values l h k apart passes f p through x x-in =
      agree_everywhere laws (length points) f (newton m points values) p (newton_polynomial laws points values h k l) points h apart (omega arith)
      (λ i b. through i b ∙ sym (passes i b)) x x-in
