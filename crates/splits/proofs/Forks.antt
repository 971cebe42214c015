-- Two balanced gates with different challenges of their own differ at as many children as they want, at least.
--   shared d j    the points of the places where two lists have the same entry, the first at point j
use Rattle.std.proofs.Common.{◌≡◌, ℕ, zero, suc, ◌+◌, ◌-◌, ◌<◌, ◌≤◌, Bool, true, false, not, cond, T, List, [], ◌∷◌, length, get_or, sym, refl, ap, ◌∙◌, subst, suc-le-suc, zero-le, zero-add, arith}
use Rattle.std.specs.Prelude.{Decides, filter}
use Rattle.std.specs.List.{zip}
use native.Mathlib.Nat.{suc_inj}
use native.Mathlib.Decide.{dec_le}
use Rattle.fields.specs.Fields.{FieldModel, FieldLaws}
use Rattle.polynomials.specs.Polynomials.{value, Members, Polynomial}
use Rattle.polynomials.proofs.Roots.{All, Distinct}
use Rattle.polynomials.proofs.Carried.{agree_everywhere}
use Rattle.splits.specs.Gates.{Balanced, Differing}
use Rattle.splits.specs.Gates.{none, same, other}
use Rattle.splits.proofs.Picked.{all_at, apart_from, members_from}

-- what a test decides, it decides of what is so exactly where that is
pub told : (r : Bool) {Q : Type 0} (P : Type 0) → Decides r Q → (Q → P) → (P → Q) → (T r → P) × (P → T r)
told true P h to from = ((λ _. to (h.0 refl)), (λ _. tt))
told false P h to from = ((λ t. absurd t), (λ p. let z : false ≡ true = h.1 (from p) in cc))

module _ {E : Type 0} where
  pub differing_long : {xs ys : List E} {r : ℕ} → Differing xs ys r → length xs ≡ length ys
  differing_long none = refl
  differing_long (same e d) = ap suc (differing_long d)
  differing_long (other n d) = ap suc (differing_long d)

  -- by what an exact test tells apart
  differing_more : (x y : E) (xs ys : List E) (p : E × E → Bool) (b : Bool) → Decides b (x ≡ y)
      → Differing xs ys (length (filter p (zip xs ys))) → Differing (x ∷ xs) (y ∷ ys) (length (cond (not b) ((x, y) ∷ filter p (zip xs ys)) (filter p (zip xs ys))))
  differing_more x y xs ys p true h d = same (h.0 refl) d
  differing_more x y xs ys p false h d = other (λ e. let z : false ≡ true = h.1 e in cc) d

  pub differing_count : (eq : E → E → Bool) → ((x y : E) → Decides (eq x y) (x ≡ y)) → (xs ys : List E) (n : ℕ)
      → n ≡ length (filter (λ p. not (eq p.0 p.1)) (zip xs ys)) → length xs ≡ length ys → Differing xs ys n
  differing_count eq exact [] [] n e l = subst (Differing [] []) (sym e) none
  differing_count eq exact [] (y ∷ ys) n e l = absurd (omega arith)
  differing_count eq exact (x ∷ xs) [] n e l = absurd (omega arith)
  differing_count eq exact (x ∷ xs) (y ∷ ys) n e l =
      subst (Differing (x ∷ xs) (y ∷ ys)) (sym e) (differing_more x y xs ys (λ p. not (eq p.0 p.1)) (eq x y) (exact x y) (differing_count eq exact xs ys _ refl (suc_inj l)))

shift : (i j : ℕ) → suc i + j ≡ i + suc j
shift i j = omega arith

module _ {E : Type 0} (m : FieldModel E) where
  abbrev shared : {xs ys : List E} {r : ℕ} → Differing xs ys r → ℕ → List E
  shared none j = []
  shared (same e d) j = m.point j ∷ shared d (suc j)
  shared (other n d) j = shared d (suc j)

  shared_count : {xs ys : List E} {r : ℕ} (d : Differing xs ys r) (j : ℕ) → length (shared d j) + r ≡ length xs
  shared_count none j = refl
  shared_count (same e d) j = let ih = shared_count d (suc j) in omega arith
  shared_count (other n d) j = let ih = shared_count d (suc j) in omega arith

  shared_all : (P : E → Type 0) {xs ys : List E} {r : ℕ} (d : Differing xs ys r) (j : ℕ)
      → ((i : ℕ) → i < length xs → get_or xs i m.zero ≡ get_or ys i m.zero → P (m.point (i + j))) → All P (shared d j)
  shared_all P none j f = tt
  shared_all P (same e d) j f = (
    subst (λ n. P (m.point n)) (zero-add j) (f zero (suc-le-suc zero-le) e),
    shared_all P d (suc j) (λ i l h. subst (λ n. P (m.point n)) (shift i j) (f (suc i) (suc-le-suc l) h)),
  )
  shared_all P (other n d) j f = shared_all P d (suc j) (λ i l h. subst (λ n. P (m.point n)) (shift i j) (f (suc i) (suc-le-suc l) h))

  shared_distinct : FieldLaws m → {xs ys : List E} {r : ℕ} (d : Differing xs ys r) (j : ℕ) → j + length xs ≤ 9 → Distinct (shared d j)
  shared_distinct laws none j l = tt
  shared_distinct laws (same e d) j l = (
    shared_all (λ p. ¬ (p ≡ m.point j)) d (suc j) (λ i h s e. let q : i + suc j ≡ j = laws.points_apart (i + suc j) j (omega arith) (omega arith) e in omega arith),
    shared_distinct laws d (suc j) (omega arith),
  )
  shared_distinct laws (other n d) j l = shared_distinct laws d (suc j) (omega arith)

  pub at_least_differ : FieldLaws m → (xs ys : List E) (r : ℕ) → Differing xs ys r → length xs ≤ 8
      → (k : ℕ) (own own' : E) → k ≤ length xs → Balanced m k own xs → Balanced m k own' ys → (own ≡ own' → ⊥) → k ≤ r
  at_least_differ laws xs ys r d few k own own' wants b c ne = go (dec_le (length xs - k + 1) (length zs))
    where
      zs : List E
      zs = shared d 1

      long : length xs ≡ length ys
      long = differing_long d

      zs_in : Members m zs
      zs_in = members_from m zs (shared_all (λ p. T (m.member p)) d 1 (λ i l s. laws.point_in (i + 1) (omega arith)))

      p : Polynomial m (length xs - k + 1) (value m b.0)
      p = (b.0, b.1, b.2, λ x h. refl)

      q : Polynomial m (length xs - k + 1) (value m c.0)
      q = (c.0, c.1 ∙ ap (λ n. n - k + 1) (sym long), c.2, λ x h. refl)

      agree : All (λ x. value m b.0 x ≡ value m c.0 x) zs
      agree = shared_all (λ x. value m b.0 x ≡ value m c.0 x) d 1 (λ i l s. b.4 i l ∙ s ∙ sym (c.4 i (omega (arith, differing_long d))))

      go : Dec (length xs - k + 1 ≤ length zs) → k ≤ r
      go (yes l) =
          absurd (ne (sym b.3
          ∙ agree_everywhere laws (length xs - k + 1) (value m b.0) (value m c.0) p q zs zs_in (apart_from m zs (shared_distinct laws d 1 (omega arith))) l
          (λ i h. all_at (λ x. value m b.0 x ≡ value m c.0 x) zs m.zero agree i h) (m.point 0) (laws.point_in 0 (omega arith))
          ∙ c.3))
      go (no l) = omega (arith, shared_count d 1)
