-- Marked entries of a list, and the points of the children.
use Rattle.std.proofs.Common.{◌≡◌, ℕ, zero, suc, ◌+◌, ◌<◌, ◌≤◌, Bool, true, false, cond, T, List, [], ◌∷◌, length, get_or, take, sym, refl, ap, ◌∙◌, subst, suc-le-suc, zero-le, le_of_suc-le-suc, not-suc-le-zero, arith}
use denote.Param.Members.{Mut}
use Rattle.std.specs.Fn.{Called}
use Rattle.std.specs.Array.{IsFromFnResult, IsFromFnResultFrom}
use native.Mathlib.Nat.{suc_inj}
use native.Mathlib.Decide.{ℕ_discrete, dec_lt}
use Rattle.std.proofs.lemmas.List.{ext_get_or, get_or-take, get_or_past, length-take-le}
use Rattle.fields.specs.Fields.{FieldModel, FieldLaws}
use Rattle.polynomials.specs.Polynomials.{Members, Apart, Passes}
use Rattle.polynomials.proofs.Roots.{All, Distinct}
use Rattle.splits.specs.Marks.{missing, marked, First, points_from}

pub length_marked : {A : Type 0} (bs : List Bool) (xs : List A) → length bs ≡ length xs → length (marked bs xs) + missing bs ≡ length bs
length_marked [] xs l = omega arith
length_marked (b ∷ bs) [] l = absurd (omega arith)
length_marked (b ∷ bs) (x ∷ xs) l = go b (length_marked bs xs (suc_inj l))
  where
    go : (b : Bool) → length (marked bs xs) + missing bs ≡ length bs
        → length (cond b (x ∷ marked bs xs) (marked bs xs)) + cond b (missing bs) (suc (missing bs)) ≡ suc (length bs)
    go true h = omega arith
    go false h = omega arith

-- marks on the first places
pub first_take : (bs : List Bool) (c n : ℕ) → c ≤ n → n ≤ length bs → First bs c → First (take n bs) c
first_take bs c n l k h j = go (dec_lt j n)
  where
    go : Dec (j < n) → (T (get_or (take n bs) j false) → j < c) × (j < c → T (get_or (take n bs) j false))
    go (yes a) = let same = get_or-take n bs j false a in ((λ t. (h j).0 (subst T same t)), (λ b. subst T (sym same) ((h j).1 b)))
    go (no a) = (
      (λ t. absurd (subst T (get_or_past (take n bs) j false (omega (arith, length-take-le n bs k))) t)),
      (λ b. absurd (a (omega arith))),
    )

pub missing_first : (bs : List Bool) (c : ℕ) → First bs c → c ≤ length bs → missing bs + c ≡ length bs
missing_first [] c h l = omega arith
missing_first (true ∷ bs) zero h l = absurd (not-suc-le-zero ((h zero).0 tt))
missing_first (false ∷ bs) zero h l =
    let ih = missing_first bs zero (λ j. ((λ t. absurd (not-suc-le-zero ((h (suc j)).0 t))), (λ a. absurd (not-suc-le-zero a)))) zero-le in omega arith
missing_first (true ∷ bs) (suc c) h l =
    let ih = missing_first bs c (λ j. ((λ t. le_of_suc-le-suc ((h (suc j)).0 t)), (λ a. (h (suc j)).1 (suc-le-suc a)))) (le_of_suc-le-suc l) in omega arith
missing_first (false ∷ bs) (suc c) h l = absurd ((h zero).1 (suc-le-suc zero-le))

-- what holds of each entry holds of each marked one
pub all_marked : {A : Type 0} (P : A → Type 0) (bs : List Bool) (xs : List A) → All P xs → All P (marked bs xs)
all_marked P [] xs a = tt
all_marked P (b ∷ bs) [] a = tt
all_marked P (b ∷ bs) (x ∷ xs) a = go b (all_marked P bs xs a.1)
  where
    go : (b : Bool) → All P (marked bs xs) → All P (cond b (x ∷ marked bs xs) (marked bs xs))
    go true h = (a.0, h)
    go false h = h

pub distinct_marked : {A : Type 0} (bs : List Bool) (xs : List A) → Distinct xs → Distinct (marked bs xs)
distinct_marked [] xs d = tt
distinct_marked (b ∷ bs) [] d = tt
distinct_marked (b ∷ bs) (x ∷ xs) d = go b (distinct_marked bs xs d.1)
  where
    go : (b : Bool) → Distinct (marked bs xs) → Distinct (cond b (x ∷ marked bs xs) (marked bs xs))
    go true h = (all_marked (λ y. ¬ (y ≡ x)) bs xs d.0, h)
    go false h = h

pub all_at : {A : Type 0} (P : A → Type 0) (xs : List A) (z : A) → All P xs → (i : ℕ) → i < length xs → P (get_or xs i z)
all_at P [] z a i l = absurd (not-suc-le-zero l)
all_at P (x ∷ xs) z a zero l = a.0
all_at P (x ∷ xs) z a (suc i) l = all_at P xs z a.1 i (le_of_suc-le-suc l)

pub all_from : {A : Type 0} (P : A → Type 0) (xs : List A) (z : A) → ((i : ℕ) → i < length xs → P (get_or xs i z)) → All P xs
all_from P [] z f = tt
all_from P (x ∷ xs) z f = (f zero (suc-le-suc zero-le), all_from P xs z (λ i l. f (suc i) (suc-le-suc l)))

module _ {E : Type 0} (m : FieldModel E) where
  pub apart_from : (xs : List E) → Distinct xs → Apart m xs
  apart_from [] d i j a b e = absurd (not-suc-le-zero a)
  apart_from (x ∷ xs) d zero zero a b e = refl
  apart_from (x ∷ xs) d zero (suc j) a b e = absurd (all_at (λ y. ¬ (y ≡ x)) xs m.zero d.0 j (le_of_suc-le-suc b) (sym e))
  apart_from (x ∷ xs) d (suc i) zero a b e = absurd (all_at (λ y. ¬ (y ≡ x)) xs m.zero d.0 i (le_of_suc-le-suc a) e)
  apart_from (x ∷ xs) d (suc i) (suc j) a b e = ap suc (apart_from xs d.1 i j (le_of_suc-le-suc a) (le_of_suc-le-suc b) e)

  pub members_from : (xs : List E) → All (λ x. T (m.member x)) xs → Members m xs
  members_from xs a i l = all_at (λ x. T (m.member x)) xs m.zero a i l

  -- to pass through the marked is to have the value at each place that is marked
  pub passes_at : (f : E → E) (bs : List Bool) (xs ys : List E) → length bs ≡ length xs → length bs ≡ length ys
      → Passes m f (marked bs xs) (marked bs ys) → (j : ℕ) → j < length bs → T (get_or bs j false) → f (get_or xs j m.zero) ≡ get_or ys j m.zero
  passes_at f [] xs ys l k p j a t = absurd (not-suc-le-zero a)
  passes_at f (b ∷ bs) [] ys l k p j a t = absurd (omega arith)
  passes_at f (b ∷ bs) (x ∷ xs) [] l k p j a t = absurd (omega arith)
  passes_at f (true ∷ bs) (x ∷ xs) (y ∷ ys) l k p zero a t = p zero (suc-le-suc zero-le)
  passes_at f (false ∷ bs) (x ∷ xs) (y ∷ ys) l k p zero a t = absurd t
  passes_at f (true ∷ bs) (x ∷ xs) (y ∷ ys) l k p (suc j) a t =
      passes_at f bs xs ys (suc_inj l) (suc_inj k) (λ i h. p (suc i) (suc-le-suc h)) j (le_of_suc-le-suc a) t
  passes_at f (false ∷ bs) (x ∷ xs) (y ∷ ys) l k p (suc j) a t = passes_at f bs xs ys (suc_inj l) (suc_inj k) p j (le_of_suc-le-suc a) t

  pub passes_from : (f : E → E) (bs : List Bool) (xs ys : List E) → length bs ≡ length xs → length bs ≡ length ys
      → ((j : ℕ) → j < length bs → T (get_or bs j false) → f (get_or xs j m.zero) ≡ get_or ys j m.zero) → Passes m f (marked bs xs) (marked bs ys)
  passes_from f [] xs ys l k p i a = absurd (not-suc-le-zero a)
  passes_from f (b ∷ bs) [] ys l k p i a = absurd (omega arith)
  passes_from f (b ∷ bs) (x ∷ xs) [] l k p i a = absurd (omega arith)
  passes_from f (true ∷ bs) (x ∷ xs) (y ∷ ys) l k p zero a = p zero (suc-le-suc zero-le) tt
  passes_from f (true ∷ bs) (x ∷ xs) (y ∷ ys) l k p (suc i) a =
      passes_from f bs xs ys (suc_inj l) (suc_inj k) (λ j h t. p (suc j) (suc-le-suc h) t) i (le_of_suc-le-suc a)
  passes_from f (false ∷ bs) (x ∷ xs) (y ∷ ys) l k p i a =
      passes_from f bs xs ys (suc_inj l) (suc_inj k) (λ j h t. p (suc j) (suc-le-suc h) t) i a

  -- the points
  pub length_points : (j n : ℕ) → length (points_from m j n) ≡ n
  length_points j zero = refl
  length_points j (suc n) = ap suc (length_points (suc j) n)

  pub take_points : (j n more : ℕ) → n ≤ more → take n (points_from m j more) ≡ points_from m j n
  take_points j zero more l = refl
  take_points j (suc n) zero l = absurd (not-suc-le-zero l)
  take_points j (suc n) (suc more) l = ap (λ u. m.point j ∷ u) (take_points (suc j) n more (le_of_suc-le-suc l))

  pub getD_points : (j n i : ℕ) (z : E) → i < n → get_or (points_from m j n) i z ≡ m.point (i + j)
  getD_points j zero i z l = absurd (not-suc-le-zero l)
  getD_points j (suc n) zero z l = ap m.point (omega arith)
  getD_points j (suc n) (suc i) z l = getD_points (suc j) n i z (le_of_suc-le-suc l) ∙ ap m.point (omega arith)

  pub all_points : (P : E → Type 0) (j n : ℕ) → ((i : ℕ) → j ≤ i → i < j + n → P (m.point i)) → All P (points_from m j n)
  all_points P j zero f = tt
  all_points P j (suc n) f = (f j (omega arith) (omega arith), all_points P (suc j) n (λ i a b. f i (omega arith) (omega arith)))

  pub points_members : FieldLaws m → (j n : ℕ) → j + n ≤ 9 → Members m (points_from m j n)
  points_members laws j n l = members_from (points_from m j n) (all_points (λ x. T (m.member x)) j n (λ i a b. laws.point_in i (omega arith)))

  pub distinct_points : FieldLaws m → (j n : ℕ) → j + n ≤ 9 → Distinct (points_from m j n)
  distinct_points laws j zero l = tt
  distinct_points laws j (suc n) l = (
    all_points (λ y. ¬ (y ≡ m.point j)) (suc j) n (λ i a b e. let z : i ≡ j = laws.points_apart i j (omega arith) (omega arith) e in omega arith),
    distinct_points laws (suc j) n (omega arith),
  )

  -- what a function of the place made, if it made point j + i at place i
  points_each : {F : Type 0} (g : Mut F (ℕ × Unit {0}) E) (f : F) (whole : List E) (j i n k : ℕ) → ((i : ℕ) (y : E) (q : F) → Called g f (i, tt) y q → (q ≡ f) × (y ≡ m.point (i + j)))
      → IsFromFnResultFrom g f whole i n → i ≤ k → k < i + n → get_or whole k m.zero ≡ m.point (k + j)
  points_each g f whole j i zero k made each low high = absurd (omega arith)
  points_each g f whole j i (suc n) k made each low high = go (ℕ_discrete k i) (points_each g f whole j (i + 1) n k made (subst (λ q. IsFromFnResultFrom g q whole (i + 1) n) call.0 each.4))
    where
      call : (each.0 ≡ f) × (each.1 ≡ m.point (i + j))
      call = made i each.1 each.0 each.3

      go : Dec (k ≡ i) → (i + 1 ≤ k → k < i + 1 + n → get_or whole k m.zero ≡ m.point (k + j)) → get_or whole k m.zero ≡ m.point (k + j)
      go (yes e) later = ap (λ u. get_or whole u m.zero) e ∙ each.2.1 m.zero ∙ call.1 ∙ ap (λ u. m.point (u + j)) (sym e)
      go (no a) later = later (omega arith) (omega arith)

  pub points_made : {F : Type 0} (g : Mut F (ℕ × Unit {0}) E) (f : F) (whole : List E) (j n : ℕ) → IsFromFnResult g f whole n
      → ((i : ℕ) (y : E) (q : F) → Called g f (i, tt) y q → (q ≡ f) × (y ≡ m.point (i + j))) → whole ≡ points_from m j n
  points_made g f whole j n made each = ext_get_or m.zero whole (points_from m j n) (made.long ∙ sym (length_points j n))
      (λ k l. points_each g f whole j 0 n k each made.each zero-le (omega (arith, made.long)) ∙ sym (getD_points j n k m.zero (omega (arith, made.long))))

  -- the children before place j are filled: the known are as given, the others have the value at their point
  abbrev pub Filled : List Bool → List E → List E → (E → E) → List E → ℕ → Type 0
  Filled known given points f children j =
      ((i : ℕ) → i < j → get_or children i m.zero ≡ cond (get_or known i false) (get_or given i m.zero) (f (get_or points i m.zero)))
      × ((i : ℕ) → j ≤ i → get_or children i m.zero ≡ get_or given i m.zero)
