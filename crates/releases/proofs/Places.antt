-- What stands in a list, and what a test says.
use Rattle.std.proofs.Common.{◌≡◌, ℕ, zero, suc, ◌<◌, Bool, true, false, not, T, List, [], ◌∷◌, map, length, get_or, sym, refl, ap, subst, le_of_suc-le-suc, not-suc-le-zero, arith}
use mathlib.Core.Option.{Option, some, none}
use lib.ListN.{get_elem?}

pub is_true : (b : Bool) → T b → b ≡ true
is_true true t = refl
is_true false t = absurd t

pub is_false : (b : Bool) → T (not b) → b ≡ false
is_false true t = absurd t
is_false false t = refl

pub either : {P : Type 0} (b : Bool) → (T b → P) → (T (not b) → P) → P
either true f g = f tt
either false f g = g tt

pub found : {A : Type 0} (xs : List A) (i : ℕ) → i < length xs → (x : A) × (get_elem? xs i ≡ some x)
found [] i l = absurd (not-suc-le-zero l)
found (x ∷ xs) zero l = (x, refl)
found (x ∷ xs) (suc i) l = found xs i (le_of_suc-le-suc l)

abbrev is_some : {A : Type 0} → Option A → Type 0
is_some none = ⊥
is_some (some x) = Unit {0}

pub none_some : {A P : Type 0} (x : A) → none ≡ some x → P
none_some x e = absurd (subst is_some (sym e) tt)

pub inside : {A : Type 0} (xs : List A) (i : ℕ) (x : A) → get_elem? xs i ≡ some x → i < length xs
inside [] i x e = none_some x e
inside (y ∷ ys) zero x e = omega arith
inside (y ∷ ys) (suc i) x e = let l = inside ys i x e in omega arith

abbrev value_of : {A : Type 0} → A → Option A → A
value_of d none = d
value_of d (some x) = x

pub some_inj : {A : Type 0} (x y : A) → some x ≡ some y → x ≡ y
some_inj x y e = ap (value_of x) e

pub get_d_map : {A : Type 0} (f : ℕ → A) (cs : List ℕ) (j : ℕ) (d : A) → j < length cs → get_or (map f cs) j d ≡ f (get_or cs j 0)
get_d_map f [] j d l = absurd (not-suc-le-zero l)
get_d_map f (c ∷ cs) zero d l = refl
get_d_map f (c ∷ cs) (suc j) d l = get_d_map f cs j d (le_of_suc-le-suc l)

-- f 0, f 1, ..: n of them
abbrev pub run : {A : Type 0} → (ℕ → A) → ℕ → List A
run f zero = []
run f (suc n) = f zero ∷ run (λ j. f (suc j)) n

pub length_run : {A : Type 0} (f : ℕ → A) (n : ℕ) → length (run f n) ≡ n
length_run f zero = refl
length_run f (suc n) = ap suc (length_run (λ j. f (suc j)) n)

pub getD_run : {A : Type 0} (f : ℕ → A) (n j : ℕ) (d : A) → j < n → get_or (run f n) j d ≡ f j
getD_run f zero j d h = absurd (not-suc-le-zero h)
getD_run f (suc n) zero d h = refl
getD_run f (suc n) (suc j) d h = getD_run (λ j. f (suc j)) n j d (le_of_suc-le-suc h)
