-- A number without a divisor up to its root is prime; the orders of the groups are, by computation.
use Rattle.std.proofs.Common.{◌≡◌, ◌≢◌, ℕ, zero, suc, ◌+◌, ◌-◌, ◌*◌, ◌/◌, ◌%◌, ◌<◌, ◌≤◌, Bool, true, false, not, ◌&&◌, T, List, length, get_or, zero-le, eqb, sym, ap, ◌∙◌, subst, mul-le-mul, mul-le-mul_left, mul-one, arith, lit<, lit≤, T_not}
use Rattle.std.specs.Prelude.{MatchBool}
use Rattle.std.specs.List.{range_with_len, AllWithin, HoldsAt}
use Rattle.std.proofs.lemmas.List.FromFn.{length-range_with_len, get_or-range_with_len}
use native.Mathlib.Nat.{div-add-mod, mul-mod_left}
use native.Mathlib.Decide.{dec_lt}
use Rattle.fields.specs.Primes.{Prime}

by_order : {X : Type 0} (a b : ℕ) → (a < b → X) → (b ≤ a → X) → X
by_order {X} a b below above = go (dec_lt a b)
  where
    go : Dec (a < b) → X
    go (yes h) = below h
    go (no h) = above (omega arith)

-- the numbers from 2 to just below k
abbrev pub tries : ℕ → List ℕ
tries k = range_with_len 2 (k - 2)

-- of a divisor and its quotient, one is below the root
pub rootless : (n k : ℕ) → 2 ≤ n → n < k * k → ((d : ℕ) → 1 < d → d < k → n % d ≡ 0 → ⊥) → Prime n
rootless n k big root none = (
  big,
  λ d low high z.
      let e = n / d in
      let whole : d * e ≡ n = omega (arith, div-add-mod n d) in
      by_order d k
      (λ small. none d low small z)
      (λ large.
      let small : e < k = by_order e k (λ h. h) (λ h. absurd (let m = mul-le-mul large h in omega arith)) in
      let some : 1 < e = by_order 1 e (λ h. h) (λ h. absurd (let m = mul-le-mul_left d h in let o = mul-one d in omega arith)) in
      none e some small (ap (λ x. x % e) (sym whole) ∙ mul-mod_left d e)),
)

-- by trying each number below k, which is just above the root
pub prime_by_trial : (n root k : ℕ) (r : Bool) → 2 ≤ n → root * root ≤ n → n < (root + 1) * (root + 1) → k ≡ root + 1
    → MatchBool r (AllWithin (λ d. n % d ≢ 0) (tries k) 0 (length (tries k))) ((i : ℕ) × (i < length (tries k)) × HoldsAt (λ d. n % d ≡ 0) (tries k) i)
    → (T r → Prime n) × (Prime n → T r)
prime_by_trial n root k true big low high e all = ((λ _. rootless n k big (subst (λ x. n < x * x) (sym e) high) none), (λ _. tt))
  where
    none : (d : ℕ) → 1 < d → d < k → n % d ≡ 0 → ⊥
    none d above below z =
        let i = d - 2 in
        let is : get_or (tries k) i 0 ≡ 2 + i = get_or-range_with_len 2 (k - 2) i 0 (omega arith) in
        all i 0 zero-le (omega (arith, length-range_with_len 2 (k - 2))) (ap (λ x. n % x) (is ∙ omega arith) ∙ z)
prime_by_trial n root k false big low high e some = ((λ t. absurd t), λ prime. absurd (prime.1 d (omega arith) small (ap (λ x. n % x) (sym is) ∙ some.2 0)))
  where
    d : ℕ
    d = 2 + some.0

    is : get_or (tries k) some.0 0 ≡ d
    is = get_or-range_with_len 2 (k - 2) some.0 0 (omega (arith, some.1, length-range_with_len 2 (k - 2)))

    small : d < n
    small =
        let within : d ≤ root = omega (arith, some.1, length-range_with_len 2 (k - 2)) in
        let m = mul-le-mul within within in
        let two : 2 ≤ d = omega arith in
        let t = mul-le-mul_left d two in
        omega arith

-- none of the k numbers from d on divides n
unfoldable pub undivided : ℕ → ℕ → ℕ → Bool
undivided n zero d = true
undivided n (suc k) d = not (eqb (n % d) 0) && undivided n k (suc d)

both : (a b : Bool) → T (a && b) → T a × T b
both true b t = (tt, t)
both false b t = absurd t

undivided_by : (n k d : ℕ) → T (undivided n k d) → (e : ℕ) → d ≤ e → e < d + k → n % e ≡ 0 → ⊥
unfolding undivided
undivided_by n zero d t e low high z = omega arith
undivided_by n (suc k) d t e low high z =
    let parts = both (not (eqb (n % d) 0)) (undivided n k (suc d)) t in
    by_order d e
    (λ past. undivided_by n k (suc d) parts.1 e past (omega arith) z)
    (λ back.
    let same : e ≡ d = omega arith in
    let none : n % d ≡ 0 = ap (λ x. n % x) (sym same) ∙ z in
    T_not (eqb (n % d) 0) parts.0 (subst (λ x. T (eqb x 0)) (sym none) tt))

-- by trying the k numbers from 2 on
pub tried : (n k : ℕ) → 2 ≤ n → T (undivided n k 2) → n < (2 + k) * (2 + k) → Prime n
tried n k big t root = rootless n (2 + k) big root (λ d low small. undivided_by n k 2 t d low small)

pub prime_11 : Prime 11
unfolding undivided
prime_11 = tried 11 2 (lit≤ tt) tt (lit< tt)

pub prime_13 : Prime 13
unfolding undivided
prime_13 = tried 13 2 (lit≤ tt) tt (lit< tt)

pub prime_331 : Prime 331
unfolding undivided
prime_331 = tried 331 17 (lit≤ tt) tt (lit< tt)

pub prime_166667 : Prime 166667
unfolding undivided
prime_166667 = tried 166667 407 (lit≤ tt) tt (lit< tt)
