-- Decimal numbers, read digit by digit.
use Rattle.std.proofs.Common.{◌≡◌, ℕ, ◌+◌, ◌-◌, ◌*◌, ◌≤◌, Bool, true, false, cond, ◌&&◌, ltb, List, [], ◌∷◌, Some, None, refl, ap, arith}
use Rattle.std.proofs.lemmas.Bool.{le-ltb, ltb-false}
use Rattle.words.specs.Bytes.{is_digit, digits, decimal, continued}

pub decimal_grows : (n : ℕ) (w : List ℕ) → n ≤ decimal n w
decimal_grows n [] = omega arith
decimal_grows n (b ∷ w) =
    let more = decimal_grows (n * 10 + (b - 48)) w in
    omega arith

too_large : (n : ℕ) (w : List ℕ) → ltb n 4294967296 ≡ false → ltb (decimal n w) 4294967296 ≡ false
too_large n w e =
    let low = ltb-false n 4294967296 e in
    let more = decimal_grows n w in
    le-ltb (decimal n w) 4294967296 (omega arith)

none_by : (d f e t : Bool) (n m : ℕ) → (f ≡ false → t ≡ false) → cond ((d && true) && f) (Some n) None ≡ None → cond ((d && e) && t) (Some m) None ≡ None
none_by false f e t n m late h = refl
none_by true true e t n m late h = let z : ◌≡◌ {A = ℕ} 0 1 = cc in absurd (omega arith)
none_by true false true t n m late h = ap (λ b. cond b (Some m) None) (late refl)
none_by true false false t n m late h = refl

-- a byte that is no digit, or one digit too many, spoils what follows
pub continued_none : (n b : ℕ) (w : List ℕ) → continued n (b ∷ []) ≡ None → continued n (b ∷ w) ≡ None
continued_none n b w h =
    let m = n * 10 + (b - 48) in
    none_by (is_digit b) (ltb m 4294967296) (digits w) (ltb (decimal m w) 4294967296) m (decimal m w) (too_large m w) h

some_by : (d f : Bool) (n v : ℕ) (w : List ℕ) → cond ((d && true) && f) (Some n) None ≡ Some v
    → cond ((d && digits w) && ltb (decimal n w) 4294967296) (Some (decimal n w)) None ≡ continued v w
some_by true true n v w h = let e : n ≡ v = cc in ap (λ x. continued x w) e
some_by true false n v w h = let z : ◌≡◌ {A = ℕ} 0 1 = cc in absurd (omega arith)
some_by false f n v w h = let z : ◌≡◌ {A = ℕ} 0 1 = cc in absurd (omega arith)
