-- Keys of a width: their scalars, and their sums.
use Rattle.std.specs.Prelude.{◌≡◌, ℕ, ◌+◌, ◌%◌, ◌<◌, Bool, true, false, cond, ◌&&◌, T, ◌==◌, nat_lt}
use Rattle.std.proofs.Common.{sym, ap, subst, ◌∙◌, mod-lt, arith, ltb→lt, lt→ltb, eqb→eq}
use Rattle.std.proofs.Math.Nat.{zero-mod}
use Rattle.std.specs.Float.Ieee.Fits.{and_i, and_l, and_r}
use Rattle.kinds.specs.Kinds.{Key, is_key, add_keys}

abbrev Second : ℕ → Bool → Bool → ℕ → Type 0
Second q two one n = T (cond two (nat_lt n q) (one && n == 0))

pub key_first : (q n : ℕ) (w : Key) → T (is_key q n w) → w.0.0 < q
key_first q n w h = ltb→lt w.0.0 q (and_l (nat_lt w.0.0 q) _ h)

second_adds : (q : ℕ) (two one : Bool) (a b : ℕ) → 0 < q → Second q two one a → Second q two one b → Second q two one ((a + b) % q)
second_adds q true one a b pos h k = lt→ltb ((a + b) % q) q (mod-lt (a + b) pos)
second_adds q false true a b pos h k =
    let x = eqb→eq a 0 h in
    let y = eqb→eq b 0 k in
    let z : a + b ≡ 0 = omega arith in
    subst (λ n. T (n == 0)) (sym (ap (λ n. n % q) z ∙ zero-mod q)) tt
second_adds q false false a b pos h k = h

-- sums of keys are keys
pub key_adds : (q n : ℕ) → 0 < q → (v w : Key) → T (is_key q n v) → T (is_key q n w) → T (is_key q n (add_keys q v w))
key_adds q n pos v w h k =
    and_i _ _ (lt→ltb ((v.0.0 + w.0.0) % q) q (mod-lt (v.0.0 + w.0.0) pos))
    (second_adds q (n == 2) (n == 1) v.1.0 w.1.0 pos (and_r (nat_lt v.0.0 q) _ h) (and_r (nat_lt w.0.0 q) _ k))
