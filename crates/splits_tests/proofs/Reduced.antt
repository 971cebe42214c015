-- What is reduced modulo the order is a scalar.
use Rattle.std.proofs.Common.{◌≡◌, ℕ, zero, suc, ◌+◌, ◌%◌, ◌<◌, ◌≤◌, T, ltb, List, get_or, sym, ap, ◌∙◌, subst, mod-lt, arith, lt→ltb}
use Rattle.std.specs.Fn.{Called}
use Rattle.std.specs.Array.{MapsFrom}
use denote.Param.Members.{Mut}
use native.Mathlib.Decide.{ℕ_discrete}

pub reduced : (x v r q : ℕ) → x ≡ v % r → r ≡ q → 11 ≤ q → T (ltb x q)
reduced x v r q e s l = subst (λ n. T (ltb n q)) (sym (e ∙ ap (λ n. v % n) s)) (lt→ltb (v % q) q (mod-lt v (omega arith)))

-- what holds of each result of a function that stays as it was, holds of each entry that it made
pub made_each : {F A B : Type 0} (g : Mut F (A × Unit {0}) B) (P : B → Type 0) (f : F) (xs : List A) (ys : List B) (d : B) (i n k : ℕ)
    → ((x : A) (y : B) (q : F) → Called g f (x, tt) y q → (q ≡ f) × P y) → MapsFrom g f xs ys i n → i ≤ k → k < i + n → P (get_or ys k d)
made_each g P f xs ys d i zero k made each low high = absurd (omega arith)
made_each g P f xs ys d i (suc n) k made each low high =
    go (ℕ_discrete k i) (made_each g P f xs ys d (i + 1) n k made (subst (λ q. MapsFrom g q xs ys (i + 1) n) call.0 each.6))
  where
    call : (each.0 ≡ f) × P each.2
    call = made each.1 each.2 each.0 each.5

    go : Dec (k ≡ i) → (i + 1 ≤ k → k < i + 1 + n → P (get_or ys k d)) → P (get_or ys k d)
    go (yes e) later = subst P (sym (ap (λ u. get_or ys u d) e ∙ each.4.1 d)) call.1
    go (no a) later = later (omega arith) (omega arith)
