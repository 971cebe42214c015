-- Lists that are filled place by place.
use Rattle.std.proofs.Common.{◌≡◌, ℕ, ◌+◌, ◌<◌, List, length, get_or, set, sym, subst, arith, get_or-set_other, get_or-set_same}
use native.Mathlib.Decide.{ℕ_discrete}

-- what holds of the places before n is kept, and holds of what is written at n
pub filled : {A : Type 0} (Q : ℕ → A → Type 0) (d : A) (xs : List A) (n : ℕ) (x : A) → n < length xs → Q n x → ((k : ℕ) → k < n → Q k (get_or xs k d))
    → (k : ℕ) → k < n + 1 → Q k (get_or (set xs n x) k d)
filled Q d xs n x room holds kept k h = go (ℕ_discrete k n)
  where
    go : Dec (k ≡ n) → Q k (get_or (set xs n x) k d)
    go (yes e) = subst (λ k. Q k (get_or (set xs n x) k d)) (sym e) (subst (Q n) (sym (get_or-set_same xs n x d room)) holds)
    go (no ne) = subst (Q k) (sym (get_or-set_other xs n k x d ne)) (kept k (omega arith))
