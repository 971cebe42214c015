-- Every position by those after it, and by those before it.
use Rattle.std.proofs.Common.{◌≡◌, ℕ, zero, suc, ◌+◌, ◌<◌, ◌≤◌, Bool, cond, List, [], ◌∷◌, length, get_or, refl, ap, ◌∙◌, arith}
use Rattle.releases.specs.Entries.{count}

pub from_end : (n : ℕ) (P : ℕ → Type 0) → ((i : ℕ) → i < n → ((c : ℕ) → i < c → c < n → P c) → P i) → (i : ℕ) → i < n → P i
from_end n P f i l = go n i (omega arith) l
  where
    go : (d i : ℕ) → n ≤ i + d → i < n → P i
    go zero i h l = absurd (omega arith)
    go (suc d) i h l = f i l (λ c a b. go d c (omega arith) b)

pub from_front : (n : ℕ) (P : ℕ → Type 0) → ((i : ℕ) → i < n → ((p : ℕ) → p < i → P p) → P i) → (i : ℕ) → i < n → P i
from_front n P f i l = go n i l l
  where
    go : (d i : ℕ) → i < d → i < n → P i
    go zero i h l = absurd (omega arith)
    go (suc d) i h l = f i l (λ p a. go d p (omega arith) (omega arith))

pub count_same : (f g : ℕ → Bool) (cs : List ℕ) → ((j : ℕ) → j < length cs → f (get_or cs j 0) ≡ g (get_or cs j 0)) → count f cs ≡ count g cs
count_same f g [] h = refl
count_same f g (c ∷ cs) h =
    let rest = count_same f g cs (λ j l. h (suc j) (omega arith)) in
    ap (λ b. cond b (suc (count f cs)) (count f cs)) (h zero (omega arith)) ∙ ap (λ n. cond (g c) (suc n) n) rest
