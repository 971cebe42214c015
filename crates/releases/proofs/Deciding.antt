-- Checks in order tell one thing, and tell something where each can be decided.
use Rattle.std.proofs.Common.{◌≡◌, ℕ, zero, suc, ◌<◌, ◌⊎◌, Some, None, Option, sym, refl, ap, ◌∙◌, subst, inl, inr, arith}
use native.Mathlib.Decide.{dec_lt}
use Rattle.refusals.specs.declared.Refusal.{Refusal}
use Rattle.releases.specs.Checks.{Clear, Test, Each}

-- what is told is one
abbrev pub Alike : (Option Refusal → Type 0) → Type 0
Alike next = (o o' : Option Refusal) → next o → next o' → o ≡ o'

-- something is told
abbrev pub Tells : (Option Refusal → Type 0) → Type 0
Tells next = (o : Option Refusal) × next o

pub clear_alike : Alike Clear
clear_alike o o' a b = a ∙ sym b

pub clear_tells : Tells Clear
clear_tells = (None, refl)

module _ (next : Option Refusal → Type 0) where
  pub test_alike : (P : Type 0) (why : Refusal) → Alike next → Alike (Test P why next)
  test_alike P why h o o' (inl a) (inl b) = h o o' a.1 b.1
  test_alike P why h o o' (inl a) (inr b) = absurd (b.0 a.0)
  test_alike P why h o o' (inr a) (inl b) = absurd (a.0 b.0)
  test_alike P why h o o' (inr a) (inr b) = a.1 ∙ sym b.1

  pub test_tells : (P : Type 0) (why : Refusal) → Dec P → Tells next → Tells (Test P why next)
  test_tells P why (yes p) t = (t.0, inl (p, t.1))
  test_tells P why (no n) t = (Some why, inr (n, refl))

  pub each_alike : (n : ℕ) (P : ℕ → Type 0) (why : ℕ → Refusal) → Alike next → Alike (Each n P why next)
  each_alike n P why h o o' (inl a) (inl b) = h o o' a.1 b.1
  each_alike n P why h o o' (inl a) (inr b) = absurd (b.3 (a.0 b.0 b.1))
  each_alike n P why h o o' (inr a) (inl b) = absurd (a.3 (b.0 a.0 a.1))
  each_alike n P why h o o' (inr a) (inr b) = a.4 ∙ ap (λ i. Some (why i)) (same (dec_lt a.0 b.0) (dec_lt b.0 a.0)) ∙ sym b.4
    where
      same : Dec (a.0 < b.0) → Dec (b.0 < a.0) → a.0 ≡ b.0
      same (yes l) d = absurd (a.3 (b.2 a.0 l))
      same (no l) (yes k) = absurd (b.3 (a.2 b.0 k))
      same (no l) (no k) = omega arith

  -- up to place n nothing fails, or there is a first place that does
  first_fault : (n : ℕ) (P : ℕ → Type 0) → ((i : ℕ) → i < n → Dec (P i)) → ((i : ℕ) → i < n → P i) ⊎ ((i : ℕ) × (i < n) × ((j : ℕ) → j < i → P j) × (¬ P i))
  first_fault zero P d = inl (λ i l. absurd (omega arith))
  first_fault (suc n) P d = go (first_fault n P (λ i l. d i (omega arith))) (d n (omega arith))
    where
      at : ((i : ℕ) → i < n → P i) → P n → (i : ℕ) → i < suc n → Dec (i < n) → P i
      at a p i l (yes k) = a i k
      at a p i l (no k) = let e : n ≡ i = omega arith in subst P e p

      go : ((i : ℕ) → i < n → P i) ⊎ ((i : ℕ) × (i < n) × ((j : ℕ) → j < i → P j) × (¬ P i)) → Dec (P n)
          → ((i : ℕ) → i < suc n → P i) ⊎ ((i : ℕ) × (i < suc n) × ((j : ℕ) → j < i → P j) × (¬ P i))
      go (inl a) (yes p) = inl (λ i l. at a p i l (dec_lt i n))
      go (inl a) (no q) = inr (n, omega arith, a, q)
      go (inr b) d = let l = b.1 in inr (b.0, omega arith, b.2, b.3)

  pub each_tells : (n : ℕ) (P : ℕ → Type 0) (why : ℕ → Refusal) → ((i : ℕ) → i < n → Dec (P i)) → Tells next → Tells (Each n P why next)
  each_tells n P why d t = go (first_fault n P d)
    where
      go : ((i : ℕ) → i < n → P i) ⊎ ((i : ℕ) × (i < n) × ((j : ℕ) → j < i → P j) × (¬ P i)) → Tells (Each n P why next)
      go (inl a) = (t.0, inl (a, t.1))
      go (inr b) = (Some (why b.0), inr (b.0, b.1, b.2, b.3, refl))
