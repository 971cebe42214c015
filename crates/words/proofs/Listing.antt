-- The numbers of a line, read one by one.
use Rattle.std.proofs.Common.{◌≡◌, ℕ, suc, List, [], ◌∷◌, ◌++◌, Ok, Err, Result, sym, refl, ap, ◌∙◌, append_assoc, append-nil}
use Rattle.words.specs.declared.fault.Fault.{Fault}
use Rattle.words.specs.Words.{numbers_at, number_at, before, none_at, end_at, following, after_word}

-- numbers that were read, before those that are left
abbrev pub prefixed : List ℕ → Result (List ℕ) Fault → Result (List ℕ) Fault
prefixed xs (Ok ys) = Ok (xs ++ ys)
prefixed xs (Err why) = Err why

pub prefixed_more : (xs : List ℕ) (x : ℕ) (r : Result (List ℕ) Fault) → prefixed xs (before (Ok x) r) ≡ prefixed (xs ++ x ∷ []) r
prefixed_more xs x (Ok ys) = ap Ok (sym (append_assoc xs (x ∷ []) ys))
prefixed_more xs x (Err why) = refl

pub numbers_next : (n place : ℕ) (bs : List ℕ) (k : ℕ) → n ≡ suc k
    → numbers_at n place bs ≡ before (number_at place bs) (numbers_at k (following place) (after_word bs))
unfolding numbers_at
numbers_next n place bs k e = ap (λ m. numbers_at m place bs) e

pub numbers_end : (n place : ℕ) (bs : List ℕ) → n ≡ 0 → numbers_at n place bs ≡ none_at (end_at place bs)
unfolding numbers_at
numbers_end n place bs e = ap (λ m. numbers_at m place bs) e

module _ (xs : List ℕ) (n place : ℕ) (bs : List ℕ) where
  pub numbers_stop : (k : ℕ) (why : Fault) → n ≡ suc k → number_at place bs ≡ Err why → prefixed xs (numbers_at n place bs) ≡ Err why
  numbers_stop k why e h = ap (prefixed xs) (numbers_next n place bs k e ∙ ap (λ r. before r (numbers_at k (following place) (after_word bs))) h)

  pub numbers_more : (k x : ℕ) → n ≡ suc k → number_at place bs ≡ Ok x
      → prefixed xs (numbers_at n place bs) ≡ prefixed (xs ++ x ∷ []) (numbers_at k (following place) (after_word bs))
  numbers_more k x e h =
      ap (prefixed xs) (numbers_next n place bs k e ∙ ap (λ r. before r (numbers_at k (following place) (after_word bs))) h)
      ∙ prefixed_more xs x (numbers_at k (following place) (after_word bs))

  pub numbers_unended : (why : Fault) → n ≡ 0 → end_at place bs ≡ Err why → prefixed xs (numbers_at n place bs) ≡ Err why
  numbers_unended why e h = ap (prefixed xs) (numbers_end n place bs e ∙ ap none_at h)

  pub numbers_ended : (u : Unit {0}) → n ≡ 0 → end_at place bs ≡ Ok u → prefixed xs (numbers_at n place bs) ≡ Ok xs
  numbers_ended u e h = ap (prefixed xs) (numbers_end n place bs e ∙ ap none_at h) ∙ ap Ok (append-nil xs)
