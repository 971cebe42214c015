-- Sets that are written out as lists: a set of one kind, and joins.
use Rattle.std.proofs.Common.{◌≡◌, ℕ, zero, suc, ◌+◌, ◌-◌, ◌≤◌, true, cond, ◌&&◌, eqb, ltb, leb, List, [], ◌∷◌, ◌++◌, length, get_or, sym, refl, ap, ◌∙◌, arith, length-append}
use Rattle.std.proofs.Math.ListN.{get_or-append}
use Rattle.std.proofs.Math.Seq.{get_or-append_right}
use Rattle.std.proofs.lemmas.Bool.{cond-false, cond_both, ltb-true, ltb-false, eq-eqb, ne_eqb, le-ltb, le-leb, and_from, and_parts, and_right}
use Rattle.kinds.specs.Kinds.{Kind, no_kind}
use Rattle.kinds.specs.Coded.{alone}
use Rattle.kinds.specs.Joins.{fits, join}
use Rattle.kinds.specs.Numbered.{set_of}

pub alone_listed : (q : ℕ) (k : Kind) → alone q k ≡ set_of q (k ∷ [])
alone_listed q k = λ t. record { q = q; count = 1; kind = λ n. at n t }
  where
    at : (n : ℕ) → cond (eqb n 1) k no_kind ≡ get_or (no_kind ∷ k ∷ []) n no_kind
    at zero = refl
    at (suc zero) = refl
    at (suc (suc n)) = cond-false (eqb (suc (suc n)) 1) k no_kind (ne_eqb (suc (suc n)) 1 (λ e. omega arith))

module _ (q : ℕ) (ks ls : List Kind) (few : length ks + length ls ≤ 255) where
  fitting : fits (set_of q ks) (set_of q ls) ≡ true
  fitting = and_from (eqb q q) (leb (length ks + length ls) 255) (eq-eqb q q refl) (le-leb (length ks + length ls) 255 few)

  -- up to the left's count its kinds, and past it the right's
  kinds_at : (n : ℕ) → (join (set_of q ks) (set_of q ls)).kind n ≡ (set_of q (ks ++ ls)).kind n
  kinds_at zero = cond-false _ _ _ (and_right (fits (set_of q ks) (set_of q ls)) (ltb (length ks) 0) (le-ltb (length ks) 0 (omega arith)))
  kinds_at (suc n) =
      cond_both (fits (set_of q ks) (set_of q ls) && ltb (length ks) (suc n)) ((set_of q ls).kind (suc n - length ks)) (get_or ks n no_kind)
      (λ k. k ≡ get_or (ks ++ ls) n no_kind)
      (λ e.
      let past = ltb-true (length ks) (suc n) (and_parts (fits (set_of q ks) (set_of q ls)) (ltb (length ks) (suc n)) e).1 in
      let one : suc n - length ks ≡ suc (n - length ks) = omega arith in
      ap (set_of q ls).kind one ∙ sym (get_or-append_right ks ls n no_kind (omega arith)))
      (λ e.
      let low = ltb-false (length ks) (suc n) (rw fitting at e) in
      sym (get_or-append ks ls no_kind n (omega arith)))

  pub join_listed : join (set_of q ks) (set_of q ls) ≡ set_of q (ks ++ ls)
  join_listed = λ t. record { q = q; count = counts t; kind = λ n. kinds_at n t }
    where
      counts : cond (fits (set_of q ks) (set_of q ls)) (length ks + length ls) (length ks) ≡ length (ks ++ ls)
      counts = ap (λ b. cond b (length ks + length ls) (length ks)) fitting ∙ sym (length-append ks ls)
