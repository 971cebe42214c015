-- A join of two lawful sets is lawful.
use Rattle.std.specs.Prelude.{◌≡◌, ℕ, ◌+◌, ◌-◌, ◌<◌, ◌≤◌, Bool, true, false, cond, ◌&&◌, ◌==◌, nat_le, nat_lt, refl}
use Rattle.std.proofs.Common.{sym, ap, subst, ◌∙◌, arith}
use Rattle.std.proofs.lemmas.Bool.{ltb-true, ltb-false, leb-true, eqb-true, le-ltb, and_parts, and_right}
use Rattle.kinds.specs.Kinds.{no_kind, KindModel, KindLaws, Lawful}
use Rattle.kinds.specs.Joins.{fits, join}

-- by the two tests: does it fit, and is the number past the left's
by_tests : (s t : Bool) (P : Bool → Bool → Type 0) → (s ≡ true → t ≡ true → P true true) → (s ≡ true → t ≡ false → P true false) → (s ≡ false → P false t) → P s t
by_tests true true P f g h = f refl refl
by_tests true false P f g h = g refl refl
by_tests false t P f g h = h refl

module _ (a b : KindModel) (la : Lawful a) (lb : Lawful b) where
  one_order : fits a b ≡ true → a.q ≡ b.q
  one_order e = eqb-true a.q b.q (and_parts (a.q == b.q) (nat_le (a.count + b.count) 255) e).0

  few_kinds : fits a b ≡ true → a.count + b.count ≤ 255
  few_kinds e = leb-true (a.count + b.count) 255 (and_parts (a.q == b.q) (nat_le (a.count + b.count) 255) e).1

  few : (s : Bool) → fits a b ≡ s → cond s (a.count + b.count) a.count ≤ 255
  few true e = few_kinds e
  few false e = la.few

  each : (n : ℕ) → 1 ≤ n → n ≤ (join a b).count → KindLaws a.q ((join a b).kind n)
  each n low high =
      by_tests (fits a b) (nat_lt a.count n) (λ s t. n ≤ cond s (a.count + b.count) a.count → KindLaws a.q (cond (s && t) (b.kind (n - a.count)) (a.kind n)))
      (λ e f le. let past = ltb-true a.count n f in subst (λ q. KindLaws q (b.kind (n - a.count))) (sym (one_order e)) (lb.each (n - a.count) (omega arith) (omega arith)))
      (λ e f le. la.each n low (ltb-false a.count n f))
      (λ e le. la.each n low le)
      high

  others : (n : ℕ) → (join a b).count < n → (join a b).kind n ≡ no_kind
  others n high =
      by_tests (fits a b) (nat_lt a.count n) (λ s t. cond s (a.count + b.count) a.count < n → cond (s && t) (b.kind (n - a.count)) (a.kind n) ≡ no_kind)
      (λ e f lt. lb.others (n - a.count) (omega arith))
      (λ e f lt. la.others n (let le = ltb-false a.count n f in absurd (omega arith)))
      (λ e lt. la.others n lt)
      high

  none : (join a b).kind 0 ≡ no_kind
  none = ap (λ t. cond t (b.kind (0 - a.count)) (a.kind 0)) (and_right (fits a b) (nat_lt a.count 0) (le-ltb a.count 0 (omega arith))) ∙ la.none

  pub join_lawful : Lawful (join a b)
  join_lawful = record {
    prime = la.prime;
    low = la.low;
    high = la.high;
    few = few (fits a b) refl;
    each = each;
    none = none;
    others = others;
  }
