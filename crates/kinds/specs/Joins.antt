-- Joins of two sets of leaf kinds.
--   fits a b          the sides have one q, and together at most 255 kinds
--   join a b          where the sides fit, the kinds of a and then those of b, else a alone
--   IsSide a b n s    s tells whose kind is kind n of the join, and its number there
--   join_refusal a b  why a join is not made
use Rattle.std.specs.Prelude.{◌≡◌, ℕ, ◌+◌, ◌-◌, Bool, cond, ◌&&◌, [], ◌∷◌, Option, ◌==◌, nat_le, nat_lt}
use Rattle.refusals.specs.declared.Refusal.{Refusal}
use Rattle.refusals.specs.declared.Refusal.TheVariants.{OrdersDiffer, TooManyKinds}
use Rattle.refusals.specs.Checks.{unless, first}
use Rattle.kinds.specs.Kinds.{KindModel}
use Rattle.kinds.specs.declared.side.Side.{Side}
use Rattle.kinds.specs.declared.side.Side.TheVariants.{Left, Right}

abbrev pub fits : KindModel → KindModel → Bool
fits a b = a.q == b.q && nat_le (a.count + b.count) 255

abbrev pub join : KindModel → KindModel → KindModel
join a b = record {
  q = a.q;
  count = cond (fits a b) (a.count + b.count) a.count;
  kind = λ n. cond (fits a b && nat_lt a.count n) (b.kind (n - a.count)) (a.kind n);
}

abbrev pub IsSide : KindModel → KindModel → ℕ → Side → Type 0
IsSide a b n (Left k) = a.kind k ≡ (join a b).kind n
IsSide a b n (Right k) = (b.q ≡ a.q) × (b.kind k ≡ (join a b).kind n)

abbrev pub join_refusal : KindModel → KindModel → Option Refusal
join_refusal a b = first (unless (a.q == b.q) OrdersDiffer ∷ unless (nat_le (a.count + b.count) 255) TooManyKinds ∷ [])
