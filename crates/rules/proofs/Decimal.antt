-- A key's digits.
use Rattle.std.proofs.Common.{◌≡◌, ℕ, ◌+◌, ◌-◌, ◌*◌, ◌/◌, ◌%◌, ◌<◌, ◌≤◌, false, List, [], ◌∷◌, ◌++◌, length, get_or, drop, Ok, Err, Some, slice_get, sym, refl, ap, ◌∙◌, arith, lit<, le-ltb, lt-ltb, ne_eqb, le-leb}
use native.Mathlib.Decide.{dec_lt}
use borrow.Author.Tests.{lt-leb}
use Rattle.std.proofs.lemmas.List.{drop_more, length-append}
use Rattle.refusals.specs.declared.Refusal.TheVariants.{Unexpected, KeyNumber}
use Rattle.rules.specs.Grammar.{key, decimal}
use Rattle.rules.specs.Faults.{number, digits, after, Open, State, state, step, finish, run, digit}
use Rattle.rules.specs.ReaderSteps.{from, Numbered, Unnumbered}
use Rattle.rules.proofs.Steps.{moves, stops, fails, unfinished, run_cons, ends, go, inside, stands}

pub decimal_one : (d : ℕ) → d < 10 → decimal d ≡ (48 + d) ∷ []
unfolding decimal
decimal_one d h = rw (lt-ltb d 10 h)

pub decimal_more : (v d : ℕ) → 1 ≤ v → d < 10 → v * 10 + d ≤ 255 → decimal (v * 10 + d) ≡ decimal v ++ (48 + d) ∷ []
unfolding decimal
decimal_more v d lo hi most = elim (dec_lt v 10) [
  | yes p ↦
      (let a : (v * 10 + d) / 10 ≡ v = omega arith in
      let b : (v * 10 + d) % 10 ≡ d = omega arith in
      rw (le-ltb (v * 10 + d) 10 (omega arith), lt-ltb (v * 10 + d) 100 (omega arith), lt-ltb v 10 p, a, b))
  | no p ↦
      (let a : (v * 10 + d) / 100 ≡ v / 10 = omega arith in
      let b : (v * 10 + d) / 10 ≡ v = omega arith in
      let e : (v * 10 + d) % 10 ≡ d = omega arith in
      rw (le-ltb (v * 10 + d) 10 (omega arith), le-ltb (v * 10 + d) 100 (omega arith), le-ltb v 10 (omega arith), lt-ltb v 100 (omega arith), a, b, e))
]

-- the digits so far
pub record Sofar (s : List ℕ) (at v next : ℕ) : Type 0 where
  pub least : 1 ≤ v
  pub most : v ≤ 255
  pub reach : next ≤ length s
  pub ends : next ≡ at + length (decimal v)
  pub account : (gs : List Open) (k : ℕ) → from s (state gs k number) at ≡ from s (state gs k (digits at v)) next

pub step_first : (gs : List Open) (k at b : ℕ) → 49 ≤ b → b ≤ 57 → step (state gs k number) at b ≡ Ok (state gs k (digits at (b - 48)))
unfolding step
step_first gs k at b lo hi = rw (le-leb 48 b (omega arith), le-leb b 57 hi, ne_eqb b 48 (λ e. omega arith))

pub step_zero : (gs : List Open) (k at : ℕ) → step (state gs k number) at 48 ≡ Err (KeyNumber at)
unfolding step
step_zero gs k at = refl

pub step_none : (gs : List Open) (k at b : ℕ) → digit b ≡ false → step (state gs k number) at b ≡ Err (Unexpected at)
unfolding step
step_none gs k at b e = rw e

pub step_digit : (gs : List Open) (k f v at b : ℕ) → 48 ≤ b → b ≤ 57 → v * 10 + (b - 48) ≤ 255 → step (state gs k (digits f v)) at b ≡ Ok (state gs k (digits f (v * 10 + (b - 48))))
unfolding step
step_digit gs k f v at b lo hi most = rw (le-leb 48 b lo, le-leb b 57 hi, le-leb (v * 10 + (b - 48)) 255 most)

pub step_large : (gs : List Open) (k f v at b : ℕ) → 48 ≤ b → b ≤ 57 → 255 < v * 10 + (b - 48) → step (state gs k (digits f v)) at b ≡ Err (KeyNumber f)
unfolding step
step_large gs k f v at b lo hi most = rw (le-leb 48 b lo, le-leb b 57 hi, lt-leb (v * 10 + (b - 48)) 255 most)

pub step_past : (gs : List Open) (k f v at b : ℕ) → digit b ≡ false → step (state gs k (digits f v)) at b ≡ step (state gs k (after (key v))) at b
unfolding step
step_past gs k f v at b e = rw e

pub finish_past : (gs : List Open) (k f v at : ℕ) → finish (state gs k (digits f v)) at ≡ finish (state gs k (after (key v))) at
unfolding finish
finish_past [] k f v at = refl
finish_past (g ∷ gs) k f v at = refl

pub past : (s : List ℕ) (gs : List Open) (k f v at : ℕ) → digit (get_or s at 0) ≡ false → from s (state gs k (digits f v)) at ≡ from s (state gs k (after (key v))) at
unfolding from
past s gs k f v at e = elim (dec_lt at (length s)) [
  | yes p ↦
      (let st : State = state gs k (digits f v) in
      let st' : State = state gs k (after (key v)) in
      let bs : List ℕ = drop (at + 1) s in
      ap (run st at) (drop_more s at 0 p) ∙ run_cons st at (get_or s at 0) bs ∙ ap (go (at + 1) bs) (step_past gs k f v at (get_or s at 0) e) ∙ sym (run_cons st' at (get_or s at 0) bs) ∙ sym (ap (run st' at) (drop_more s at 0 p)))
  | no p ↦ ends s (state gs k (digits f v)) at (omega arith) ∙ finish_past gs k f v at ∙ sym (ends s (state gs k (after (key v))) at (omega arith))
]

module _ (s : List ℕ) (at : ℕ) where
  pub first : (d : ℕ) → get_or s at 0 ≡ 48 + d → 1 ≤ d → d ≤ 9 → Sofar s at d (at + 1)
  first d e lo hi =
      let here = stands s at (48 + d) e (omega arith) in
      let same : 48 + d - 48 ≡ d = omega arith in
      record {
        least = lo;
        most = omega arith;
        reach = omega (arith, inside s at (48 + d) here);
        ends = omega (arith, ap length (decimal_one d (omega arith)));
        account = λ gs k. moves s (state gs k number) at here (step_first gs k at (48 + d) (omega arith) (omega arith)) ∙ ap (λ m. from s (state gs k (digits at m)) (at + 1)) same;
      }

  pub unnumbered_zero : get_or s at 0 ≡ 48 → Unnumbered s at (KeyNumber at)
  unnumbered_zero e gs k = stops s (state gs k number) at (stands s at 48 e (lit< tt)) (step_zero gs k at)

  pub unnumbered : digit (get_or s at 0) ≡ false → Unnumbered s at (Unexpected at)
  unnumbered e gs k = fails s (state gs k number) at (step_none gs k at (get_or s at 0) e) (unfinished gs k number at tt)

  module _ (v next : ℕ) (so : Sofar s at v next) where
    pub numbered : digit (get_or s next 0) ≡ false → Numbered s at v next
    numbered out = record { ends = so.ends; account = λ gs k. so.account gs k ∙ past s gs k at v next out }

    module _ (d : ℕ) (e : get_or s next 0 ≡ 48 + d) (small : d ≤ 9) where
      same : 48 + d - 48 ≡ d
      same = omega arith

      here : slice_get s next ≡ Some (48 + d)
      here = stands s next (48 + d) e (omega arith)

      pub again : v * 10 + d ≤ 255 → Sofar s at (v * 10 + d) (next + 1)
      again most = record {
        least = omega (arith, so.least);
        most = most;
        reach = omega (arith, inside s next (48 + d) here);
        ends = omega (arith, so.ends, ap length (decimal_more v d so.least (omega arith) most), length-append (decimal v) ((48 + d) ∷ []));
        account = λ gs k. so.account gs k ∙ moves s (state gs k (digits at v)) next here (step_digit gs k at v next (48 + d) (omega arith) (omega arith) (omega (arith, same))) ∙ ap (λ m. from s (state gs k (digits at (v * 10 + m))) (next + 1)) same;
      }

      pub large : 255 < v * 10 + d → Unnumbered s at (KeyNumber at)
      large most gs k = so.account gs k ∙ stops s (state gs k (digits at v)) next here (step_large gs k at v next (48 + d) (omega arith) (omega arith) (omega (arith, same)))
