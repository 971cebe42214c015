-- The account, step by step, at the starts of a text.
use Rattle.std.proofs.Common.{◌≡◌, ℕ, ◌+◌, ◌-◌, ◌<◌, ◌≤◌, false, ◌&&◌, leb, List, [], ◌∷◌, length, get_or, drop, Ok, Err, Result, Some, None, Option, slice_get, sym, refl, ap, ◌∙◌, arith, eq-eqb, ne_eqb, le-leb}
use native.Mathlib.Decide.{dec_lt}
use borrow.Author.Tests.{lt-leb}
use Rattle.std.proofs.lemmas.Option.{slice_get_within, slice_get-get_or, get_or_from_slice_get}
use Rattle.std.proofs.lemmas.List.{get_or_past, drop_more, drop_all}
use Rattle.refusals.specs.declared.Refusal.{Refusal}
use Rattle.refusals.specs.declared.Refusal.TheVariants.{Unexpected, GateDigit}
use Rattle.rules.specs.declared.head.Head.{Head}
use Rattle.rules.specs.declared.head.Head.TheVariants.{All, Any, Of}
use Rattle.rules.specs.Grammar.{Rule}
use Rattle.rules.specs.Faults.{Next, item, second, word, number, digits, after, Open, State, state, step, finish, run, onward}
use Rattle.rules.specs.ReaderSteps.{from, Passed, NotPassed, Headed, Unheaded, Begins}

pub inside : (s : List ℕ) (at b : ℕ) → slice_get s at ≡ Some b → at < length s
inside s at b e = slice_get_within s at b e

-- a byte that is not 0 stands in the text
pub stands : (s : List ℕ) (at b : ℕ) → get_or s at 0 ≡ b → 0 < b → slice_get s at ≡ Some b
stands s at b e h = elim (dec_lt at (length s)) [ yes p ↦ slice_get-get_or s at 0 p ∙ ap Some e | no q ↦ absurd (omega (arith, e, get_or_past s at 0 (omega arith))) ]

-- at the end there is none
pub beyond : (s : List ℕ) (at b : ℕ) → slice_get s at ≡ None → 0 < b → get_or s at 0 ≡ b → ⊥
beyond s at b n h e = let q : ◌≡◌ {A = Option ℕ} None (Some b) = sym n ∙ stands s at b e h in let z : ◌≡◌ {A = ℕ} 0 1 = cc in omega arith

letter : (s : List ℕ) (at b : ℕ) → slice_get s at ≡ Some b → drop at s ≡ b ∷ drop (at + 1) s
letter s at b e = drop_more s at 0 (inside s at b e) ∙ ap (λ x. x ∷ drop (at + 1) s) (get_or_from_slice_get s at b 0 e)

pub run_ok : (st st' : State) (at b : ℕ) (bs : List ℕ) → step st at b ≡ Ok st' → run st at (b ∷ bs) ≡ run st' (at + 1) bs
unfolding run
run_ok st st' at b bs e = rw (e, run)

pub run_err : (st : State) (x : Refusal) (at b : ℕ) (bs : List ℕ) → step st at b ≡ Err x → run st at (b ∷ bs) ≡ Err x
unfolding run
run_err st x at b bs e = rw (e, run)

abbrev pub go : ℕ → List ℕ → Result State Refusal → Result Rule Refusal
go at bs (Ok st) = run st at bs
go at bs (Err x) = Err x

pub run_cons : (st : State) (at b : ℕ) (bs : List ℕ) → run st at (b ∷ bs) ≡ go (at + 1) bs (step st at b)
run_cons st at b bs = by (step st at b) refl
  where
    by : (r : Result State Refusal) → step st at b ≡ r → run st at (b ∷ bs) ≡ go (at + 1) bs r
    by (Ok st') e = run_ok st st' at b bs e
    by (Err x) e = run_err st x at b bs e

pub run_end : (st : State) (at : ℕ) (bs : List ℕ) → bs ≡ [] → run st at bs ≡ finish st at
unfolding run
run_end st at bs e = rw e

pub moves : (s : List ℕ) (st : State) (at : ℕ) {b : ℕ} {st' : State} → slice_get s at ≡ Some b → step st at b ≡ Ok st' → from s st at ≡ from s st' (at + 1)
unfolding from
moves s st at {b} {st'} e q = ap (run st at) (letter s at b e) ∙ run_ok st st' at b (drop (at + 1) s) q

pub stops : (s : List ℕ) (st : State) (at : ℕ) {b : ℕ} {x : Refusal} → slice_get s at ≡ Some b → step st at b ≡ Err x → from s st at ≡ Err x
unfolding from
stops s st at {b} {x} e q = ap (run st at) (letter s at b e) ∙ run_err st x at b (drop (at + 1) s) q

pub ends : (s : List ℕ) (st : State) (at : ℕ) → length s ≤ at → from s st at ≡ finish st at
unfolding from
ends s st at h = run_end st at (drop at s) (drop_all at s h)

pub fails : (s : List ℕ) (st : State) (at : ℕ) {x : Refusal} → step st at (get_or s at 0) ≡ Err x → finish st at ≡ Err x → from s st at ≡ Err x
unfolding from
fails s st at {x} q f = elim (dec_lt at (length s)) [
  | yes p ↦ ap (run st at) (drop_more s at 0 p) ∙ run_err st x at (get_or s at 0) (drop (at + 1) s) q
  | no p ↦ run_end st at (drop at s) (drop_all at s (omega arith)) ∙ f
]

-- more must come
abbrev pub Waits : Next → Type 0
Waits item = Unit {0}
Waits second = Unit {0}
Waits (word c cs h) = Unit {0}
Waits number = Unit {0}
Waits (digits f v) = ⊥
Waits (after r) = ⊥

pub unfinished : (gs : List Open) (k : ℕ) (n : Next) (at : ℕ) → Waits n → finish (state gs k n) at ≡ Err (Unexpected at)
unfolding finish
unfinished (g ∷ gs) k n at w = refl
unfinished [] k item at w = refl
unfinished [] k second at w = refl
unfinished [] k (word c cs h) at w = refl
unfinished [] k number at w = refl
unfinished [] k (digits f v) at w = absurd w
unfinished [] k (after r) at w = absurd w

pub word_ok : (gs : List Open) (k c : ℕ) (cs : List ℕ) (h : Head) (at : ℕ) → step (state gs k (word c cs h)) at c ≡ Ok (onward gs k cs h)
unfolding step
word_ok gs k c cs h at = rw (eq-eqb c c refl)

pub word_err : (gs : List Open) (k c : ℕ) (cs : List ℕ) (h : Head) (at b : ℕ) → (b ≡ c → ⊥) → step (state gs k (word c cs h)) at b ≡ Err (Unexpected at)
unfolding step
word_err gs k c cs h at b ne = rw (ne_eqb b c ne)

pub past_end : (s : List ℕ) (at : ℕ) → slice_get s at ≡ None → length s ≤ at
past_end s at n = elim (dec_lt at (length s)) [ yes p ↦ (let q : ◌≡◌ {A = Option ℕ} None (Some (get_or s at 0)) = sym n ∙ slice_get-get_or s at 0 p in let z : ◌≡◌ {A = ℕ} 0 1 = cc in absurd (omega arith)) | no p ↦ omega arith ]

-- the next of the letters that must come
module _ (s : List ℕ) (at start : ℕ) (letters left : List ℕ) (b : ℕ) (more : List ℕ) (is : left ≡ b ∷ more)
    (so_far : (gs : List Open) (k : ℕ) (h : Head) → from s (onward gs k letters h) start ≡ from s (onward gs k left h) at) where
  pub letter_passed : slice_get s at ≡ Some b → (gs : List Open) (k : ℕ) (h : Head) → from s (onward gs k letters h) start ≡ from s (onward gs k more h) (at + 1)
  letter_passed e gs k h = so_far gs k h ∙ ap (λ cs. from s (onward gs k cs h) at) is ∙ moves s (state gs k (word b more h)) at e (word_ok gs k b more h at)

  pub letter_wrong : (get_or s at 0 ≡ b → ⊥) → NotPassed s start letters (Unexpected at)
  letter_wrong ne gs k h = so_far gs k h ∙ ap (λ cs. from s (onward gs k cs h) at) is ∙ fails s (state gs k (word b more h)) at (word_err gs k b more h at (get_or s at 0) ne) (unfinished gs k (word b more h) at tt)

  pub letter_beyond : slice_get s at ≡ None → NotPassed s start letters (Unexpected at)
  letter_beyond none gs k h = so_far gs k h ∙ ap (λ cs. from s (onward gs k cs h) at) is ∙ ends s (state gs k (word b more h)) at (past_end s at none) ∙ unfinished gs k (word b more h) at tt

pub item_a : (gs : List Open) (k at : ℕ) → length gs < 8 → step (state gs k item) at 97 ≡ Ok (state gs k second)
unfolding step
item_a gs k at lt = rw (lt-leb 8 (length gs) lt)

pub second_l : (gs : List Open) (k at : ℕ) → step (state gs k second) at 108 ≡ Ok (state gs k (word 108 (40 ∷ []) All))
unfolding step
second_l gs k at = refl

pub second_n : (gs : List Open) (k at : ℕ) → step (state gs k second) at 110 ≡ Ok (state gs k (word 121 (40 ∷ []) Any))
unfolding step
second_n gs k at = refl

pub second_err : (gs : List Open) (k at b : ℕ) → (b ≡ 108 → ⊥) → (b ≡ 110 → ⊥) → step (state gs k second) at b ≡ Err (Unexpected at)
unfolding step
second_err gs k at b n m = rw (ne_eqb b 108 n, ne_eqb b 110 m)

pub item_of : (gs : List Open) (k at b : ℕ) → length gs < 8 → 50 ≤ b → b ≤ 55 → step (state gs k item) at b ≡ Ok (state gs k (word 111 (102 ∷ 40 ∷ []) (Of (b - 48))))
unfolding step
item_of gs k at b lt lo hi = rw (ne_eqb b 75 (λ e. omega arith), ne_eqb b 97 (λ e. omega arith), le-leb 48 b (omega arith), le-leb b 57 (omega arith), lt-leb 8 (length gs) lt, le-leb 50 b lo, le-leb b 55 hi)

pub item_number : (gs : List Open) (k at b : ℕ) → length gs < 8 → 48 ≤ b → b ≤ 57 → (leb 50 b && leb b 55) ≡ false → step (state gs k item) at b ≡ Err (GateDigit at)
unfolding step
item_number gs k at b lt lo hi out = rw (ne_eqb b 75 (λ e. omega arith), ne_eqb b 97 (λ e. omega arith), le-leb 48 b lo, le-leb b 57 hi, lt-leb 8 (length gs) lt, out)

pub outside_lo : (m n b : ℕ) → b < m → (leb m b && leb b n) ≡ false
outside_lo m n b h = rw (lt-leb m b h)

pub outside_hi : (m n b : ℕ) → m ≤ b → n < b → (leb m b && leb b n) ≡ false
outside_hi m n b g h = rw (le-leb m b g, lt-leb b n h)

module _ (s : List ℕ) (at : ℕ) where
  module _ (a : slice_get s at ≡ Some 97) where
    to_second : (gs : List Open) (k : ℕ) → length gs < 8 → from s (state gs k item) at ≡ from s (state gs k second) (at + 1)
    to_second gs k lt = moves s (state gs k item) at a (item_a gs k at lt)

    to_all : slice_get s (at + 1) ≡ Some 108 → (gs : List Open) (k : ℕ) → length gs < 8 → from s (state gs k item) at ≡ from s (state gs k (word 108 (40 ∷ []) All)) (at + 1 + 1)
    to_all b gs k lt = to_second gs k lt ∙ moves s (state gs k second) (at + 1) b (second_l gs k (at + 1))

    to_any : slice_get s (at + 1) ≡ Some 110 → (gs : List Open) (k : ℕ) → length gs < 8 → from s (state gs k item) at ≡ from s (state gs k (word 121 (40 ∷ []) Any)) (at + 1 + 1)
    to_any b gs k lt = to_second gs k lt ∙ moves s (state gs k second) (at + 1) b (second_n gs k (at + 1))

    pub headed_all : {end : ℕ} → slice_get s (at + 1) ≡ Some 108 → Passed s (at + 1 + 1) (108 ∷ 40 ∷ []) end → Headed s at All end
    headed_all b e = record { proper = tt; ends = omega (arith, e.ends); account = λ gs k lt. to_all b gs k lt ∙ e.account gs k All }

    pub headed_any : {end : ℕ} → slice_get s (at + 1) ≡ Some 110 → Passed s (at + 1 + 1) (121 ∷ 40 ∷ []) end → Headed s at Any end
    headed_any b e = record { proper = tt; ends = omega (arith, e.ends); account = λ gs k lt. to_any b gs k lt ∙ e.account gs k Any }

    pub unheaded_all : {x : Refusal} → slice_get s (at + 1) ≡ Some 108 → NotPassed s (at + 1 + 1) (108 ∷ 40 ∷ []) x → Unheaded s at x
    unheaded_all b e gs k lt = to_all b gs k lt ∙ e gs k All

    pub unheaded_any : {x : Refusal} → slice_get s (at + 1) ≡ Some 110 → NotPassed s (at + 1 + 1) (121 ∷ 40 ∷ []) x → Unheaded s at x
    unheaded_any b e gs k lt = to_any b gs k lt ∙ e gs k Any

    pub unheaded_second : (get_or s (at + 1) 0 ≡ 108 → ⊥) → (get_or s (at + 1) 0 ≡ 110 → ⊥) → Unheaded s at (Unexpected (at + 1))
    unheaded_second n m gs k lt = to_second gs k lt ∙ fails s (state gs k second) (at + 1) (second_err gs k (at + 1) (get_or s (at + 1) 0) n m) (unfinished gs k second (at + 1) tt)

  module _ (d : ℕ) (e : get_or s at 0 ≡ 48 + d) (lo : 50 ≤ get_or s at 0) (hi : get_or s at 0 ≤ 55) where
    to_of : (gs : List Open) (k : ℕ) → length gs < 8 → from s (state gs k item) at ≡ from s (state gs k (word 111 (102 ∷ 40 ∷ []) (Of d))) (at + 1)
    to_of gs k lt =
        let same : 48 + d - 48 ≡ d = omega arith in
        moves s (state gs k item) at (stands s at (48 + d) e (omega arith)) (item_of gs k at (48 + d) lt (omega arith) (omega arith))
        ∙ ap (λ m. from s (state gs k (word 111 (102 ∷ 40 ∷ []) (Of m))) (at + 1)) same

    pub headed_of : {end : ℕ} → Passed s (at + 1) (111 ∷ 102 ∷ 40 ∷ []) end → Headed s at (Of d) end
    headed_of p = record { proper = (omega arith, omega arith); ends = omega (arith, p.ends); account = λ gs k lt. to_of gs k lt ∙ p.account gs k (Of d) }

    pub unheaded_of : {x : Refusal} → NotPassed s (at + 1) (111 ∷ 102 ∷ 40 ∷ []) x → Unheaded s at x
    unheaded_of p gs k lt = to_of gs k lt ∙ p gs k (Of d)

  pub unheaded_digit : (get_or s at 0 ≡ 97 → ⊥) → Begins (get_or s at 0) → (leb 50 (get_or s at 0) && leb (get_or s at 0) 55) ≡ false → Unheaded s at (GateDigit at)
  unheaded_digit n begins out gs k lt =
      let q = begins n in
      stops s (state gs k item) at (stands s at (get_or s at 0) refl (omega (arith, q))) (item_number gs k at (get_or s at 0) lt q.0 q.1 out)

-- a gate's head, as it is written
abbrev pub spelling : Head → List ℕ
spelling All = 97 ∷ 108 ∷ 108 ∷ []
spelling Any = 97 ∷ 110 ∷ 121 ∷ []
spelling (Of k) = (48 + k) ∷ 111 ∷ 102 ∷ []
