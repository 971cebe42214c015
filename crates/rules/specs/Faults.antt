-- The first fault of a text: what is known of it from left to right, byte by byte.
--   Next                  what may come next
--   Open                  an open gate: its head, and its items before the one that is being read
--   State                 the open gates, the innermost first; the keys so far; what may come next
--   threshold, fits       what a gate of this head wants of so many items; whether it may close with so many
--   follow, close         what a byte after an item leads to; what ')' leads to
--   step                  the state after one byte at its place, or the fault
--   finish                the rule where the text ends, or the fault
--   scan                  the rule of a text, or its first fault
-- Bytes stand by their numbers, as in Grammar; a place is counted from 0.
use Rattle.std.specs.Prelude.{ℕ, ◌+◌, ◌-◌, ◌*◌, Bool, cond, ◌&&◌, ◌||◌, List, [], ◌∷◌, length, Ok, Err, Result, ◌==◌, nat_le, nat_lt}
use Rattle.refusals.specs.declared.Refusal.{Refusal}
use Rattle.refusals.specs.declared.Refusal.TheVariants.{TextLength, Unexpected, KeyNumber, GateDigit, TooDeep, TooManyKeys, TooManyItems, TooFewItems}
use Rattle.rules.specs.declared.head.Head.{Head}
use Rattle.rules.specs.declared.head.Head.TheVariants.{All, Any, Of}
use Rattle.rules.specs.Grammar.{Rule, Rules, key, gate, none, more, count}

pub data Next : Type 0 where
  item : Next  -- an item
  second : Next  -- the second letter after 'a'
  word : ℕ → List ℕ → Head → Next  -- this letter and then these, of a gate's head
  number : Next  -- a key's first digit
  digits : ℕ → ℕ → Next  -- after a key's digits, from this place on, of this value
  after : Rule → Next  -- after this item

pub data Open : Type 0 where
  opened : Head → Rules → Open

pub data State : Type 0 where
  state : List Open → ℕ → Next → State

-- these and then those
infixl 30 ◌then◌
abbrev pub ◌then◌ : Rules → Rules → Rules
none then ts = ts
more r rs then ts = more r (rs then ts)

abbrev pub threshold : Head → ℕ → ℕ
threshold All n = n
threshold Any n = 1
threshold (Of k) n = k

abbrev pub fits : Head → ℕ → Bool
fits All n = nat_le 2 n
fits Any n = nat_le 2 n
fits (Of k) n = nat_lt k n

abbrev pub digit : ℕ → Bool
digit b = nat_le 48 b && nat_le b 57

unfoldable pub close : Head → Rules → List Open → ℕ → ℕ → Result State Refusal
close h rs gs k at = cond (fits h (count rs)) (Ok (state gs k (after (gate (threshold h (count rs)) rs)))) (Err (TooFewItems at))

unfoldable pub follow : List Open → ℕ → Rule → ℕ → ℕ → Result State Refusal
follow [] k r at b = Err (Unexpected at)
follow (opened h rs ∷ gs) k r at b =
    cond (b == 44) (cond (nat_le 7 (count rs)) (Err (TooManyItems at)) (Ok (state (opened h (rs then more r none) ∷ gs) k item)))
    (cond (b == 41) (close h (rs then more r none) gs k at)
    (Err (Unexpected at)))

-- a gate's head goes on with these letters
abbrev pub onward : List Open → ℕ → List ℕ → Head → State
onward gs k [] h = state (opened h none ∷ gs) k item
onward gs k (c ∷ cs) h = state gs k (word c cs h)

unfoldable pub step : State → ℕ → ℕ → Result State Refusal
step (state gs k item) at b =
    cond (b == 75) (cond (nat_le 8 (length gs)) (Err (TooDeep at)) (cond (nat_le 16 k) (Err (TooManyKeys at)) (Ok (state gs (k + 1) number))))
    (cond (b == 97) (cond (nat_le 8 (length gs)) (Err (TooDeep at)) (Ok (state gs k second)))
    (cond (digit b)
    (cond (nat_le 8 (length gs)) (Err (TooDeep at))
    (cond (nat_le 50 b && nat_le b 55) (Ok (state gs k (word 111 (102 ∷ 40 ∷ []) (Of (b - 48))))) (Err (GateDigit at))))
    (Err (Unexpected at))))
step (state gs k second) at b =
    cond (b == 108) (Ok (state gs k (word 108 (40 ∷ []) All)))
    (cond (b == 110) (Ok (state gs k (word 121 (40 ∷ []) Any)))
    (Err (Unexpected at)))
step (state gs k (word c cs h)) at b = cond (b == c) (Ok (onward gs k cs h)) (Err (Unexpected at))
step (state gs k number) at b =
    cond (digit b) (cond (b == 48) (Err (KeyNumber at)) (Ok (state gs k (digits at (b - 48)))))
    (Err (Unexpected at))
step (state gs k (digits first v)) at b =
    cond (digit b) (cond (nat_le (v * 10 + (b - 48)) 255) (Ok (state gs k (digits first (v * 10 + (b - 48))))) (Err (KeyNumber first)))
    (follow gs k (key v) at b)
step (state gs k (after r)) at b = follow gs k r at b

unfoldable pub finish : State → ℕ → Result Rule Refusal
finish (state (g ∷ gs) k n) at = Err (Unexpected at)
finish (state [] k item) at = Err (Unexpected at)
finish (state [] k second) at = Err (Unexpected at)
finish (state [] k (word c cs h)) at = Err (Unexpected at)
finish (state [] k number) at = Err (Unexpected at)
finish (state [] k (digits first v)) at = Ok (key v)
finish (state [] k (after r)) at = Ok r

unfoldable pub run : State → ℕ → List ℕ → Result Rule Refusal
run st at [] = finish st at
run st at (b ∷ bs) = elim (step st at b) [ Ok next ↦ run next (at + 1) bs | Err x ↦ Err x ]

unfoldable pub scan : List ℕ → Result Rule Refusal
scan s = cond (length s == 0 || nat_lt 240 (length s)) (Err TextLength) (run (state [] 0 item) 0 s)
