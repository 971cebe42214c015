-- What the inner functions of the reader promise: where the account of a text has come to. No promise of a public call
-- speaks of these.
--   from s st at          the account of a text from a place on, in a state
--   onto                  the same after a step, or the fault
--   Room                  the entries have room for what may still come at this depth
--   Numbered, Passed, Headed, Item, Items        a key's digits were read; these letters of a gate's head; the whole head; an
--                                                item; a gate's items up to the ')'
--   Unnumbered, NotPassed, Unheaded, Refused, ItemsRefused   each of them with a fault instead
--   ItemRead               an item was read, or there was a fault
use Rattle.std.specs.Prelude.{◌≡◌, ℕ, suc, ◌+◌, ◌*◌, ◌<◌, ◌≤◌, List, [], ◌∷◌, ◌++◌, length, drop, Ok, Err, Result, MatchResult, ◌≢◌}
use Rattle.refusals.specs.declared.Refusal.{Refusal}
use Rattle.rules.specs.declared.entry.Entries.{Entries}
use Rattle.rules.specs.declared.head.Head.{Head}
use Rattle.rules.specs.declared.head.Head.TheVariants.{All, Any, Of}
use Rattle.rules.specs.Grammar.{Rule, Rules, key, none, more, count, text, marked, decimal, keys, keys_of}
use Rattle.rules.specs.Tables.{size, size_of, rows, rows_of, starts}
use Rattle.rules.specs.Views.{listing}
use Rattle.rules.specs.Faults.{Open, opened, State, state, item, number, after, onward, close, run, ◌then◌}

unfoldable pub from : List ℕ → State → ℕ → Result Rule Refusal
from s st at = run st at (drop at s)

abbrev pub onto : List ℕ → Result State Refusal → ℕ → Result Rule Refusal
onto s (Ok st) at = from s st at
onto s (Err x) at = Err x

pub record Room (depth : ℕ) (t : Entries) : Type 0 where
  pub shallow : depth ≤ 8
  pub few : t.keys ≤ 16
  pub room : length (listing t) + depth ≤ 8 + 2 * t.keys

pub record Numbered (s : List ℕ) (at v end : ℕ) : Type 0 where
  pub ends : end ≡ at + length (decimal v)
  pub account : (gs : List Open) (k : ℕ) → from s (state gs k number) at ≡ from s (state gs k (after (key v))) end

abbrev pub Unnumbered : List ℕ → ℕ → Refusal → Type 0
Unnumbered s at x = (gs : List Open) (k : ℕ) → from s (state gs k number) at ≡ Err x

pub record Passed (s : List ℕ) (at : ℕ) (letters : List ℕ) (end : ℕ) : Type 0 where
  pub ends : end ≡ at + length letters
  pub account : (gs : List Open) (k : ℕ) (h : Head) → from s (onward gs k letters h) at ≡ from s (onward gs k [] h) end

abbrev pub NotPassed : List ℕ → ℕ → List ℕ → Refusal → Type 0
NotPassed s at letters x = (gs : List Open) (k : ℕ) (h : Head) → from s (onward gs k letters h) at ≡ Err x

abbrev pub Proper : Head → Type 0
Proper All = Unit {0}
Proper Any = Unit {0}
Proper (Of k) = (2 ≤ k) × (k ≤ 7)

-- a gate may begin so
abbrev pub Begins : ℕ → Type 0
Begins b = (b ≢ 97) → (48 ≤ b) × (b ≤ 57)

pub record Headed (s : List ℕ) (at : ℕ) (h : Head) (end : ℕ) : Type 0 where
  pub proper : Proper h
  pub ends : end ≡ at + 4
  pub account : (gs : List Open) (k : ℕ) → length gs < 8 → from s (state gs k item) at ≡ from s (state (opened h none ∷ gs) k item) end

abbrev pub Unheaded : List ℕ → ℕ → Refusal → Type 0
Unheaded s at x = (gs : List Open) (k : ℕ) → length gs < 8 → from s (state gs k item) at ≡ Err x

pub record Item (s : List ℕ) (at depth : ℕ) (t t' : Entries) (end : ℕ) : Type 0 where
  pub rule : Rule
  pub few : t'.keys ≤ 16
  pub grown : length (listing t') + 1 + 2 * t.keys ≤ length (listing t) + 2 * t'.keys
  pub sized : length (listing t') ≡ length (listing t) + size rule
  pub counted : t'.keys ≡ t.keys + keys rule
  pub ends : end ≡ at + length (text rule)
  pub listed : listing t' ≡ listing t ++ rows rule (length (listing t)) at
  pub account : (gs : List Open) → length gs + depth ≡ 8 → from s (state gs t.keys item) at ≡ from s (state gs t'.keys (after rule)) end

abbrev pub Refused : List ℕ → ℕ → ℕ → ℕ → Refusal → Type 0
Refused s at depth k x = (gs : List Open) → length gs + depth ≡ 8 → from s (state gs k item) at ≡ Err x

abbrev pub ItemRead : {X : Type 0} → List ℕ → ℕ → ℕ → Entries → Entries → ℕ → Result X Refusal → Type 0
ItemRead s at depth t t' end r = MatchResult r (λ _. Item s at depth t t' end) (λ x. Refused s at depth t.keys x)

pub record Items (s : List ℕ) (at depth : ℕ) (c c' : List ℕ) (t t' : Entries) (end : ℕ) : Type 0 where
  pub one : Rule
  pub others : Rules
  pub few : t'.keys ≤ 16
  pub grown : length (listing t') + count (more one others) + 2 * t.keys ≤ length (listing t) + 2 * t'.keys
  pub sized : length (listing t') ≡ length (listing t) + size_of (more one others)
  pub counted : t'.keys ≡ t.keys + keys_of (more one others)
  pub many : length c' ≡ length c + count (more one others)
  pub inside : end < length s
  pub ends : end + 1 ≡ at + length (marked (more one others) 44)
  pub holds : c' ≡ c ++ starts (more one others) (length (listing t))
  pub listed : listing t' ≡ listing t ++ rows_of (more one others) (length (listing t)) at
  pub account : (gs : List Open) (h : Head) (sofar : Rules) → count sofar ≡ length c → suc (length gs) + depth ≡ 8 → from s (state (opened h sofar ∷ gs) t.keys item) at ≡ onto s (close h (sofar then more one others) gs t'.keys end) (end + 1)

abbrev pub ItemsRefused : List ℕ → ℕ → ℕ → ℕ → ℕ → Refusal → Type 0
ItemsRefused s at depth n k x = (gs : List Open) (h : Head) (sofar : Rules) → count sofar ≡ n → suc (length gs) + depth ≡ 8 → from s (state (opened h sofar ∷ gs) k item) at ≡ Err x
