-- What the inner functions of the writer need and promise, of rows, of bytes written so far and of those written then. No
-- promise of a public call speaks of these.
--   mark_at i             the byte before the item with number i in its gate
--   Spellable             a rule's rows stand at this position, and its text still has room
--   Spelt                 whatever rule stands there, its text was added
--   ItemsSpellable, ItemsSpelt   the same of the rest of a gate's items, the first of which has this mark before it
use Rattle.std.specs.Prelude.{◌≡◌, ◌==◌, ℕ, ◌+◌, ◌≤◌, cond, List, ◌++◌, length, drop}
use Rattle.rules.specs.Grammar.{Rule, Rules, text, marked, depth as depth_below, depth_of, Formed, FormedAll}
use Rattle.rules.specs.Tables.{Row, rows, rows_of, starts}

abbrev pub mark_at : ℕ → ℕ
mark_at i = cond (i == 0) 40 44

pub record Spellable (es : List Row) (position depth : ℕ) (xs : List ℕ) (r : Rule) : Type 0 where
  pub formed : Formed r
  pub deep : depth_below r ≤ depth
  pub byte : ℕ
  pub beyond : List Row
  pub stands : drop position es ≡ rows r position byte ++ beyond
  pub room : length xs + length (text r) ≤ 240

abbrev pub CanSpell : List Row → ℕ → ℕ → List ℕ → Type 0
CanSpell es position depth xs = (r : Rule) × Spellable es position depth xs r

abbrev pub Spelt : List Row → ℕ → ℕ → List ℕ → List ℕ → Type 0
Spelt es position depth xs ys = (r : Rule) → Spellable es position depth xs r → ys ≡ xs ++ text r

pub record ItemsSpellable (es : List Row) (left : List ℕ) (mark depth : ℕ) (xs : List ℕ) (rs : Rules) : Type 0 where
  pub formed : FormedAll rs
  pub deep : depth_of rs ≤ depth
  pub position : ℕ
  pub byte : ℕ
  pub beyond : List Row
  pub listed : left ≡ starts rs position
  pub stand : drop position es ≡ rows_of rs position byte ++ beyond
  pub room : length xs + length (marked rs mark) ≤ 240

abbrev pub CanSpellItems : List Row → List ℕ → ℕ → ℕ → List ℕ → Type 0
CanSpellItems es left mark depth xs = (rs : Rules) × ItemsSpellable es left mark depth xs rs

abbrev pub ItemsSpelt : List Row → List ℕ → ℕ → ℕ → List ℕ → List ℕ → Type 0
ItemsSpelt es left mark depth xs ys = (rs : Rules) → ItemsSpellable es left mark depth xs rs → ys ≡ xs ++ marked rs mark
