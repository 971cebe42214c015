-- What reading and writing promise.
--   rows_in               the rows of a table
--   Means s es            one legal rule has this text and this table
--   Read s es             a text was read: it means this table and no other, and the table is well formed
--   Faulty s x            a text means no table, and this is its first fault
--   Written es s          a table was written: this text means it, and no other does
--   TextHasLength es n      the text that means this table has n bytes
--   Unfit es out out' x   an output has not the length of the table's text, and is left as it was
--   UnfitCopy s out out' x   a text is faulty, or an output has not its length; the output is left as it was
use Rattle.std.specs.Prelude.{◌≡◌, ℕ, ◌⊎◌, List, length, Err, ◌≢◌}
use Rattle.refusals.specs.declared.Refusal.{Refusal}
use Rattle.refusals.specs.declared.Refusal.TheVariants.{OutputLength}
use Rattle.rules.specs.declared.table.Table.{Table}
use Rattle.rules.specs.Grammar.{Rule, Legal, text}
use Rattle.rules.specs.Tables.{Row, table, WellFormed}
use Rattle.rules.specs.Faults.{scan}
use Rattle.rules.specs.Views.{listing}

abbrev pub rows_in : Table → List Row
rows_in t = listing t.entries

pub record Means (s : List ℕ) (es : List Row) : Type 0 where
  pub rule : Rule
  pub legal : Legal rule
  pub spelt : text rule ≡ s
  pub listed : table rule ≡ es

pub record Read (s : List ℕ) (es : List Row) : Type 0 where
  pub means : Means s es
  pub only : (ds : List Row) → Means s ds → ds ≡ es
  pub well_formed : WellFormed es

pub record Faulty (s : List ℕ) (x : Refusal) : Type 0 where
  pub meaningless : (es : List Row) → Means s es → ⊥
  pub first : scan s ≡ Err x

pub record Written (es : List Row) (s : List ℕ) : Type 0 where
  pub means : Means s es
  pub only : (z : List ℕ) → Means z es → z ≡ s

pub record TextHasLength (es : List Row) (n : ℕ) : Type 0 where
  pub bytes : List ℕ
  pub means : Means bytes es
  pub long : length bytes ≡ n

pub record Unfit (es : List Row) (out out' : List ℕ) (x : Refusal) : Type 0 where
  pub refusal : x ≡ OutputLength
  pub kept : out' ≡ out
  pub other_length : (s : List ℕ) → Means s es → length s ≢ length out

pub record UnfitCopy (s out out' : List ℕ) (x : Refusal) : Type 0 where
  pub kept : out' ≡ out
  pub why : Faulty s x ⊎ ((x ≡ OutputLength) × (length s ≢ length out))
