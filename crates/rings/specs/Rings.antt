-- Rings: the public keys, line by line.
--   word_at s i            the word at byte i, high byte first
--   line_at s i            the line at byte i: number byte, kind byte, image of four words
--   lines_from s i n       n lines of 18 bytes, the first at byte i
--   whole s                1 to 16 whole lines
--   ring_lines s           the lines of a ring
--   line_refusal m last i l   why line i is refused: its number is not above `last`, or it has no image of its kind
--   lines_refusal m last i ls  the first fault of the lines from line i on
--   ring_refusal m s       why a ring is refused
--   lines_in               the lines that a row of lines holds
use Rattle.std.specs.Prelude.{ℕ, zero, suc, ◌+◌, ◌*◌, ◌/◌, ◌%◌, Bool, ◌&&◌, List, [], ◌∷◌, length, None, Option, ◌==◌, nat_le, nat_lt, slice_index}
use Rattle.refusals.specs.declared.Refusal.{Refusal}
use Rattle.refusals.specs.declared.Refusal.TheVariants.{RingLength, NotRising, NoImage}
use Rattle.refusals.specs.Checks.{unless, or_else, first}
use Rattle.kinds.specs.Kinds.{KindModel}
use Rattle.rings.specs.declared.line.Line.{Line}
use Rattle.bounded.specs.Rows.{items}
use Rattle.bounded.specs.declared.row.Row.{Row}

abbrev pub word_at : List ℕ → ℕ → ℕ
word_at s i = ((slice_index s i * 256 + slice_index s (i + 1)) * 256 + slice_index s (i + 2)) * 256 + slice_index s (i + 3)

abbrev pub line_at : List ℕ → ℕ → Line
line_at s i = record {
  number = slice_index s i;
  kind = slice_index s (i + 1);
  image = record { 0 = (word_at s (i + 2), word_at s (i + 6)); 1 = (word_at s (i + 10), word_at s (i + 14)) };
}

abbrev pub lines_from : List ℕ → ℕ → ℕ → List Line
lines_from s i zero = []
lines_from s i (suc n) = line_at s i ∷ lines_from s (i + 18) n

abbrev pub whole : List ℕ → Bool
whole s = nat_le 18 (length s) && (nat_le (length s) 288 && length s % 18 == 0)

abbrev pub ring_lines : List ℕ → List Line
ring_lines s = lines_from s 0 (length s / 18)

abbrev pub line_refusal : KindModel → ℕ → ℕ → Line → Option Refusal
line_refusal m last i l = first (unless (nat_lt last l.number) (NotRising i) ∷ unless ((m.kind l.kind).is_image l.image) (NoImage i) ∷ [])

abbrev pub lines_refusal : KindModel → ℕ → ℕ → List Line → Option Refusal
lines_refusal m last i [] = None
lines_refusal m last i (l ∷ ls) = or_else (line_refusal m last i l) (lines_refusal m l.number (i + 1) ls)

abbrev pub ring_refusal : KindModel → List ℕ → Option Refusal
ring_refusal m s = or_else (unless (whole s) RingLength) (lines_refusal m 0 0 (ring_lines s))

abbrev pub lines_in : Row Line 16 → List Line
lines_in t = items t
