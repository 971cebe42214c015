-- The words of a line, from a place on, counted from 1.
--   fault place what       word `place` is not what was expected
--   word_of bs             the bytes of the first word of bs
--   word_at bs             the first word of bs, if it has one
--   after_word bs          what is left of bs after it
--   following place        the place after; 2^32 - 1 stands for all that come later
--   read_at f why bs       the first word of bs as what f reads it as; the fault where there is none that f reads
--   ReadsAs R o why r      the same for the word o, where R says what a word may be read as
--   number_at place bs     the first word as a number
--   byte_at place bs       the first word as a number below 256
--   text_of bs             bs without the blanks before and after it
--   end_at place bs        that bs has no word
--   numbers_at n place bs  the words of bs as n numbers
--   at ns i                the number i of these, counted from 0
--   built f r              r, where it has what f makes of its value
use Rattle.std.specs.Prelude.{◌≡◌, ℕ, zero, suc, ◌+◌, min, cond, List, [], ◌∷◌, length, Some, None, Ok, Err, Option, Result, ◌==◌, slice_index}
use Rattle.std.specs.Option.{ok_or}
use Rattle.words.specs.declared.bytes.Class.TheVariants.{Blank, Word}
use Rattle.words.specs.declared.fault.Fault.{Fault}
use Rattle.words.specs.declared.fault.Expected.{Expected}
use Rattle.words.specs.declared.fault.Expected.TheVariants.{Number, Byte, End}
use Rattle.words.specs.Bytes.{front, past, number, small, trimmed}

abbrev pub fault : ℕ → Expected → Fault
fault n what = record { place = n; expected = what }

abbrev pub word_of : List ℕ → List ℕ
word_of bs = front Word (past Blank bs)

abbrev pub word_at : List ℕ → Option (List ℕ)
word_at bs = cond (length (word_of bs) == 0) None (Some (word_of bs))

abbrev pub after_word : List ℕ → List ℕ
after_word bs = past Word (past Blank bs)

abbrev pub following : ℕ → ℕ
following n = min (n + 1) 4294967295

abbrev pub read_by : {X : Type 0} → (List ℕ → Option X) → Option (List ℕ) → Option X
read_by f None = None
read_by f (Some w) = f w

abbrev pub read_at : {X : Type 0} → (List ℕ → Option X) → Fault → List ℕ → Result X Fault
read_at f why bs = ok_or (read_by f (word_at bs)) why

abbrev pub ReadsAs : {X : Type 0} → (List ℕ → Option X → Type 0) → Option (List ℕ) → Fault → Result X Fault → Type 0
ReadsAs R None why r = r ≡ Err why
ReadsAs {X} R (Some w) why r = (o : Option X) × R w o × (r ≡ ok_or o why)

abbrev pub number_at : ℕ → List ℕ → Result ℕ Fault
number_at n bs = read_at number (fault n Number) bs

abbrev pub byte_at : ℕ → List ℕ → Result ℕ Fault
byte_at n bs = read_at (λ w. small (number w)) (fault n Byte) bs

abbrev pub text_of : List ℕ → List ℕ
text_of bs = trimmed (past Blank bs)

abbrev pub end_at : ℕ → List ℕ → Result (Unit {0}) Fault
end_at n bs = cond (length (past Blank bs) == 0) (Ok tt) (Err (fault n End))

-- no number at the end of the line
abbrev pub none_at : Result (Unit {0}) Fault → Result (List ℕ) Fault
none_at (Ok u) = Ok []
none_at (Err why) = Err why

-- a number before others
abbrev pub before : Result ℕ Fault → Result (List ℕ) Fault → Result (List ℕ) Fault
before (Err why) more = Err why
before (Ok x) (Ok xs) = Ok (x ∷ xs)
before (Ok x) (Err why) = Err why

unfoldable pub numbers_at : ℕ → ℕ → List ℕ → Result (List ℕ) Fault
numbers_at zero place bs = none_at (end_at place bs)
numbers_at (suc n) place bs = before (number_at place bs) (numbers_at n (following place) (after_word bs))

abbrev pub built : {X Y E : Type 0} → (X → Y) → Result X E → Result Y E
built f (Ok x) = Ok (f x)
built f (Err why) = Err why

abbrev pub at : List ℕ → ℕ → ℕ
at ns i = slice_index ns i
