-- Bytes, words and decimal numbers of a line.
--   in_class c b     the byte b is of the class c
--   leading c bs     how many bytes at the front of bs are of the class c
--   front c bs, past c bs   these bytes, and the bytes after them
--   after_line bs    the bytes after the first end of a line
--   digits w         w has only decimal digits
--   decimal n w      the number that the digits w stand for after the digits of n
--   number w         the number that the word w stands for: digits, at least one, and below 2^32
--   small n          n where it is below 256
--   trimmed bs       bs without the blanks after its last other byte
use Rattle.std.specs.Prelude.{ℕ, ◌+◌, ◌-◌, ◌*◌, Bool, true, cond, not, ◌&&◌, ◌||◌, List, [], ◌∷◌, length, take, drop, Some, None, Option, ◌==◌, nat_le, nat_lt}
use Rattle.std.specs.List.{prefix_len, suffix_len}
use Rattle.words.specs.declared.bytes.Class.{Class}
use Rattle.words.specs.declared.bytes.Class.TheVariants.{Line, Code, Blank, Word}

-- a space, a tab, a carriage return
abbrev pub is_blank : ℕ → Bool
is_blank b = b == 32 || (b == 9 || b == 13)

abbrev pub in_class : Class → ℕ → Bool
in_class Line b = not (b == 10)
in_class Code b = not (b == 35)
in_class Blank b = is_blank b
in_class Word b = not (is_blank b)

abbrev pub leading : Class → List ℕ → ℕ
leading c bs = prefix_len (in_class c) bs

abbrev pub front : Class → List ℕ → List ℕ
front c bs = take (leading c bs) bs

abbrev pub past : Class → List ℕ → List ℕ
past c bs = drop (leading c bs) bs

abbrev pub after_line : List ℕ → List ℕ
after_line bs = drop 1 (past Line bs)

abbrev pub is_digit : ℕ → Bool
is_digit b = nat_le 48 b && nat_le b 57

abbrev pub digits : List ℕ → Bool
digits [] = true
digits (b ∷ bs) = is_digit b && digits bs

abbrev pub decimal : ℕ → List ℕ → ℕ
decimal n [] = n
decimal n (b ∷ bs) = decimal (n * 10 + (b - 48)) bs

-- the number that the digits w stand for after the digits of n, where it fits
abbrev pub continued : ℕ → List ℕ → Option ℕ
continued n w = cond (digits w && nat_lt (decimal n w) 4294967296) (Some (decimal n w)) None

abbrev pub number : List ℕ → Option ℕ
number [] = None
number (b ∷ bs) = continued 0 (b ∷ bs)

abbrev pub small : Option ℕ → Option ℕ
small None = None
small (Some n) = cond (nat_lt n 256) (Some n) None

abbrev pub trimmed : List ℕ → List ℕ
trimmed bs = take (length bs - suffix_len is_blank bs) bs
