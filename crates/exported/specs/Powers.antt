-- What the exported powers are, 0 where there is none.
--   residue_power p y e     y to the e modulo p, of y below p
--   circle_power p a b e    the first word of (a, b) to the e in the high half, the second in the low one
use Rattle.std.specs.Prelude.{ℕ, ◌+◌, ◌*◌, ◌%◌, ◌^◌, cond, ◌&&◌, nat_le, nat_lt}
use Rattle.groups.specs.Monoids.{power}
use Rattle.groups.specs.Circles.{Pair, pair, circle_modulo}

abbrev pub residue_power : ℕ → ℕ → ℕ → ℕ
residue_power p y e = cond (nat_lt 1 p && nat_lt y p) (y ^ e % p) 0

abbrev pub both_words : Pair → ℕ
both_words x = x.0.0 * 4294967296 + x.1.0

abbrev pub circle_power : ℕ → ℕ → ℕ → ℕ → ℕ
circle_power p a b e =
    cond ((nat_lt 1 p && nat_le p 2147483647) && (nat_lt a p && nat_lt b p)) (both_words (power (circle_modulo p) (pair a b) e)) 0
