-- Numbers modulo m.
--   sum_mod m a b, difference_mod m a b, product_mod m a b, negative_mod m a
use Rattle.std.specs.Prelude.{ℕ, ◌+◌, ◌-◌, ◌*◌, ◌%◌}

abbrev pub sum_mod : ℕ → ℕ → ℕ → ℕ
sum_mod m a b = (a + b) % m

-- of b below m, m - b is -b
abbrev pub difference_mod : ℕ → ℕ → ℕ → ℕ
difference_mod m a b = (a + (m - b)) % m

abbrev pub negative_mod : ℕ → ℕ → ℕ
negative_mod m a = (m - a) % m

abbrev pub product_mod : ℕ → ℕ → ℕ → ℕ
product_mod m a b = (a * b) % m
