-- Kinds whose images are the coded elements of a monoid, and sets of one kind.
--   Coding E              how elements are written as images and read from them
--   coded q n m c open    the kind of width n whose images are the elements of m, and whose key w has the element open w
--   alone q k             the set whose only kind, number 1, is k
use Rattle.std.specs.Prelude.{ℕ, cond, is_some, Some, None, Option, ◌==◌}
use Rattle.groups.specs.Monoids.{MonoidModel}
use Rattle.kinds.specs.Kinds.{Key, zeros, Kind, no_kind, is_key, KindModel}
use Rattle.kinds.specs.declared.image.Image.{Image}

pub record Coding (E : Type 0) : Type 0 where
  pub encode : E → Image
  pub decode : Image → Option E

-- the coded product of two elements that were read, and zeros where one was not
abbrev pub combined : {E : Type 0} → MonoidModel E → Coding E → Option E → Option E → Image
combined m c None y = zeros
combined m c (Some x) None = zeros
combined m c (Some x) (Some y) = c.encode (m.times x y)

abbrev pub coded : {E : Type 0} → ℕ → ℕ → MonoidModel E → Coding E → (Key → E) → Kind
coded q n m c open' = record {
  width = n;
  is_image = λ x. is_some (c.decode x);
  product = λ x y. combined m c (c.decode x) (c.decode y);
  neutral = c.encode m.one;
  image = λ w. cond (is_key q n w) (c.encode (open' w)) zeros;
}

abbrev pub alone : ℕ → Kind → KindModel
alone q k = record { q = q; count = 1; kind = λ n. cond (n == 1) k no_kind }
