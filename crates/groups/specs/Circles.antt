-- The circle group: pairs (a, b) of numbers below p whose q-th power is (1, 0).
--   pair a b                      the pair of the residues a and b
--   circle_product p x y          (ac - bd, ad + bc) modulo p, of (a, b) and (c, d); p - b stands for -b
--   circle_modulo p               the pairs below p under this product
--   circle_element q p x          x is an element
--   circle                        what circle groups are cut from
--   circle_elements q p           the elements under this product
--   circle_model q p g h          the group; an element (a, b) is written as the words a, b
--   circle_refusal q p g h        why the group is not made
use Rattle.std.specs.Prelude.{ℕ, ◌+◌, ◌-◌, ◌*◌, ◌%◌, Bool, ◌&&◌, Some, Option, ◌==◌, nat_lt}
use Rattle.refusals.specs.declared.Refusal.{Refusal}
use Rattle.groups.specs.Monoids.{MonoidModel, power}
use Rattle.groups.specs.Groups.{GroupModel}
use Rattle.groups.specs.Ambients.{AmbientModel, group_elements, group_model, group_refusal}
use Rattle.groups.specs.Residues.{residue}
use Rattle.groups.specs.declared.residue.Residue.{Residue}

abbrev pub Pair : Type 0
Pair = Residue × Residue

abbrev pub pair : ℕ → ℕ → Pair
pair a b = (residue a, residue b)

abbrev pub circle_product : ℕ → Pair → Pair → Pair
circle_product p x y =
    pair ((x.0.0 * y.0.0 + (p - x.1.0) * y.1.0) % p) ((x.0.0 * y.1.0 + x.1.0 * y.0.0) % p)

abbrev pub circle_modulo : ℕ → MonoidModel Pair
circle_modulo p = record {
  member = λ x. nat_lt x.0.0 p && nat_lt x.1.0 p;
  one = pair 1 0;
  times = circle_product p;
}

-- the neutral pair
abbrev pub is_one : Pair → Bool
is_one x = x.0.0 == 1 && x.1.0 == 0

abbrev pub circle_element : ℕ → ℕ → Pair → Bool
circle_element q p x = (nat_lt x.0.0 p && nat_lt x.1.0 p) && is_one (power (circle_modulo p) x q)

-- what circle groups are cut from
abbrev pub circle : AmbientModel Pair
circle = record {
  product = circle_modulo;
  fits = λ q p. (p + 1) % q == 0 && p % 4 == 3;
  element = circle_element;
  is_one = is_one;
  words = λ x. (x.0.0, x.1.0);
  read = λ w. Some (pair w.0 w.1);
}

abbrev pub circle_elements : ℕ → ℕ → MonoidModel Pair
circle_elements = group_elements circle

abbrev pub circle_model : ℕ → ℕ → Pair → Pair → GroupModel Pair
circle_model = group_model circle

abbrev pub circle_refusal : ℕ → ℕ → Pair → Pair → Option Refusal
circle_refusal = group_refusal circle
