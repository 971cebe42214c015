-- The residue group: numbers from 1 to p - 1 whose q-th power modulo p is 1.
--   residue n                     the residue with value n
--   residues_modulo p             the numbers below p under the product modulo p
--   residue_element q p y         y is an element
--   residues                      what residue groups are cut from
--   residue_elements q p          the elements under the product modulo p
--   residue_model q p g h         the group; an element y is written as the words y, 0
--   residue_refusal q p g h       why the group is not made
use Rattle.std.specs.Prelude.{ℕ, ◌-◌, ◌%◌, ◌^◌, Bool, cond, ◌&&◌, Some, None, Option, ◌==◌, nat_lt}
use Rattle.refusals.specs.declared.Refusal.{Refusal}
use Rattle.fields.specs.Modular.{product_mod}
use Rattle.groups.specs.Monoids.{MonoidModel}
use Rattle.groups.specs.Groups.{GroupModel}
use Rattle.groups.specs.Ambients.{AmbientModel, group_elements, group_model, group_refusal}
use Rattle.groups.specs.declared.residue.Residue.{Residue}

abbrev pub residue : ℕ → Residue
residue n = record { 0 = n }

abbrev pub residues_modulo : ℕ → MonoidModel Residue
residues_modulo p = record {
  member = λ x. nat_lt x.0 p;
  one = residue 1;
  times = λ x y. residue (product_mod p x.0 y.0);
}

abbrev pub residue_element : ℕ → ℕ → ℕ → Bool
residue_element q p y = nat_lt 0 y && (nat_lt y p && y ^ q % p == 1)

-- what residue groups are cut from
abbrev pub residues : AmbientModel Residue
residues = record {
  product = residues_modulo;
  fits = λ q p. (p - 1) % q == 0;
  element = λ q p x. residue_element q p x.0;
  is_one = λ x. x.0 == 1;
  words = λ x. (x.0, 0);
  read = λ w. cond (w.1 == 0) (Some (residue w.0)) None;
}

abbrev pub residue_elements : ℕ → ℕ → MonoidModel Residue
residue_elements = group_elements residues

abbrev pub residue_model : ℕ → ℕ → Residue → Residue → GroupModel Residue
residue_model = group_model residues

abbrev pub residue_refusal : ℕ → ℕ → Residue → Residue → Option Refusal
residue_refusal = group_refusal residues
