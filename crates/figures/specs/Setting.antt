-- Two small groups, the supplied kinds over them, and the rule any(K1,K4) with its ring.
--   residues, circle   the residue group modulo 23 with the bases 4 and 9, the circle group modulo 43 with the bases (2, 13) and (26, 23); both of order 11
--   kinds              the supplied set: single, twin and mixed over the first are the kinds 1, 2, 3, over the second the kinds 4, 5, 6
--   image, key         an image of four words, a key of two scalars
--   text, rows         the bytes of any(K1,K4), and its table
--   ring               the bytes of two lines: key 1 of kind 1 with the statement 18, 0, 0, 0, and key 4 of kind 4 with the statement 11, 40, 0, 0
--   rule               the rule with this ring: a gate that wants one of two leaves
use Rattle.std.specs.Prelude.{ℕ, not, T, List, [], ◌∷◌, is_some}
use Rattle.fields.specs.Scalars.{scalar}
use Rattle.groups.specs.Monoids.{power}
use Rattle.groups.specs.Residues.{residue}
use Rattle.groups.specs.Circles.{pair, circle_refusal}
use Rattle.groups.specs.PrimeGroups.{ResidueGroup, CircleGroup}
use Rattle.kinds.specs.Kinds.{KindModel, Key}
use Rattle.kinds.specs.Numbered.{set_of}
use Rattle.kinds.specs.declared.image.Image.{Image}
use Rattle.supplied.specs.Supplied.{six}
use Rattle.rules.specs.Tables.{Row, leaf as key_row, node as gate_row}
use Rattle.releases.specs.Entries.{Entry, leaf, gate}

abbrev pub residues : ResidueGroup
residues = record { q = 11; p = 23; g = residue 4; h = residue 9; passed = tt }

pub circle_passes : T (not (is_some (circle_refusal 11 43 (pair 2 13) (pair 26 23))))
unfolding power
circle_passes = tt

abbrev pub circle : CircleGroup
circle = record { q = 11; p = 43; g = pair 2 13; h = pair 26 23; passed = circle_passes }

abbrev pub kinds : KindModel
kinds = set_of 11 (six residues circle)

abbrev pub image : ℕ → ℕ → ℕ → ℕ → Image
image a b c d = record { 0 = (a, b); 1 = (c, d) }

abbrev pub key : ℕ → ℕ → Key
key a b = (scalar a, scalar b)

abbrev pub text : List ℕ
text = 97 ∷ 110 ∷ 121 ∷ 40 ∷ 75 ∷ 49 ∷ 44 ∷ 75 ∷ 52 ∷ 41 ∷ []

abbrev pub rows : List Row
rows = gate_row 1 (1 ∷ 2 ∷ []) ∷ key_row 1 4 ∷ key_row 4 7 ∷ []

abbrev pub ring : List ℕ
ring =
    1 ∷ 1 ∷ 0 ∷ 0 ∷ 0 ∷ 18 ∷ 0 ∷ 0 ∷ 0 ∷ 0 ∷ 0 ∷ 0 ∷ 0 ∷ 0 ∷ 0 ∷ 0 ∷ 0 ∷ 0
    ∷ 4 ∷ 4 ∷ 0 ∷ 0 ∷ 0 ∷ 11 ∷ 0 ∷ 0 ∷ 0 ∷ 40 ∷ 0 ∷ 0 ∷ 0 ∷ 0 ∷ 0 ∷ 0 ∷ 0 ∷ 0 ∷ []

abbrev pub rule : List Entry
rule = gate 1 (1 ∷ 2 ∷ []) ∷ leaf 1 (image 18 0 0 0) ∷ leaf 4 (image 11 40 0 0) ∷ []
