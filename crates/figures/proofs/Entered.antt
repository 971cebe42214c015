-- The rule is read from its text and ring, and its set of kinds is lawful. What is asked at each entry is asked at three.
use Rattle.std.proofs.Common.{◌≡◌, ℕ, zero, suc, ◌<◌, ◌≤◌, Bool, false, List, [], ◌∷◌, None, refl, subst, arith, lit≤}
use mathlib.Core.Option.{Option as Found, some, none}
use lib.ListN.{get_elem?}
use Rattle.groups.specs.Monoids.{power}
use Rattle.groups.specs.Residues.{residue}
use Rattle.groups.specs.Circles.{pair}
use Rattle.groups.specs.ResidueLaws.{residue_monoid, residue_laws}
use Rattle.groups.specs.CircleLaws.{circle_group_monoid, circle_laws}
use Rattle.kinds.specs.Kinds.{Lawful}
use Rattle.kinds.specs.declared.image.Image.{Image}
use Rattle.kinds.specs.GroupLaws.{form_lawful}
use Rattle.kinds.specs.declared.form.Form.TheVariants.{Single, Twin, Mixed}
use Rattle.kinds.specs.JoinLaws.{join_lawful}
use Rattle.supplied.specs.Supplied.{Three}
use Rattle.supplied.proofs.SixKinds.{six_listed}
use Rattle.rules.specs.Grammar.{Rule, key as key_item, gate as gate_item, none as no_more, more, decimal, opening, Legal}
use Rattle.rules.specs.Texts.{Means, Read}
use Rattle.rules.specs.Tables.{WellFormed}
use Rattle.rules.proofs.Parents.{well_formed}
use Rattle.rules.proofs.Whole.{one_table}
use Rattle.rings.specs.Rings.{ring_refusal}
use Rattle.releases.specs.Entries.{Entry, leaf, gate, LeafAt, GateAt}
use Rattle.releases.specs.Theorems.{Setting}
use Rattle.releases.proofs.Tabled.{reading_sets}
use Rattle.figures.specs.Setting.{residues, circle, kinds, image, text, rows, ring, rule}

abbrev grammar : Rule
grammar = gate_item 1 (more (key_item 1) (more (key_item 4) no_more))

legal : Legal grammar
unfolding decimal opening
legal = record {
  formed = (lit≤ tt, lit≤ tt, lit≤ tt, lit≤ tt, ((lit≤ tt, lit≤ tt), ((lit≤ tt, lit≤ tt), tt)));
  deep = lit≤ tt;
  few = lit≤ tt;
  short = lit≤ tt;
}

means : Means text rows
unfolding decimal opening
means = record { rule = grammar; legal = legal; spelt = refl; listed = refl }

formed : WellFormed rows
unfolding decimal opening
formed = well_formed grammar legal

pub table_read : Read text rows
table_read = record { means = means; only = λ es m. one_table text rows es means m; well_formed = formed }

abbrev three_of : {G E : Type 0} → G → Three G E
three_of g = record {
  left = record { left = record { group = g; form = record {} }; right = record { group = g; form = record {} } };
  right = record { group = g; form = record {} };
}

lawful : Lawful kinds
lawful =
    let r = form_lawful (residue_monoid 11 23 (residue 4) (residue 9) residues.passed) (residue_laws 11 23 (residue 4) (residue 9) residues.passed) in
    let c = form_lawful (circle_group_monoid 11 43 (pair 2 13) (pair 26 23) circle.passed) (circle_laws 11 43 (pair 2 13) (pair 26 23) circle.passed) in
    subst Lawful (six_listed residues circle (three_of residues) (three_of circle) (refl, refl, refl) (refl, refl, refl) refl)
    (join_lawful _ _
    (join_lawful _ _ (join_lawful _ _ (r Single) (r Twin)) (r Mixed))
    (join_lawful _ _ (join_lawful _ _ (c Single) (c Twin)) (c Mixed)))

pub ring_read : ring_refusal kinds ring ≡ None
unfolding power
ring_read = refl

pub setting : Setting kinds rule
setting = reading_sets kinds lawful rows formed ring ring_read refl

abbrev GateCase : (ℕ → List ℕ → Type 0) → Found Entry → Type 0
GateCase P none = Unit {0}
GateCase P (some (leaf kind s)) = Unit {0}
GateCase P (some (gate k cs)) = P k cs

abbrev LeafCase : (ℕ → Image → Type 0) → Found Entry → Type 0
LeafCase P none = Unit {0}
LeafCase P (some (leaf kind s)) = P kind s
LeafCase P (some (gate k cs)) = Unit {0}

pub at_gates : (P : ℕ → ℕ → List ℕ → Type 0) → P 0 1 (1 ∷ 2 ∷ []) → (p k : ℕ) (cs : List ℕ) → GateAt rule p k cs → P p k cs
at_gates P h p k cs e = subst (GateCase (P p)) e (all p)
  where
    all : (p : ℕ) → GateCase (P p) (get_elem? rule p)
    all zero = h
    all (suc zero) = tt
    all (suc (suc zero)) = tt
    all (suc (suc (suc p))) = tt

pub at_leaves : (P : ℕ → ℕ → Image → Type 0) → P 1 1 (image 18 0 0 0) → P 2 4 (image 11 40 0 0) → (i kind : ℕ) (s : Image) → LeafAt rule i kind s → P i kind s
at_leaves P a b i kind s e = subst (LeafCase (P i)) e (all i)
  where
    all : (i : ℕ) → LeafCase (P i) (get_elem? rule i)
    all zero = tt
    all (suc zero) = a
    all (suc (suc zero)) = b
    all (suc (suc (suc i))) = tt

pub below_two : (P : ℕ → Type 0) → P 0 → P 1 → (j : ℕ) → j < 2 → P j
below_two P a b zero l = a
below_two P a b (suc zero) l = b
below_two P a b (suc (suc j)) l = absurd (omega arith)

pub below_three : (P : ℕ → Type 0) → P 0 → P 1 → P 2 → (j : ℕ) → j < 3 → P j
below_three P a b c zero l = a
below_three P a b c (suc zero) l = b
below_three P a b c (suc (suc zero)) l = c
below_three P a b c (suc (suc (suc j))) l = absurd (omega arith)

-- which entries are real
abbrev pub marks : Bool → Bool → Bool → ℕ → Bool
marks a b c zero = a
marks a b c (suc zero) = b
marks a b c (suc (suc zero)) = c
marks a b c (suc (suc (suc i))) = false

pub outside_marks : (a b c : Bool) (i : ℕ) → 3 ≤ i → marks a b c i ≡ false
outside_marks a b c zero l = absurd (omega arith)
outside_marks a b c (suc zero) l = absurd (omega arith)
outside_marks a b c (suc (suc zero)) l = absurd (omega arith)
outside_marks a b c (suc (suc (suc i))) l = refl
