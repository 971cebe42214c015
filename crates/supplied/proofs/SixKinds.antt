-- The nested joins of the supplied set, as the list of their six kinds.
use Rattle.std.proofs.Common.{◌≡◌, Bool, true, false, eqb, List, [], ◌∷◌, IfOk, Some, None, Ok, Err, Option, Result, sym, refl, ap, ◌∙◌, ap₂, lit≤}
use Rattle.std.proofs.lemmas.Bool.{eqb-true}
use Rattle.refusals.specs.declared.Refusal.{Refusal}
use Rattle.refusals.specs.declared.Refusal.TheVariants.{OrdersDiffer}
use Rattle.refusals.specs.Checks.{unless, or_else, told}
use Rattle.groups.specs.Monoids.{MonoidModel}
use Rattle.groups.specs.Groups.{GroupModel}
use Rattle.groups.specs.Circles.{Pair}
use Rattle.groups.specs.declared.residue.Residue.{Residue}
use Rattle.groups.specs.PrimeGroups.{ResidueGroup, CircleGroup}
use Rattle.kinds.specs.Kinds.{Kind, KindModel}
use Rattle.kinds.specs.GroupKinds.{single, twin, mixed, single_set, twin_set, mixed_set}
use Rattle.kinds.specs.Joins.{join, join_refusal}
use Rattle.kinds.specs.Numbered.{set_of}
use Rattle.kinds.proofs.NumberedJoins.{alone_listed, join_listed}
use Rattle.supplied.specs.Supplied.{Three, SuppliedSet, three, six, residue_product, residue_group, circle_product, circle_group, three_sets, meant}

-- the three groups of a triple are one group
abbrev pub All : {G E : Type 0} → G → Three G E → Type 0
All x s = (s.left.left.group ≡ x) × (s.left.right.group ≡ x) × (s.right.group ≡ x)

pub three_listed : {G E : Type 0} (m : G → MonoidModel E) (g : G → GroupModel E) (x : G) (s : Three G E) → All x s
    → three_sets m g s ≡ set_of (g x).order (three (m x) (g x))
three_listed m g x s (a, b, c) =
    let q = (g x).order in
    let k = single (m x) (g x) in
    let l = twin (m x) (g x) in
    let n = mixed (m x) (g x) in
    (λ t. join (join (single_set (m (a t)) (g (a t))) (twin_set (m (b t)) (g (b t)))) (mixed_set (m (c t)) (g (c t))))
    ∙ ap₂ join (ap₂ join (alone_listed q k) (alone_listed q l) ∙ join_listed q (k ∷ []) (l ∷ []) (lit≤ tt)) (alone_listed q n)
    ∙ join_listed q (k ∷ l ∷ []) (n ∷ []) (lit≤ tt)

only : (o : Option Refusal) → or_else o None ≡ o
only None = refl
only (Some why) = refl

agree : (b : Bool) → unless b OrdersDiffer ≡ None → b ≡ true
agree true e = refl
agree false e = cc

module _ (r : ResidueGroup) (c : CircleGroup) (a : Three ResidueGroup Residue) (b : Three CircleGroup Pair) (one : All r a) (two : All c b) where
  abbrev residue_kinds : List Kind
  residue_kinds = three (residue_product r) (residue_group r)

  abbrev circle_kinds : List Kind
  circle_kinds = three (circle_product c) (circle_group c)

  abbrev left : KindModel
  left = three_sets residue_product residue_group a

  abbrev right : KindModel
  right = three_sets circle_product circle_group b

  left_listed : left ≡ set_of r.q residue_kinds
  left_listed = three_listed residue_product residue_group r a one

  right_listed : right ≡ set_of c.q circle_kinds
  right_listed = three_listed circle_product circle_group c b two

  pub why_refused : join_refusal left right ≡ unless (eqb r.q c.q) OrdersDiffer
  why_refused = ap₂ join_refusal left_listed right_listed ∙ only (unless (eqb r.q c.q) OrdersDiffer)

  pub six_listed : r.q ≡ c.q → join left right ≡ set_of r.q (six r c)
  six_listed e =
      ap₂ join left_listed (right_listed ∙ ap (λ q. set_of q circle_kinds) (sym e))
      ∙ join_listed r.q residue_kinds circle_kinds (lit≤ tt)

  pub six_made : (x : Result SuppliedSet Refusal) → told x ≡ join_refusal left right → IfOk x (λ s. (s.left ≡ a) × (s.right ≡ b))
      → IfOk x (λ s. meant s ≡ set_of r.q (six r c))
  six_made (Ok s) e (f, g) =
      ap₂ (λ (u : Three ResidueGroup Residue) (v : Three CircleGroup Pair). join (three_sets residue_product residue_group u) (three_sets circle_product circle_group v)) f g
      ∙ six_listed (eqb-true r.q c.q (agree (eqb r.q c.q) (sym (e ∙ why_refused))))
  six_made (Err why) e m = tt
