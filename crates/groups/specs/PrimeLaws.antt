-- What holds of every group of prime order, from what holds of the product that it is cut from.
use Rattle.std.specs.Prelude.{◌≡◌, ℕ, ◌<◌, Bool, not, T, Some, None, Option}
use Rattle.std.proofs.Common.{sym, ap, subst, ◌∙◌, arith}
use Rattle.std.proofs.lemmas.Option.{cond_some}
use Rattle.std.specs.Float.Ieee.Fits.{and_l}
use Rattle.refusals.specs.declared.Refusal.TheVariants.{NoSuchGroup, UnfitBase}
use Rattle.refusals.specs.declared.Base.TheVariants.{First, Second}
use Rattle.groups.specs.Monoids.{MonoidLaws}
use Rattle.groups.specs.Groups.{GroupLaws}
use Rattle.groups.specs.Listed.{number_refusal}
use Rattle.groups.specs.Listing.{Numbers, numbers}
use Rattle.groups.specs.Passing.{Quiet, passes, quiet_both, picks}
use Rattle.groups.specs.Torsion.{torsion_laws, torsion_ordered}
use Rattle.groups.specs.Ambients.{AmbientModel, AmbientLaws, base, passing, group_elements, group_model, group_refusal}

-- what passes a test is what was read, and meets it
passed : {E : Type 0} (test : E → Bool) (o : Option E) (x : E) → passing test o ≡ Some x → (o ≡ Some x) × T (test x)
passed test None x e = absurd (let z : ◌≡◌ {A = ℕ} 0 1 = cc in let w = z in omega arith)
passed test (Some y) x e = let found = cond_some (test y) y x e in (ap Some found.1, subst T (sym (ap test (sym found.1) ∙ found.0)) tt)

module _ {E : Type 0} {a : AmbientModel E} (cut : AmbientLaws a) where
  module _ (q p : ℕ) (g h : E) (t : Quiet (group_refusal a q p g h)) where
    pub group_numbers : Numbers q p
    group_numbers = numbers q p (quiet_both (number_refusal q p) _ t).0

    some : 0 < q
    some = omega (arith, group_numbers.low)

    wide : 1 < p
    wide = omega (arith, group_numbers.modulus_low)

    pub group_monoid : MonoidLaws (group_elements a q p)
    group_monoid = torsion_laws (cut.multiplies p wide) (cut.turns q p some wide)

    pub group_laws : GroupLaws (group_elements a q p) (group_model a q p g h)
    group_laws =
        let n = group_numbers in
        let fits = passes (a.fits q p) NoSuchGroup _ (quiet_both (number_refusal q p) _ t).1 in
        let first = passes (base a q p g) (UnfitBase First) _ fits.1 in
        let second = passes (base a q p h) (UnfitBase Second) _ first.1 in
        record {
          prime = n.prime;
          low = n.low;
          high = n.high;
          g_in = and_l (a.element q p g) (not (a.is_one g)) first.0;
          h_in = and_l (a.element q p h) (not (a.is_one h)) second.0;
          ordered = torsion_ordered (cut.multiplies p wide) (cut.turns q p some wide);
          reads_words = λ x hx. ap (passing (a.element q p)) (cut.reads_words x) ∙ picks (a.element q p x) _ _ hx;
          reads_in = λ w x e. let found = passed (a.element q p) (a.read w) x e in (found.1, cut.reads_in w x found.0);
        }
