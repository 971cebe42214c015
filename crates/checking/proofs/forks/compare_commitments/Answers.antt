use Rattle.std.proofs.Common.{◌≡◌, Bool, false, ◌&&◌, ◌==◌, get_or, refl, sym, subst, inr, arith, rules}
use Rattle.kinds.specs.Kinds.{zeros}
use Rattle.kinds.specs.declared.image.Image.{Image}
use Rattle.checking.proofs.forks.compare_commitments.Goals as goal

abbrev same : Image → Image → Bool
same a b = ((a.0.0 == b.0.0) && (a.0.1 == b.0.1)) && ((a.1.0 == b.1.0) && (a.1.1 == b.1.1))

differ : (a b : Image) → same a b ≡ false → ¬ (a ≡ b)
differ a b d e = let f : same a a ≡ false = subst (λ b. same a b ≡ false) (sym e) d in grind arith

pub returns-in-Some : goal.returns-in-Some
returns-in-Some c =
    let differs : same (get_or c.args.commitments.now c.in-Some.leaf zeros) (get_or c.args.others.now c.in-Some.leaf zeros) ≡ false = search rules in
    inr (c.in-Some.leaf, search rules, (λ j l. search rules), differ _ _ differs, refl)
