use Rattle.std.proofs.Common.{◌≡◌, ◌-◌, length, sym, refl, ap, subst}
use Rattle.std.specs.Prelude.{Decides}
use Rattle.std.specs.Cmp.Lexicographic.{pointwise_decides}
use Rattle.splits.specs.Gates.{Balanced, AgreeFirst}
use Rattle.splits.proofs.Forks.{told}
use Rattle.splits.proofs.compare.balances.Goals as goal

pub returns : goal.returns
returns g c =
    let m = g.F.Field.model c.args.field.now in
    let children = c.args.children.now in
    let expected = c.split_simulated.new.children in
    let own = c.args.own in
    let k = c.args.k in
    let copied = c.copy_from_slice.ensures.after in
    let n = length c.copy_from_slice.new.self in
    let same : Decides c.eq.result (expected ≡ children) =
    subst (λ b. Decides b (expected ≡ children)) (sym c.eq.ensures) (pointwise_decides g.met.F.Field.same expected children) in
    told c.eq.result (Balanced m k own children) same
    (λ e. subst (Balanced m k own) e c.split_simulated.ensures.balanced)
    (λ b. sym (c.split_simulated.ensures.only children (ap length (sym copied)) b (subst (AgreeFirst m (n - k) children) (sym copied) (λ j l. refl))))
