use Rattle.std.proofs.Common.{◌≡◌, ◌-◌, ◌≤◌, T, length, sym, subst, ◌∙◌, arith}
use Rattle.rules.specs.Views.{children_of}
use Rattle.splits.specs.Gates.{Balanced}
use Rattle.descent.specs.Rows.{SpreadOut}
use Rattle.descent.proofs.Moved.{same_row, copied_long, copied_at, eight_length}
use Rattle.descent.proofs.gate.split_gate.Goals as goal

pub returns : goal.returns
returns g c =
    let m = g.F.Field.model c.args.field.now in
    let z = m.zero in
    let cs = children_of c.args.children.now in
    let k = c.args.threshold in
    let row = c.split_simulated.new.children in
    let ys = c.spread_out.new.to in
    let n = c.len-2.result - k in
    let few : c.len.result ≤ 8 = omega (arith, c.len.ensures, c.requires.sizes) in
    let eight = eight_length c.len.result c.args.own few in
    let long : length row ≡ length cs =
    c.split_simulated.auto.children ∙ copied_long c.copy_from_slice.new.self c.args.shares.now _ n c.copy_from_slice.ensures.after (omega (arith, c.len-2.ensures, c.requires.sizes)) (omega (arith, eight, c.len.ensures, c.len-2.ensures)) ∙ eight ∙ c.len.ensures.is in
    let spread : SpreadOut cs row c.args.challenges.now ys = subst (λ u. SpreadOut u row c.args.challenges.now ys) c.deref.ensures c.spread_out.ensures in
    record {
      balanced = subst (λ r. Balanced m k c.args.own r) (sym (same_row z ys cs row long (λ j h. spread.placed j z h))) c.split_simulated.ensures.balanced;
      given = λ j h.
          spread.placed j z (omega arith) ∙ c.split_simulated.ensures.kept j (omega arith)
          ∙ copied_at c.copy_from_slice.new.self c.args.shares.now _ n j z c.copy_from_slice.ensures.after (omega (arith, c.len-2.ensures, c.requires.sizes)) (omega (arith, c.len-2.ensures));
      members = λ j h. subst (λ x. T (m.member x)) (sym (spread.placed j z h)) (c.split_simulated.ensures.elements j (omega arith));
      kept = λ p none. spread.kept p z none;
    }
