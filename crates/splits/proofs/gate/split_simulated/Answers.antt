use Rattle.std.proofs.Common.{◌≡◌, ◌-◌, length, take, sym, subst, arith}
use Rattle.std.proofs.lemmas.List.{length-take-le}
use Rattle.splits.specs.Gates.{Balanced}
use Rattle.splits.specs.Marks.{missing, First}
use Rattle.splits.proofs.Picked.{first_take, missing_first}
use Rattle.splits.proofs.gate.split_simulated.Goals as goal

pub returns : goal.returns
returns g c =
    let m = g.F.Field.model c.args.field.now in
    let given = c.args.children.now in
    let n = length given in
    let k = c.args.k in
    let known = take n c.first-known.result in
    let room = c.first-known.ensures.size in
    let long : length known ≡ n = length-take-le n c.first-known.result (omega (arith, c.requires.sizes)) in
    let first : First known (n - k) = first_take c.first-known.result (n - k) n (omega arith) (omega (arith, c.requires.sizes)) c.first-known.ensures.first in
    let wanted : missing known ≡ k = omega (arith, missing_first known (n - k) first (omega arith), c.requires.sizes) in
    record {
      elements = c.split.ensures.elements;
      balanced = subst (λ w. Balanced m w c.args.own c.split.new.children) wanted c.split.ensures.balanced;
      kept = λ j l. c.split.ensures.kept j (omega arith) ((first j).1 l);
      only = λ others l b agree. c.split.ensures.only others l (subst (λ w. Balanced m w c.args.own others) (sym wanted) b) (λ j h t. agree j ((first j).0 t));
    }
