use Rattle.std.proofs.Common.{◌≡◌, ◌-◌, sym, ap, ◌∙◌}
use native.Mathlib.Nat.{add-mod-mod}
use Rattle.fields.specs.Scalars.{scalar}
use Rattle.fields.specs.Modular.{difference_mod}
use Rattle.fields.proofs.scalars.ScalarsField.difference.Goals as goal

pub returns : goal.returns
returns c =
    let q = c.args.self.now.q in
    let a = c.args.a.0 in
    let b = c.args.b.0 in
    let is : c.new.result.0 ≡ difference_mod q a b = cc in
    ap scalar (is ∙ sym (add-mod-mod a (q - b) q))
