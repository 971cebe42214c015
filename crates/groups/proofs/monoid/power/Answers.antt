use Rattle.std.proofs.Common.{rules, ◌≡◌, ◌%◌, arith}
use Rattle.groups.specs.Powers.{power_in, power_zero, one_right, even_turn, odd_turn}
use Rattle.groups.proofs.monoid.power.Goals as goal
use Rattle.groups.proofs.monoid.power.Goals.{then-left-eq1, else-left-eq1}

pub loop-left-init : goal.loop-left-init
loop-left-init g c =
    let laws = g.met.M.Monoid.multiplies c.args.monoid.now c.args.at in
    let first = laws.one_left _ (power_in laws c.args.base.now c.args.exponent c.requires) in
    let one = laws.one_in c.args.base.now c.requires in
    search rules

pub loop-left-preserved : goal.loop-left-preserved
loop-left-preserved g c =
    let laws = g.met.M.Monoid.multiplies c.args.monoid.now c.args.at in
    let inv = c.loop-left.invariant in
    let s = c.loop-left.square in
    let r = c.loop-left.result in
    let n = c.loop-left.left in
    let square-in = laws.times_in s s inv.1 inv.1 in
    elim c.if-left-eq1.branch [
      | then-left-eq1 w ↦
          let odd : n % 2 ≡ 1 = omega (arith, w.if-left-eq1.true) in
          let turn = odd_turn laws r s n inv.0 inv.1 odd in
          let result-in = laws.times_in r s inv.0 inv.1 in
          search rules
      | else-left-eq1 w ↦
          let even : n % 2 ≡ 0 = omega (arith, w.if-left-eq1.false) in
          let turn = even_turn laws r s n inv.1 even in
          search rules
    ]

pub returns-clause-value : goal.returns-clause-value
returns-clause-value g c =
    let laws = g.met.M.Monoid.multiplies c.args.monoid.now c.args.at in
    let done : c.loop-left.left ≡ 0 = omega arith in
    let none = power_zero laws c.loop-left.square in
    let right = one_right laws c.loop-left.result c.loop-left.invariant.0 in
    search rules
