use Rattle.std.proofs.Common.{◌≡◌, T}
use Rattle.groups.specs.Monoids.{power}
use Rattle.groups.proofs.monoid.power.Given as goal

abbrev pub invariant-loop-left : goal.invariant-loop-left
invariant-loop-left g l =
    let m = g.M.Monoid.monoid l.monoid l.at in
    T (m.member l.result) × T (m.member l.square) × (m.times l.result (power m l.square l.left) ≡ power m l.base l.exponent)

abbrev pub decreases-loop-left : goal.decreases-loop-left
decreases-loop-left g l = l.left
