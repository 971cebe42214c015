use Rattle.std.proofs.Common.{◌<◌}
use Rattle.fields.proofs.Euclid.{Coprime, Factor}
use Rattle.fields.proofs.scalars.ScalarsField.quotient.Given as goal

abbrev pub invariant-loop-newer : goal.invariant-loop-newer
invariant-loop-newer l =
    let q = l.self.q in
    let d = l.initial.newer.0.0 in
    let a = l.initial.newer.1.0 in
    (l.older.1.0 < q) × (l.newer.1.0 < q) × (0 < l.older.0.0) × Coprime l.older.0.0 l.newer.0.0
    × Factor q d a l.older.0.0 l.older.1.0 × Factor q d a l.newer.0.0 l.newer.1.0

abbrev pub decreases-loop-newer : goal.decreases-loop-newer
decreases-loop-newer l = l.newer.0.0
