use Rattle.std.proofs.Common.{◌≡◌, ◌++◌, map, length, drop}
use Rattle.rings.specs.Rings.{line_at, lines_refusal, lines_in}
use Rattle.rings.proofs.ring.read_ring.Given as goal

abbrev pub invariant-loop-i : goal.invariant-loop-i
invariant-loop-i g l =
    let m = g.S.LeafKinds.meaning l.set in
    let all = map (λ c. line_at c 0) l.chunks in
    let left = map (λ c. line_at c 0) (drop l.i l.chunks) in
    (length (lines_in l.lines) ≡ l.i) × (lines_refusal m 0 0 all ≡ lines_refusal m l.last l.i left) × (lines_in l.lines ++ left ≡ all)
