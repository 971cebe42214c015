use Rattle.std.proofs.Common.{◌≡◌, map, take}
use Rattle.std.specs.Simd.{first_chunks}
use Rattle.transcripts.proofs.reading.read.Given as goal

abbrev pub invariant-loop-i : goal.invariant-loop-i
invariant-loop-i g l = take l.i l.items ≡ map g.T.Spelt.meant (first_chunks g.row.W l.i l.words)
