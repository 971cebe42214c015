use Rattle.std.proofs.Common.{◌≡◌, ◌*◌, length, flat_map, take}
use Rattle.transcripts.proofs.writing.write.Given as goal

abbrev pub invariant-loop-i : goal.invariant-loop-i
invariant-loop-i g l = (length l.out ≡ length l.initial.out) × (take (g.row.W * l.i) l.out ≡ flat_map g.T.Spelt.spelt (take l.i l.items))
