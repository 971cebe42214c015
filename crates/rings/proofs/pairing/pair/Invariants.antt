use Rattle.std.proofs.Common.{◌≡◌, ◌+◌, ◌++◌, map, length, drop}
use Rattle.rules.specs.Tables.{leaves}
use Rattle.rules.specs.Views.{row_of}
use Rattle.rings.specs.Rings.{lines_in}
use Rattle.rings.specs.Pairings.{pair_refusal, paired}
use Rattle.rings.proofs.pairing.pair.Given as goal

abbrev pub invariant-loop-entry : goal.invariant-loop-entry
invariant-loop-entry l =
    let es = map row_of l.entry-items in
    let left = map row_of (drop l.entry-index l.entry-items) in
    let ls = lines_in l.ring in
    (pair_refusal es ls ≡ pair_refusal left ls) × (lines_in l.lines ++ paired left ls ≡ paired es ls)
    × (length (lines_in l.lines) + leaves left ≡ leaves es)
