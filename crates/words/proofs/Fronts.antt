-- What is left after a line is shorter.
use Rattle.std.proofs.Common.{◌≡◌, ◌<◌, ℕ, false, eqb, List, length, arith, length-drop}
use Rattle.std.proofs.lemmas.Bool.{eqb-false}
use Rattle.words.specs.declared.bytes.Class.TheVariants.{Line}
use Rattle.words.specs.Bytes.{leading, past, after_line}

pub after_line_shorter : (bs : List ℕ) → eqb (length bs) 0 ≡ false → length (after_line bs) < length bs
after_line_shorter bs e =
    let some = eqb-false (length bs) 0 e in
    let one = length-drop 1 (past Line bs) in
    let all = length-drop (leading Line bs) bs in
    omega arith
