use Rattle.std.proofs.Common.{◌≡◌, ◌<◌, drop}
use Rattle.words.specs.Bytes.{number, continued}
use Rattle.words.proofs.bytes.number.Given as goal

abbrev pub invariant-loop-byte : goal.invariant-loop-byte
invariant-loop-byte l = (l.value < 4294967296) × (number l.word ≡ continued l.value (drop l.byte-index l.word))
