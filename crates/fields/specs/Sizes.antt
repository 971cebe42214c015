-- How much memory a value takes.
--   Small R    a value of the type R takes fewer than 2 ^ 32 bytes, so that an array of a few always fits
use Rattle.std.specs.Prelude.{◌^◌, ◌<◌}
use prog.Memory.{size}
use Rattle.std.specs.Borrow.{RattleType}
use denote.Param.{layout}

abbrev pub Small : RattleType → Type 0
Small R = size (layout R) < 2 ^ 32
