-- 02, item 6: what two words say. The number has 128 bits, two's complement: the high word is signed, the low one is not.
use Rattle.std.specs.Prelude.{◌^◌, ℤ, pos, ◌+ℤ◌, ◌*ℤ◌}
use Rattle.model.specs.declared.Wide.{Wide}

abbrev pub value : Wide → ℤ
value w = w.high *ℤ pos (2 ^ 64) +ℤ pos w.low
