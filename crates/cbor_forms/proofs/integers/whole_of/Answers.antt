use Rattle.std.proofs.Common.{◌-◌, ◌+◌, ◌/◌, ◌%◌, ◌^◌, arith}
use Rattle.std.proofs.Math.Facts.{Fits-of_lt}
use Rattle.cbor_forms.proofs.WholeOfBits.{left_fits}
use Rattle.cbor_forms.proofs.integers.whole_of.Goals as goal

pub overflow_mul-result : goal.overflow_mul-result
overflow_mul-result c =
    Fits-of_lt
    (left_fits (2 ^ 52 + c.args.bits % 2 ^ 52) (c.args.bits / 2 ^ 52 % 2048 - 1075) (omega arith)
    (grind arith))
