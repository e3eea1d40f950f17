use Rattle.std.proofs.Common.{◌∙◌, ap}
use lib.Ieee.{neg}
use Rattle.cbor_value.proofs.Numbers.{half_below, half_above}
use Rattle.cbor_value.proofs.floats.half_to_f32.Goals as goal

pub returns-then-bits-ge32768 : goal.returns-then-bits-ge32768
returns-then-bits-ge32768 c =
    ap neg c.half_size-size.ensures ∙ half_above c.args.bits c.if-bits-ge32768.true

pub returns-else-bits-ge32768 : goal.returns-else-bits-ge32768
returns-else-bits-ge32768 c =
    c.half_size-size.ensures ∙ half_below c.args.bits c.if-bits-ge32768.false
