use Rattle.std.proofs.Common.{◌≡◌, ◌∙◌, false, refl}
use lib.Ieee.{inf, nan, binary32, of_bits, of_fields}
use Rattle.cbor_value.proofs.Numbers.{parts_low, parts_infinite, parts_nan, parts_normal}
use Rattle.cbor_value.proofs.floats.half_size.Goals as goal

infinity : of_bits binary32 0x7f80_0000 ≡ inf false
unfolding of_bits of_fields
infinity = refl

no_number : of_bits binary32 0x7fc0_0000 ≡ nan
unfolding of_bits of_fields
no_number = refl

pub returns-then-exponent-eq0 : goal.returns-then-exponent-eq0
returns-then-exponent-eq0 c =
    c.scaled.ensures
    ∙ parts_low false c.args.exponent c.args.fraction c.if-exponent-eq0.true

pub returns-then-fraction-eq0 : goal.returns-then-fraction-eq0
returns-then-fraction-eq0 c =
    infinity
    ∙ parts_infinite false c.args.exponent c.args.fraction c.if-exponent-eq31.true
    c.if-fraction-eq0.true

pub returns-else-fraction-eq0 : goal.returns-else-fraction-eq0
returns-else-fraction-eq0 c =
    no_number
    ∙ parts_nan false c.args.exponent c.args.fraction c.if-exponent-eq31.true
    c.if-fraction-eq0.false

pub returns-else-exponent-eq31 : goal.returns-else-exponent-eq31
returns-else-exponent-eq31 c =
    c.scaled-else-exponent-eq31.ensures
    ∙ parts_normal false c.args.exponent c.args.fraction c.if-exponent-eq0.false
    c.if-exponent-eq31.false
