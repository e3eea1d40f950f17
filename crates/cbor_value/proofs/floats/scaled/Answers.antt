use Rattle.std.proofs.Common.{rules}
use Rattle.std.proofs.lemmas.Float.{not_nan_f32_bits}
use Rattle.cbor_value.proofs.Numbers.{product}
use Rattle.cbor_value.proofs.floats.scaled.Goals as goal

pub float_from_bits-unit : goal.float_from_bits-unit
float_from_bits-unit c = not_nan_f32_bits _ (search rules)

pub returns : goal.returns
returns c = product c.args.digits c.args.exponent c.requires.few_digits c.requires.small
