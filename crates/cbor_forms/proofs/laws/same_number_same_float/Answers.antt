use Rattle.cbor_forms.proofs.Forms.{same_floats, same_numbers}
use Rattle.cbor_forms.proofs.laws.same_number_same_float.Goals as goal

pub returns : goal.returns
returns c a b = (same_floats a b, same_numbers a b)
