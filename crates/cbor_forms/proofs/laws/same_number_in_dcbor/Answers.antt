use Rattle.cbor_value.specs.Floats.{number_of}
use Rattle.cbor_forms.specs.Shortened.{rewritten}
use Rattle.cbor_forms.proofs.Forms.{integer_in}
use Rattle.cbor_forms.proofs.SameNumbers.{same_reduced, same_numbers_reduced, integer_reduced}
use Rattle.cbor_forms.proofs.SameNumbers.{reduced_integer}
use Rattle.cbor_forms.proofs.laws.same_number_in_dcbor.Goals as goal

pub returns-clause-floats : goal.returns-clause-floats
returns-clause-floats c a b = (same_reduced a b, same_numbers_reduced a b)

pub returns-clause-integers : goal.returns-clause-integers
unfolding rewritten
returns-clause-integers c a z = (integer_reduced a z, reduced_integer a z)

pub returns-clause-in_range : goal.returns-clause-in_range
returns-clause-in_range c a z is = (integer_in (number_of a) z is).1
