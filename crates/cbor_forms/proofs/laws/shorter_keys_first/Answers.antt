use Rattle.cbor_model.specs.Plain.{no_pairs}
use Rattle.cbor_model.proofs.facts.Maps.{KeysAscend-put_all}
use Rattle.cbor_forms.specs.LengthFirst.{encoded, as_byte_strings}
use Rattle.cbor_forms.proofs.laws.shorter_keys_first.Goals as goal

pub returns-clause-ascending : goal.returns-clause-ascending
returns-clause-ascending c ps = KeysAscend-put_all (encoded ps) no_pairs tt

pub returns-clause-order : goal.returns-clause-order
returns-clause-order c a b = as_byte_strings a b
