use Rattle.cbor_rules.proofs.laws.type_first_is_bytewise.Goals as goal
use Rattle.cbor_rules.proofs.TypeOrder as proved

pub returns : goal.returns
returns c = proved.type_first
