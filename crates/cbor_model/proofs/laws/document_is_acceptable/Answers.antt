use Rattle.cbor_model.proofs.laws.document_is_acceptable.Goals as goal
use Rattle.cbor_model.proofs.Proved as proved

pub returns : goal.returns
returns c = proved.document_is_acceptable
