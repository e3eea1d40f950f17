use Rattle.cbor_model.proofs.laws.document_reads_back.Goals as goal
use Rattle.cbor_model.proofs.Proved as proved

pub returns : goal.returns
returns c = proved.document_reads_back
