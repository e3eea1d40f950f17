use Rattle.cbor_model.proofs.laws.written_reads_back.Goals as goal
use Rattle.cbor_model.proofs.Proved as proved

pub returns : goal.returns
returns c = proved.written_reads_back
