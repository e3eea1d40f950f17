use Rattle.cbor_model.proofs.laws.reader_finds.Goals as goal
use Rattle.cbor_model.proofs.Proved as proved

pub returns : goal.returns
returns c = proved.reader_finds
