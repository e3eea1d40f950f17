use Rattle.cbor_de.proofs.taken.Items as proved
use Rattle.cbor_de.proofs.stream_laws.all_are_most.Goals as goal

pub returns : goal.returns
returns c = proved.all_are_most
