use Rattle.cbor_de.proofs.taken.Items as proved
use Rattle.cbor_de.proofs.stream_laws.has_longest_list.Goals as goal

pub returns : goal.returns
returns c = proved.has_longest_list
