use Rattle.cbor_de.proofs.taken.Items as proved
use Rattle.cbor_de.proofs.stream_laws.one_list_of_items.Goals as goal

pub returns : goal.returns
returns c = proved.one_list_of_items
