use Rattle.cbor_de.proofs.taken.TagTaken as tags
use Rattle.cbor_de.proofs.laws.tag_taken.Goals as goal

pub returns : goal.returns
returns c = tags.tag_taken
