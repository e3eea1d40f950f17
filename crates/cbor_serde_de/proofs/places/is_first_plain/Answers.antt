use Rattle.cbor_serde_de.proofs.PlainNames.{first_of}
use Rattle.cbor_serde_de.proofs.places.is_first_plain.Goals as goal

pub returns-clause-named : goal.returns-clause-named
returns-clause-named c = first_of c.is_plain_name.result c.args.names.now c.args.key.now c.args.at _ c.requires.inside c.requires.below c.is_plain_name.ensures.named
