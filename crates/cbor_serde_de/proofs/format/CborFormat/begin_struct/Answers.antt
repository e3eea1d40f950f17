use Rattle.cbor_serde_de.proofs.Looks.{structs_behind}
use Rattle.cbor_serde_de.proofs.format.CborFormat.begin_struct.Goals as goal

pub returns-in-None : goal.returns-in-None
returns-in-None c =
    let h = c.in-None.ensures in
    structs_behind c.args.self.now c.head_at_hand.new.decoder c.any_struct.new.self h.read h.levels h.formats c.any_struct.result c.any_struct.ensures
