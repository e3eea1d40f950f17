use Rattle.cbor_convert.proofs.BuilderParts.{item_held, items_stored}
use Rattle.cbor_convert.proofs.list.SerializeVec.serialize_element.Goals as goal

pub returns-clause-held : goal.returns-clause-held
returns-clause-held g c = λ ds h.
    let d = g.T.Serialize.document c.args.item.now in
    record {
      values = item_held ds d c.args.self.now.items.items c.push.new.self.items c.in_ok-value.value c.in_ok-push.ensures.items c.in_ok-value.ensures.value h.values;
      storable = items_stored ds d h.storable c.in_ok-value.ensures.storable;
    }
