use Rattle.std.proofs.Common.{◌≡◌, sym, ◌∙◌, Some, rules}
use Rattle.cbor_value.specs.View.{view}
use Rattle.cbor_convert.specs.Meaning.{value_of}
use Rattle.cbor_convert.proofs.BuilderParts.{pair_held, pairs_stored, key_is}
use Rattle.cbor_convert.proofs.map.SerializeMap.serialize_value.Goals as goal

pub returns-clause-held : goal.returns-clause-held
returns-clause-held g c = λ ps k h.
    let d = g.V.Serialize.document c.args.value.now in
    let key = c.unwrap-key.result in
    let was : c.args.self.now.key ≡ Some key = sym c.take.ensures.value ∙ c.unwrap-key.ensures in
    let is : view key ≡ value_of k = key_is c.args.self.now.key key k was h.key in
    record {
      values = pair_held ps k d c.args.self.now.list.pairs.items c.push.new.self.items key c.in_ok-value.value (search rules) is c.in_ok-value.ensures.value h.before.values;
      storable = pairs_stored ps k d h.before.storable h.storable c.in_ok-value.ensures.storable;
    }
