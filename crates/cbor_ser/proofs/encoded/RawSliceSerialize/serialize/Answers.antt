use Rattle.std.proofs.Common.{ℕ, List, subst}
use Rattle.cbor_model.specs.Encoding.{Encodes, encoded_item}
use Rattle.cbor_ser.proofs.encoded.RawSliceSerialize.serialize.Goals as goal

pub returns : goal.returns
returns g c =
    c.write_encoded.ensures (encoded_item c.args.self.now.bytes.now)
    (subst (λ (bs : List ℕ). Encodes c.as_bytes.result.now (encoded_item bs)) c.as_bytes.ensures.bytes c.as_bytes.ensures.encodes)
