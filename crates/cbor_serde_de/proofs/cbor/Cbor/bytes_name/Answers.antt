use Rattle.std.proofs.Common.{true, false, inl, subst}
use Rattle.cbor_read.specs.Source.{Lends, part_bytes, slice_refusals}
use Rattle.cbor_read.specs.Sources.{input_of_slice}
use Rattle.cbor_decode_as.specs.Strings.{LendsString}
use Rattle.cbor_decode_as.specs.Takes.{context}
use Rattle.cbor_serde_de.specs.PickedNames.{PicksItem}
use Rattle.cbor_serde_de.specs.Places.{input_of}
use Rattle.cbor_serde_de.proofs.Decoded.{string_lent}
use Rattle.cbor_serde_de.proofs.cbor.Cbor.bytes_name.Goals as goal

pub returns-in-Ok : goal.returns-in-Ok
returns-in-Ok c =
    let old = c.args.self.now in
    let d = c.read_bytes.follows.lender-at-none in
    let held = c.read_bytes.follows.holds-at-none in
    let lends : Lends = record { whole = true; joined = false } in
    let lent = subst (λ r. LendsString slice_refusals (context old.decoder.formats lends) old.decoder.levels (input_of old) (input_of_slice d.source) r) c.in-Ok.is held.2 in
    string_lent old d (record { levels = held.0; formats = held.1 }) (PicksItem c.args.integer_keys c.args.names.now) lends c.in-Ok.key c.place_of_part.result
    (λ r is. inl (part_bytes c.in-Ok.key, is.0, c.place_of_part.ensures)) lent
