use Rattle.cbor_model.specs.Reader.{item_at}
use Rattle.cbor_io.specs.Error.{code_of, offset_of}
use Rattle.cbor_decode_as.specs.RawItems.{IsLentItem}
use Rattle.cbor_decode_as.specs.Takes.{context, formats_of, raws}
use Rattle.cbor_decode_as.proofs.facts.Readings.{refuses_map}
use Rattle.cbor_value.specs.RawBytes.{slice_bytes}
use Rattle.cbor_value.specs.declared.raw_value.RawSlice.{RawSlice}
use Rattle.cbor_de.proofs.values.RawValues.{none_seen}
use Rattle.cbor_de.proofs.types.raw.RawSliceDeserialize.deserialize.Goals as goal

pub returns-in-Err-clause-read : goal.returns-in-Err-clause-read
returns-in-Err-clause-read g c =
    let d = c.args.de.now.decoder in
    let e = c.in-Err.error in
    refuses_map g.R.Source.refusals (g.R.Source.source d.source) (code_of e) (offset_of e) _ _
    (λ l bs none. none_seen (IsLentItem (context d.formats g.R.Source.lends)) (λ (x : RawSlice). slice_bytes x) (item_at (raws (formats_of d.formats) l) d.levels bs) none) c.in-Err.ensures.refused
