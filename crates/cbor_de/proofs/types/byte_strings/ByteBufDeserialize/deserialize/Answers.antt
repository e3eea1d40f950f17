use Rattle.std.proofs.Common.{inl, inr, ℕ, Vec}
use Rattle.std.specs.Global.{Global}
use Rattle.cbor_value.specs.declared.bytes.ByteBuf.{ByteBuf}
use Rattle.cbor_model.specs.Raw.{Raw}
use Rattle.cbor_model.specs.Reader.{item_at}
use Rattle.cbor_decode.specs.Gives.{limits}
use Rattle.cbor_decode_as.specs.Strings.{IsByteString}
use Rattle.cbor_decode_as.specs.Takes.{raws, formats_of}
use Rattle.cbor_decode_as.proofs.facts.Strings.{none_of}
use Rattle.cbor_de.proofs.types.byte_strings.ByteBufDeserialize.deserialize.Goals as goal

pub returns-in-Err-clause-read : goal.returns-in-Err-clause-read
returns-in-Err-clause-read g c =
    let de = c.args.de.now in
    let s = g.R.Source.source de.decoder.source in
    let reads : (Raw → ByteBuf → Type 0) = λ r b. IsByteString r b.0.items in
    let other : (Raw → Vec ℕ Global → Type 0) = λ r v. IsByteString r v.items in
    record {
      took = c.in-Err.ensures.read.took;
      reported = λ bs reports. elim (c.in-Err.ensures.read.reported bs reports) [
        | inl excused ↦ inl excused
        | inr none ↦ inr (none_of reads other (λ b. b.0) (item_at (raws (formats_of de.decoder.formats) (limits s bs)) de.decoder.levels bs) (λ r b is. is) none)
      ];
    }
