use Rattle.std.proofs.Common.{refl}
use Rattle.cbor_read.specs.Sources.{input_of_slice}
use Rattle.cbor_decode.specs.Decoder.{formats_of}
use Rattle.cbor_serde_de.specs.Places.{input_of}
use Rattle.cbor_serde_de.proofs.Decoded.{any_passed}
use Rattle.cbor_serde_de.proofs.format.CborFormat.skip.Goals as goal

pub returns-in-Ok : goal.returns-in-Ok
returns-in-Ok c =
    let old = c.args.self.now in
    record {
      taken = any_passed (formats_of old.decoder.formats) old.decoder.levels (input_of old) (input_of_slice c.skip.new.self.source) c.in-Ok.ensures.read;
      kept = record { around = refl; settings = c.in-Ok.ensures.settings };
    }
