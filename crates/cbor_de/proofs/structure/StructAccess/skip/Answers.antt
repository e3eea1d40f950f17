use Rattle.std.specs.Prelude.{⊤}
use Rattle.cbor_model.specs.Raw.{Raw}
use Rattle.cbor_io.specs.Error.{code_of, offset_of}
use Rattle.cbor_decode_as.specs.Takes.{formats_of}
use Rattle.cbor_de.specs.declared.types.ignored.IgnoredAny.{IgnoredAny}
use Rattle.cbor_de.proofs.structs.FieldNames.{no_item}
use Rattle.cbor_de.proofs.structure.StructAccess.skip.Goals as goal

pub returns-in-Err-clause-read : goal.returns-in-Err-clause-read
returns-in-Err-clause-read g c =
    let old = c.args.self.now.de.now.decoder in
    let e = c.in-Err.e in
    no_item (λ (r : Raw) (x : IgnoredAny). ⊤) (record {}) (λ r. tt) g.R.Source.refusals (formats_of old.formats) old.levels (g.R.Source.source old.source) (code_of e) (offset_of e) c.in-Err.ensures.read

pub returns-in-Err-clause-memory : goal.returns-in-Err-clause-memory
returns-in-Err-clause-memory g c = λ out bs reports u rest got. c.in-Err.ensures.memory out bs reports (record {}) rest (record { item = got.item; is = got.is; means = tt })
