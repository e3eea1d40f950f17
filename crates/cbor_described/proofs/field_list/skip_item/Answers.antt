use Rattle.std.specs.Prelude.{⊤}
use Rattle.cbor_model.specs.Raw.{Raw}
use Rattle.cbor_io.specs.Error.{code_of, offset_of}
use Rattle.cbor_decode_as.specs.Takes.{formats_of}
use Rattle.cbor_de.specs.declared.types.ignored.IgnoredAny.{IgnoredAny}
use Rattle.cbor_de.proofs.facts.Readings.{no_item}
use Rattle.cbor_read.specs.Source.{asks_for}
use Rattle.cbor_decode.specs.HasChunks.{AsksWhere, HasChunks}
use Rattle.cbor_de.specs.Structs.{IsAny}
use Rattle.cbor_described.proofs.Makings.{memory_as}
use Rattle.cbor_decode_as.proofs.facts.Refusals.{formats_if_any}
use Rattle.cbor_described.proofs.field_list.skip_item.Goals as goal

pub returns-in-Err-clause-read : goal.returns-in-Err-clause-read
returns-in-Err-clause-read g c =
    let old = c.args.de.now.decoder in
    let e = c.in-Err.e in
    no_item (λ (r : Raw) (x : IgnoredAny). ⊤) (record {}) (λ r. tt) g.R.Source.refusals (formats_of old.formats) old.levels (g.R.Source.source old.source) (code_of e) (offset_of e) c.in-Err.ensures.read

pub returns-in-Err-clause-memory : goal.returns-in-Err-clause-memory
returns-in-Err-clause-memory g c =
    let old = c.args.de.now.decoder in
    memory_as (formats_of old.formats) old.levels (g.R.Source.source old.source) c.in-Err.e (λ (r : Raw). AsksWhere (asks_for g.R.Source.refusals g.R.Source.lends) (HasChunks r)) (λ (r : Raw) (x : IgnoredAny). ⊤) IsAny (λ r y h. (record {}, tt)) c.in-Err.ensures.memory

pub returns-in-Err-clause-fault : goal.returns-in-Err-clause-fault
returns-in-Err-clause-fault g c =
    let old = c.args.de.now.decoder in
    formats_if_any g.R.Source.refusals old.levels (g.R.Source.source old.source) c.in-Err.e (formats_of old.formats) c.in-Err.ensures.fault
