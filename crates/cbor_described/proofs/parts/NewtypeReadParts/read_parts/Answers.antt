use Rattle.cbor_model.specs.Raw.{Raw}
use Rattle.cbor_parts.specs.declared.Newtype.{Newtype}
use Rattle.cbor_decode_as.specs.Takes.{context, formats_of}
use Rattle.cbor_described.proofs.Makings.{read_as, not_read_as}
use Rattle.cbor_described.proofs.Makings.{memory_made}
use Rattle.cbor_de.proofs.facts.Faults.{item_fault}
use Rattle.cbor_described.proofs.parts.NewtypeReadParts.read_parts.Goals as goal

pub returns-in-Ok-clause-read : goal.returns-in-Ok-clause-read
returns-in-Ok-clause-read g c =
    let old = c.args.de.now.decoder in
    let reads = g.T.Readable.reads (context old.formats g.R.Source.lends) in
    read_as reads (λ (r : Raw) (p : Newtype g.row.T.Denot). reads r p.0) g.R.Source.refusals (formats_of old.formats) old.levels (g.R.Source.source old.source) (g.R.Source.source c.deserialize.new.de.decoder.source)
    c.in-Ok.part (record { 0 = c.in-Ok.part }) (λ r h. h) c.in-Ok.ensures.read

pub returns-in-Err-clause-read : goal.returns-in-Err-clause-read
returns-in-Err-clause-read g c =
    let old = c.args.de.now.decoder in
    let reads = g.T.Readable.reads (context old.formats g.R.Source.lends) in
    not_read_as reads (λ (r : Raw) (p : Newtype g.row.T.Denot). reads r p.0) g.R.Source.refusals (formats_of old.formats) old.levels (g.R.Source.source old.source) (g.R.Source.source c.deserialize.new.de.decoder.source)
    c.in-Err.e (λ r p h. (p.0, h)) c.in-Err.ensures.read

pub returns-in-Err-clause-memory : goal.returns-in-Err-clause-memory
returns-in-Err-clause-memory g c =
    let old = c.args.de.now.decoder in
    memory_made (formats_of old.formats) old.levels (g.R.Source.source old.source) c.in-Err.e (λ (p : Newtype g.row.T.Denot). p.0) _ _ c.in-Err.ensures.memory

pub returns-in-Err-clause-fault : goal.returns-in-Err-clause-fault
returns-in-Err-clause-fault g c =
    let old = c.args.de.now.decoder in
    let of = g.T.Readable in
    item_fault g.R.Source.refusals (g.R.Source.source old.source) c.in-Err.e old.levels (formats_of old.formats) of.passes_over of.total of.reports_faults c.in-Err.ensures.fault c.in-Err.ensures.own_fault
