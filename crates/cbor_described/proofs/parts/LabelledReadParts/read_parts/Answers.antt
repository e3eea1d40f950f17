use Rattle.std.proofs.Common.{ℤ, List, refl}
use Rattle.cbor_parts.specs.Keys.{labelled_keys, keys_of}
use Rattle.cbor_parts.specs.declared.Labelled.{Labelled}
use Rattle.cbor_decode_as.specs.Takes.{context, formats_of}
use Rattle.cbor_described.proofs.Makings.{made, not_made}
use Rattle.cbor_read.specs.Source.{asks_for}
use Rattle.cbor_described.proofs.Makings.{memory_named}
use Rattle.cbor_described.proofs.parts.LabelledReadParts.read_parts.Goals as goal

pub returns-in-Ok-clause-read : goal.returns-in-Ok-clause-read
returns-in-Ok-clause-read g c =
    let old = c.args.de.now.decoder in
    let names = (keys_of c.args.keys.now).names in
    made (λ (p : Labelled g.row.L.Denot g.row.L-Parts.Denot). p.0) (λ (labels : List ℤ). g.L.Parts.ReadableParts.reads (labelled_keys names labels) (context old.formats g.R.Source.lends)) g.R.Source.refusals (formats_of old.formats) old.levels (g.R.Source.source old.source) (g.R.Source.source c.read_parts.new.de.decoder.source)
    c.labels.ensures.labels c.in-Ok.parts (record { 0 = c.in-Ok.parts }) refl c.in-Ok.ensures.read

pub returns-in-Err-clause-read : goal.returns-in-Err-clause-read
returns-in-Err-clause-read g c =
    let old = c.args.de.now.decoder in
    let names = (keys_of c.args.keys.now).names in
    not_made (λ (p : Labelled g.row.L.Denot g.row.L-Parts.Denot). p.0) (λ (labels : List ℤ). g.L.Parts.ReadableParts.reads (labelled_keys names labels) (context old.formats g.R.Source.lends)) g.R.Source.refusals (formats_of old.formats) old.levels (g.R.Source.source old.source) (g.R.Source.source c.read_parts.new.de.decoder.source)
    c.labels.ensures.labels c.in-Err.e c.in-Err.ensures.read

pub returns-in-Err-clause-memory : goal.returns-in-Err-clause-memory
returns-in-Err-clause-memory g c =
    let old = c.args.de.now.decoder in
    let names = (keys_of c.args.keys.now).names in
    memory_named (formats_of old.formats) old.levels (g.R.Source.source old.source) c.in-Err.e (λ (p : Labelled g.row.L.Denot g.row.L-Parts.Denot). p.0) (λ (labels : List ℤ). g.L.Parts.ReadableParts.asks_memory (labelled_keys names labels) (asks_for g.R.Source.refusals g.R.Source.lends)) (λ (labels : List ℤ). g.L.Parts.ReadableParts.reads (labelled_keys names labels) (context old.formats g.R.Source.lends)) c.labels.ensures.labels c.in-Err.ensures.memory
