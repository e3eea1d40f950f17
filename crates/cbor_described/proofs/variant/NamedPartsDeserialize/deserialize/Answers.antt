use Rattle.std.proofs.Common.{ℕ, List, refl}
use Rattle.cbor_parts.specs.Keys.{named_keys}
use Rattle.cbor_decode_as.specs.Takes.{context, formats_of}
use Rattle.cbor_described.specs.declared.variant.NamedParts.{NamedParts}
use Rattle.cbor_described.proofs.Makings.{made, not_made}
use Rattle.cbor_read.specs.Source.{asks_for}
use Rattle.cbor_described.proofs.Makings.{memory_named}
use Rattle.cbor_described.proofs.variant.NamedPartsDeserialize.deserialize.Goals as goal

pub returns-in-Ok-clause-read : goal.returns-in-Ok-clause-read
returns-in-Ok-clause-read g c =
    let old = c.args.de.now.decoder in
    made (λ (y : NamedParts g.row.N.Denot g.row.N-Parts.Denot). y.0) (λ (names : List (List ℕ)). g.N.Parts.ReadableParts.reads (named_keys names) (context old.formats g.R.Source.lends)) g.R.Source.refusals (formats_of old.formats) old.levels (g.R.Source.source old.source) (g.R.Source.source c.read_parts.new.de.decoder.source)
    c.names.ensures.names c.in-Ok.fields (record { 0 = c.in-Ok.fields }) refl c.in-Ok.ensures.read

pub returns-in-Err-clause-read : goal.returns-in-Err-clause-read
returns-in-Err-clause-read g c =
    let old = c.args.de.now.decoder in
    not_made (λ (y : NamedParts g.row.N.Denot g.row.N-Parts.Denot). y.0) (λ (names : List (List ℕ)). g.N.Parts.ReadableParts.reads (named_keys names) (context old.formats g.R.Source.lends)) g.R.Source.refusals (formats_of old.formats) old.levels (g.R.Source.source old.source) (g.R.Source.source c.read_parts.new.de.decoder.source)
    c.names.ensures.names c.in-Err.e c.in-Err.ensures.read

pub returns-in-Err-clause-memory : goal.returns-in-Err-clause-memory
returns-in-Err-clause-memory g c =
    let old = c.args.de.now.decoder in
    memory_named (formats_of old.formats) old.levels (g.R.Source.source old.source) c.in-Err.e (λ (y : NamedParts g.row.N.Denot g.row.N-Parts.Denot). y.0) (λ (names : List (List ℕ)). g.N.Parts.ReadableParts.asks_memory (named_keys names) (asks_for g.R.Source.refusals g.R.Source.lends)) (λ (names : List (List ℕ)). g.N.Parts.ReadableParts.reads (named_keys names) (context old.formats g.R.Source.lends)) c.names.ensures.names c.in-Err.ensures.memory
