use Rattle.std.proofs.Common.{ℕ, Option, subst}
use Rattle.cbor_model.specs.Readable.{PassesTags}
use Rattle.cbor_model.specs.Reader.{item_at}
use Rattle.cbor_decode.specs.Gives.{Step}
use Rattle.cbor_decode_as.specs.Identifiers.{IsIdentifier, texts}
use Rattle.cbor_decode_as.specs.Takes.{IsRead, formats_of, raws}
use Rattle.cbor_decode_as.proofs.enums.Variants.{none_named}
use Rattle.cbor_read.specs.Source.{asks_for}
use Rattle.cbor_decode_as.specs.Identifiers.{IsNoName}
use Rattle.cbor_decode_as.specs.Strings.{IsAskedString}
use Rattle.cbor_decode_as.proofs.enums.VariantMemory.{unknown_memory, unnamed_memory}
use Rattle.cbor_decode_as.proofs.refused.Faults.{name_if_any}
use Rattle.cbor_decode_as.proofs.texts.NamedItems.{names_refuse}
use Rattle.cbor_decode_as.proofs.variant.variant_name.Goals as goal

pub returns-in-Err-clause-read : goal.returns-in-Err-clause-read
returns-in-Err-clause-read g c =
    let old = c.args.decoder.now in
    rw c.unnamed.ensures.source (none_named (texts c.args.names.now) g.R.Source.refusals (formats_of old.formats) old.levels (g.R.Source.source old.source) c.unnamed.result (c.in-Err.ensures.read c.unnamed.result c.unnamed.ensures.made))

pub returns-in-Err-clause-fault : goal.returns-in-Err-clause-fault
returns-in-Err-clause-fault g c =
    let old = c.args.decoder.now in
    let s = g.R.Source.source old.source in
    let kept = c.identifier.new.decoder.refusal in
    let e = c.unnamed.result in
    name_if_any g.R.Source.refusals s e IsNoName old.levels (names_refuse IsNoName g.R.Source.refusals old.levels s kept e c.in-Err.why c.unnamed.ensures.made c.in-Err.ensures.fault)

pub returns-in-Err-clause-memory : goal.returns-in-Err-clause-memory
returns-in-Err-clause-memory g c =
    let old = c.args.decoder.now in
    let s = g.R.Source.source old.source in
    let kept = c.identifier.new.decoder.refusal in
    let names = texts c.args.names.now in
    unnamed_memory g.R.Source.refusals old.levels s kept c.unnamed.result names (asks_for g.R.Source.refusals g.R.Source.lends) (formats_of old.formats) c.in-Err.why c.unnamed.ensures.made c.in-Err.ensures.memory c.in-Err.ensures.fault

pub returns-in-Ok-None-clause-memory : goal.returns-in-Ok-None-clause-memory
returns-in-Ok-None-clause-memory g c =
    let old = c.args.decoder.now in
    let s = g.R.Source.source old.source in
    let t = g.R.Source.source c.identifier.new.decoder.source in
    let names = texts c.args.names.now in
    let f = formats_of old.formats in
    let none = subst (λ (o : Option ℕ). Step s t (λ l bs rest. IsRead (PassesTags (IsIdentifier names)) (item_at (raws f l) old.levels bs) o rest)) c.in-Ok-None.field-0-is c.in-Ok-None.ensures.read in
    unknown_memory (IsAskedString (asks_for g.R.Source.refusals g.R.Source.lends)) names f old.levels s t c.message.result none
