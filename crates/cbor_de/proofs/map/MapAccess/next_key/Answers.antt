use Rattle.cbor_io.specs.Error.{code_of, offset_of}
use Rattle.cbor_read.specs.Source.{asks_for}
use Rattle.cbor_decode.specs.Heads.{remaining_of}
use Rattle.cbor_decode.specs.declared.formats.Formats.{Formats}
use Rattle.cbor_decode_as.specs.Takes.{context, formats_of}
use Rattle.cbor_decode_as.proofs.facts.Places.{bad_key_later, kept_alone}
use Rattle.cbor_decode_as.proofs.facts.Maps.{none_is_key, there, key_asks, key_refused, key_next}
use Rattle.std.proofs.Common.{inl}
use Rattle.cbor_de.proofs.refusals.Forms.{key_of, key_reported, later_in}
use Rattle.std.proofs.Common.{inr}
use Rattle.cbor_decode_as.specs.MapAccesses.{pair_front}
use Rattle.cbor_decode_as.proofs.facts.Refusals.{reported_why}
use Rattle.cbor_de.proofs.refusals.AccessFaults.{key_comes}
use Rattle.cbor_de.specs.Calls.{reports_any}
use Rattle.cbor_de.proofs.maps.MapFaults.{own_key_comes}
use Rattle.cbor_de.proofs.refusals.OwnFaults.{item_fault}
use Rattle.cbor_de.proofs.map.MapAccess.next_key.Goals as goal

pub returns-in-Err-clause-read : goal.returns-in-Err-clause-read
returns-in-Err-clause-read g c =
    let old = c.args.self.now in
    let e = c.error.result in
    rw c.error.ensures.source (none_is_key (g.K.Readable.reads (context old.de.now.decoder.formats g.R.Source.lends)) (formats_of old.de.now.decoder.formats) old.de.now.decoder.levels (remaining_of old.remaining)
    g.R.Source.refusals (g.R.Source.source old.de.now.decoder.source) (code_of e) (offset_of e) (c.in-Err.ensures.read e c.error.ensures.reports))

pub returns-in-Err-deserialize-clause-read : goal.returns-in-Err-deserialize-clause-read
returns-in-Err-deserialize-clause-read g c =
    let old = c.args.self.now in
    let now = c.more_pairs.new.decoder in
    let s = g.R.Source.source old.de.now.decoder.source in
    let m = g.R.Source.source now.source in
    let reads = λ (f : Formats). g.K.Readable.reads (context f g.R.Source.lends) in
    let new = c.more_pairs.new.remaining in
    let more = c.in-Ok-true.field-0 in
    let e = c.in-Err-deserialize.e in
    key_refused s m old.remaining new more reads old.de.now.decoder.formats now.formats old.de.now.decoder.levels now.levels c.more_pairs.ensures.settings.formats c.more_pairs.ensures.settings.levels
    g.R.Source.refusals (code_of e) (offset_of e) (there s m old.remaining new more old.de.now.decoder.formats c.in-Ok-true.field-0-test c.in-Ok-true.ensures.read) c.in-Err-deserialize.ensures.read

pub returns-in-Ok-clause-read : goal.returns-in-Ok-clause-read
returns-in-Ok-clause-read g c =
    let old = c.args.self.now in
    let now = c.more_pairs.new.decoder in
    let s = g.R.Source.source old.de.now.decoder.source in
    let m = g.R.Source.source now.source in
    let t = g.R.Source.source c.deserialize.new.de.decoder.source in
    let reads = λ (f : Formats). g.K.Readable.reads (context f g.R.Source.lends) in
    let new = c.more_pairs.new.remaining in
    let more = c.in-Ok-true.field-0 in
    key_next s m old.remaining new more reads old.de.now.decoder.formats now.formats old.de.now.decoder.levels now.levels c.more_pairs.ensures.settings.formats c.more_pairs.ensures.settings.levels t c.in-Ok.key
    (there s m old.remaining new more old.de.now.decoder.formats c.in-Ok-true.field-0-test c.in-Ok-true.ensures.read) c.in-Ok.ensures.read

pub returns-in-Err-deserialize-clause-memory : goal.returns-in-Err-deserialize-clause-memory
returns-in-Err-deserialize-clause-memory g c =
    let old = c.args.self.now in
    let now = c.more_pairs.new.decoder in
    let s = g.R.Source.source old.de.now.decoder.source in
    let m = g.R.Source.source now.source in
    let reads = λ (f : Formats). g.K.Readable.reads (context f g.R.Source.lends) in
    let new = c.more_pairs.new.remaining in
    let more = c.in-Ok-true.field-0 in
    key_asks s m old.remaining new more reads old.de.now.decoder.formats now.formats old.de.now.decoder.levels now.levels c.more_pairs.ensures.settings.formats c.more_pairs.ensures.settings.levels
    (g.K.Readable.asks_memory (asks_for g.R.Source.refusals g.R.Source.lends)) c.in-Err-deserialize.e (there s m old.remaining new more old.de.now.decoder.formats c.in-Ok-true.field-0-test c.in-Ok-true.ensures.read) c.in-Err-deserialize.ensures.memory

-- ---- a key that may not begin as it does

pub returns-in-Err-clause-bad_key : goal.returns-in-Err-clause-bad_key
returns-in-Err-clause-bad_key g c = c.in-Err.ensures.bad_key c.error.result c.error.ensures.reports

pub returns-in-Err-deserialize-clause-bad_key : goal.returns-in-Err-deserialize-clause-bad_key
returns-in-Err-deserialize-clause-bad_key g c =
    let old = c.args.self.now in
    let s = g.R.Source.source old.de.now.decoder.source in
    let m = g.R.Source.source c.more_pairs.new.decoder.source in
    let new = c.more_pairs.new.remaining in
    bad_key_later g.R.Source.refusals (formats_of old.de.now.decoder.formats) old.remaining s new m c.in-Err-deserialize.e
    (there s m old.remaining new c.in-Ok-true.field-0 old.de.now.decoder.formats c.in-Ok-true.field-0-test c.in-Ok-true.ensures.read)

-- ---- a wrong form

pub returns-in-Err-clause-form : goal.returns-in-Err-clause-form
returns-in-Err-clause-form g c =
    let old = c.args.self.now in
    let e = c.error.result in
    key_of g.K.Readable.wrong_forms (formats_of old.de.now.decoder.formats) old.remaining _ e (key_reported (formats_of old.de.now.decoder.formats) old.remaining (g.R.Source.source old.de.now.decoder.source) e (kept_alone c.more_pairs.new.decoder.refusal c.in-Err.refused e c.error.ensures.reports) (c.in-Err.ensures.cases e c.error.ensures.reports))

pub returns-in-Err-deserialize-clause-form : goal.returns-in-Err-deserialize-clause-form
returns-in-Err-deserialize-clause-form g c =
    let e = c.in-Err-deserialize.e in
    inl (later_in g.K.Readable.wrong_forms c.args.self.now.de.now.decoder.formats c.more_pairs.new.decoder.formats _ _ e c.more_pairs.ensures.settings.formats c.in-Ok-true.ensures.read.took c.in-Err-deserialize.ensures.form)

-- ---- the fault

pub returns-in-Err-clause-fault : goal.returns-in-Err-clause-fault
returns-in-Err-clause-fault g c =
    let old = c.args.self.now in
    inl (reported_why g.R.Source.refusals (λ l. pair_front (formats_of old.de.now.decoder.formats) (remaining_of old.remaining)) (g.R.Source.source old.de.now.decoder.source) c.more_pairs.new.decoder.refusal c.in-Err.refused c.error.result c.error.ensures.reports c.in-Err.ensures.fault)

pub returns-in-Err-deserialize-clause-fault : goal.returns-in-Err-deserialize-clause-fault
returns-in-Err-deserialize-clause-fault g c =
    let old = c.args.self.now in
    let now = c.more_pairs.new.decoder in
    let s = g.R.Source.source old.de.now.decoder.source in
    let m = g.R.Source.source now.source in
    let new = c.more_pairs.new.remaining in
    let more = c.in-Ok-true.field-0 in
    inr (key_comes g.K.Readable.passes_over g.K.Readable.total g.R.Source.refusals old.de.now.decoder.formats now.formats old.remaining new s m old.de.now.decoder.levels now.levels c.in-Err-deserialize.e c.more_pairs.ensures.settings.formats c.more_pairs.ensures.settings.levels
    (there s m old.remaining new more old.de.now.decoder.formats c.in-Ok-true.field-0-test c.in-Ok-true.ensures.read) c.in-Err-deserialize.ensures.fault)

pub returns-in-Err-clause-own_fault : goal.returns-in-Err-clause-own_fault
returns-in-Err-clause-own_fault g c =
    let old = c.args.self.now in
    inl (reported_why g.R.Source.refusals (λ l. pair_front (formats_of old.de.now.decoder.formats) (remaining_of old.remaining)) (g.R.Source.source old.de.now.decoder.source) c.more_pairs.new.decoder.refusal c.in-Err.refused c.error.result c.error.ensures.reports c.in-Err.ensures.fault)

pub returns-in-Err-deserialize-clause-own_fault : goal.returns-in-Err-deserialize-clause-own_fault
returns-in-Err-deserialize-clause-own_fault g c =
    let old = c.args.self.now in
    let now = c.more_pairs.new.decoder in
    let s = g.R.Source.source old.de.now.decoder.source in
    let m = g.R.Source.source now.source in
    let new = c.more_pairs.new.remaining in
    let more = c.in-Ok-true.field-0 in
    let e = c.in-Err-deserialize.e in
    let key = g.K.Readable in
    own_key_comes g.R.Source.refusals (formats_of old.de.now.decoder.formats) old.de.now.decoder.levels old.remaining s e (reports_any key.passes_over key.total key.reports_faults) new m now.levels c.more_pairs.ensures.settings.levels
    (there s m old.remaining new more old.de.now.decoder.formats c.in-Ok-true.field-0-test c.in-Ok-true.ensures.read)
    (item_fault g.R.Source.refusals m e now.levels (formats_of now.formats) key.passes_over key.total key.reports_faults c.in-Err-deserialize.ensures.fault c.in-Err-deserialize.ensures.own_fault)
