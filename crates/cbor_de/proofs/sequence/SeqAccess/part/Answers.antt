use Rattle.cbor_io.specs.Error.{code_of, offset_of}
use Rattle.cbor_decode.specs.Heads.{remaining_of}
use Rattle.cbor_decode_as.specs.Takes.{context, formats_of}
use Rattle.cbor_decode_as.proofs.facts.Arrays.{part_missing, part_refused}
use Rattle.cbor_de.specs.ItemLists.{length_text}
use Rattle.cbor_de.proofs.parts.ItemLists.{none_asked, none_comes, short_told, short_unread}
use Rattle.cbor_model.specs.Formats.{all_formats}
use Rattle.cbor_decode_as.specs.Accesses.{items_at}
use Rattle.cbor_decode_as.proofs.facts.Refusals.{always}
use Rattle.cbor_de.specs.Calls.{reports_any}
use Rattle.cbor_de.proofs.refusals.OwnFaults.{message_if_any}
use Rattle.cbor_read.specs.Source.{asks_for}
use Rattle.std.proofs.Common.{inl, inr}
use Rattle.cbor_de.proofs.sequence.SeqAccess.part.Goals as goal

pub returns-in-Ok-None-clause-read : goal.returns-in-Ok-None-clause-read
returns-in-Ok-None-clause-read g c =
    let old = c.args.self.now in
    let reads = g.T.Readable.reads (context old.de.now.decoder.formats g.R.Source.lends) in
    let e = c.invalid_length.result in
    part_missing g.R.Source.refusals reads (formats_of old.de.now.decoder.formats) old.de.now.decoder.levels (remaining_of old.remaining) (g.R.Source.source old.de.now.decoder.source) (code_of e) (offset_of e) (g.R.Source.source c.next_element.new.self.de.now.decoder.source) (rw c.in-Ok-None.field-0-is at c.in-Ok-None.ensures.read)

pub returns-in-Err-clause-read : goal.returns-in-Err-clause-read
returns-in-Err-clause-read g c =
    let old = c.args.self.now in
    let reads = g.T.Readable.reads (context old.de.now.decoder.formats g.R.Source.lends) in
    let e = c.in-Err.e in
    part_refused g.R.Source.refusals reads (formats_of old.de.now.decoder.formats) old.de.now.decoder.levels (remaining_of old.remaining) (g.R.Source.source old.de.now.decoder.source) (code_of e) (offset_of e) c.in-Err.ensures.read

pub returns-in-Ok-None-clause-short : goal.returns-in-Ok-None-clause-short
returns-in-Ok-None-clause-short g c =
    let old = c.args.self.now in
    short_told g.R.Source.refusals (length_text c.args.before c.args.expected) old.remaining (g.R.Source.source old.de.now.decoder.source) c.invalid_length.result c.invalid_length.ensures.text c.invalid_length.ensures.offset

pub returns-in-Err-clause-short : goal.returns-in-Err-clause-short
returns-in-Err-clause-short g c =
    let old = c.args.self.now in
    let reads = g.T.Readable.reads (context old.de.now.decoder.formats g.R.Source.lends) in
    short_unread g.R.Source.refusals (length_text c.args.before c.args.expected) old.remaining (g.R.Source.source old.de.now.decoder.source) reads (formats_of old.de.now.decoder.formats) old.de.now.decoder.levels c.in-Err.e c.in-Err.ensures.read

pub returns-in-Ok-None-clause-own_fault : goal.returns-in-Ok-None-clause-own_fault
returns-in-Ok-None-clause-own_fault g c =
    let old = c.args.self.now in
    let t = g.T.Readable in
    always (reports_any t.passes_over t.total t.reports_faults) (message_if_any g.R.Source.refusals (g.R.Source.source old.de.now.decoder.source) c.invalid_length.result (λ l. items_at all_formats l old.de.now.decoder.levels (remaining_of old.remaining)) c.invalid_length.ensures.message)

-- ---- the fault, and memory

pub returns-in-Ok-None-clause-fault : goal.returns-in-Ok-None-clause-fault
returns-in-Ok-None-clause-fault g c =
    let old = c.args.self.now in
    let f = old.de.now.decoder.formats in
    let reads = g.T.Readable.reads (context f g.R.Source.lends) in
    inl (c.invalid_length.ensures.message, none_comes reads (formats_of f) old.de.now.decoder.levels old.remaining (g.R.Source.source old.de.now.decoder.source) _ c.next_element.new.self.remaining (rw c.in-Ok-None.field-0-is at c.in-Ok-None.ensures.read))

pub returns-in-Err-clause-fault : goal.returns-in-Err-clause-fault
returns-in-Err-clause-fault g c = inr c.in-Err.ensures.fault

pub returns-in-Ok-None-clause-memory : goal.returns-in-Ok-None-clause-memory
returns-in-Ok-None-clause-memory g c =
    let old = c.args.self.now in
    let f = old.de.now.decoder.formats in
    let reads = g.T.Readable.reads (context f g.R.Source.lends) in
    let s = g.R.Source.source old.de.now.decoder.source in
    none_asked reads (formats_of f) old.de.now.decoder.levels old.remaining s (g.T.Readable.asks_memory (asks_for g.R.Source.refusals g.R.Source.lends)) c.invalid_length.result
    (none_comes reads (formats_of f) old.de.now.decoder.levels old.remaining s _ c.next_element.new.self.remaining (rw c.in-Ok-None.field-0-is at c.in-Ok-None.ensures.read))

pub returns-in-Err-clause-memory : goal.returns-in-Err-clause-memory
returns-in-Err-clause-memory g c = λ out bs reports. (c.in-Err.ensures.memory out bs reports).0
