use Rattle.std.specs.Prelude.{⊤}
use Rattle.cbor_decode_as.specs.Takes.{formats_of}
use Rattle.cbor_de.proofs.refusals.Faults.{any_passed, any_stops, value_refused}
use Rattle.cbor_read.specs.Source.{asks_for}
use Rattle.cbor_decode.specs.HasChunks.{AllRead, AsksWhere, HasChunks, raws}
use Rattle.cbor_decode.proofs.facts.Memory.{asks_on}
use Rattle.cbor_decode_as.proofs.facts.Refusals.{error_only, reported_by}
use Rattle.cbor_model.specs.Reader.{item_at}
use Rattle.cbor_decode.specs.Gives.{Limits, values}
use Rattle.cbor_decode_as.proofs.facts.Places.{kept_alone}
use Rattle.cbor_de.proofs.refusals.Forms.{item_reported}
use Rattle.cbor_de.proofs.types.ignored.IgnoredAnyDeserialize.deserialize.Goals as goal

pub returns-in-Ok-clause-read : goal.returns-in-Ok-clause-read
returns-in-Ok-clause-read g c =
    let d = c.args.de.now.decoder in
    any_passed g.R.Source.refusals (formats_of d.formats) d.levels (g.R.Source.source d.source) _ _ c.in-Ok.ensures.read

pub returns-in-Err-clause-read : goal.returns-in-Err-clause-read
returns-in-Err-clause-read g c =
    let d = c.args.de.now.decoder in
    let s = g.R.Source.source d.source in
    let f = formats_of d.formats in
    rw c.error.ensures.source (value_refused g.R.Source.refusals f d.levels s (λ r y. ⊤) c.skip.new.self.refusal c.in-Err.refused c.error.result c.error.ensures.reports
    (any_stops g.R.Source.refusals f d.levels s c.skip.new.self.refusal c.in-Err.refused c.in-Err.ensures.read))

pub returns-in-Err-clause-fault : goal.returns-in-Err-clause-fault
returns-in-Err-clause-fault g c =
    let d = c.args.de.now.decoder in
    let s = g.R.Source.source d.source in
    let f = formats_of d.formats in
    reported_by g.R.Source.refusals (λ l. item_at (values f l) d.levels) s c.skip.new.self.refusal c.in-Err.refused c.error.result c.error.ensures.reports
    (any_stops g.R.Source.refusals f d.levels s c.skip.new.self.refusal c.in-Err.refused c.in-Err.ensures.read)

pub returns-in-Err-clause-memory : goal.returns-in-Err-clause-memory
returns-in-Err-clause-memory g c = λ is bs reports x rest got.
    let d = c.args.de.now.decoder in
    let s = g.R.Source.source d.source in
    let asks = asks_for g.R.Source.refusals g.R.Source.lends in
    let read = λ (l : Limits). item_at (raws (formats_of d.formats) l) d.levels in
    let asked = error_only (AsksWhere asks (AllRead HasChunks read s)) c.skip.new.self.refusal c.in-Err.refused c.error.result c.error.ensures.reports c.in-Err.ensures.memory is in
    asks_on asks (AllRead HasChunks read s) (HasChunks got.item) (λ all. all bs reports got.item rest got.is) asked

pub returns-in-Err-clause-form : goal.returns-in-Err-clause-form
returns-in-Err-clause-form g c =
    let d = c.args.de.now.decoder in
    item_reported g.R.Source.refusals (formats_of d.formats) d.levels (g.R.Source.source d.source) c.error.result (kept_alone c.skip.new.self.refusal c.in-Err.refused c.error.result c.error.ensures.reports) (returns-in-Err-clause-fault g c)
