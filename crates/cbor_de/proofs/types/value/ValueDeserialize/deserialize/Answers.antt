use Rattle.std.proofs.Common.{◌∙◌, ap}
use Rattle.cbor_model.specs.Reader.{item_at}
use Rattle.cbor_model.specs.Value.{value}
use Rattle.cbor_decode.specs.Gives.{limits, values}
use Rattle.cbor_decode.specs.Memory.{ReadsStored}
use Rattle.cbor_decode_as.proofs.facts.Refusals.{error_only}
use Rattle.cbor_decode_as.specs.Takes.{formats_of}
use Rattle.cbor_decode.proofs.facts.Readings.{along, value_seen}
use Rattle.cbor_de.proofs.refusals.Faults.{AsValue, value_taken, value_refused}
use Rattle.cbor_decode_as.proofs.facts.Places.{kept_alone}
use Rattle.cbor_de.proofs.refusals.Forms.{item_reported}
use Rattle.cbor_decode_as.proofs.facts.Refusals.{reported_by}
use Rattle.cbor_de.proofs.types.value.ValueDeserialize.deserialize.Goals as goal

pub returns-in-Ok-clause-read : goal.returns-in-Ok-clause-read
returns-in-Ok-clause-read g c =
    let d = c.args.de.now.decoder in
    value_taken g.R.Source.refusals (formats_of d.formats) d.levels (g.R.Source.source d.source) _ c.in-Ok.value c.in-Ok.ensures.read

pub returns-in-Err-clause-read : goal.returns-in-Err-clause-read
returns-in-Err-clause-read g c =
    let d = c.args.de.now.decoder in
    rw c.error.ensures.source (value_refused g.R.Source.refusals (formats_of d.formats) d.levels (g.R.Source.source d.source) AsValue c.value.new.self.refusal c.in-Err.refused c.error.result c.error.ensures.reports c.in-Err.ensures.read)

pub returns-in-Err-clause-memory : goal.returns-in-Err-clause-memory
returns-in-Err-clause-memory g c = λ is bs reports x rest got.
    let d = c.args.de.now.decoder in
    let f = formats_of d.formats in
    let s = g.R.Source.source d.source in
    let stores = error_only (ReadsStored (λ l. item_at (values f l) d.levels) s) c.value.new.self.refusal c.in-Err.refused c.error.result c.error.ensures.reports c.in-Err.ensures.memory is in
    stores bs reports (value got.item) rest (value_seen f (limits s bs) d.levels bs ∙ ap (along value) got.is)

pub returns-in-Err-clause-form : goal.returns-in-Err-clause-form
returns-in-Err-clause-form g c =
    let d = c.args.de.now.decoder in
    let f = formats_of d.formats in
    let s = g.R.Source.source d.source in
    let e = c.error.result in
    item_reported g.R.Source.refusals f d.levels s e (kept_alone c.value.new.self.refusal c.in-Err.refused e c.error.ensures.reports) (reported_by g.R.Source.refusals (λ l. item_at (values f l) d.levels) s c.value.new.self.refusal c.in-Err.refused e c.error.ensures.reports c.in-Err.ensures.read)
