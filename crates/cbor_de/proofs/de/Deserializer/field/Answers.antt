use Rattle.std.proofs.Common.{◌∙◌, refl, subst, Err}
use Rattle.std.proofs.lemmas.Result.{err_from_is_err_and}
use Rattle.cbor_model.specs.Readable.{PassesTags}
use Rattle.cbor_io.specs.Error.{code_of, offset_of}
use Rattle.cbor_read.specs.Source.{Input, Stays, asks_for}
use Rattle.cbor_decode.specs.declared.formats.Formats.{Formats}
use Rattle.cbor_decode_as.specs.Identifiers.{IsIdentifier, IsNoName, texts}
use Rattle.cbor_decode_as.specs.Strings.{IsAskedString}
use Rattle.cbor_decode_as.specs.Takes.{formats_of}
use Rattle.cbor_decode_as.proofs.facts.Names.{Excludes, name_if_any, names_memory, names_refuse, no_name_read}
use Rattle.cbor_decode_as.proofs.facts.Readings.{read_gathered}
use Rattle.cbor_de.proofs.refusals.OwnFaults.{item_gathered}
use Rattle.cbor_de.proofs.structs.FieldNames.{no_field}
use Rattle.cbor_de.proofs.taken.Gathered.{memory_gathered}
use Rattle.cbor_de.specs.Structs.{IsField, place_in}
use Rattle.cbor_de.proofs.de.Deserializer.field.Goals as goal

pub returns-in_err-place-clause-read : goal.returns-in_err-place-clause-read
returns-in_err-place-clause-read g c =
    let passed = err_from_is_err_and c.from_residual.result c.from_residual.ensures.1 in
    let old = c.args.self.now.decoder in
    let mid = c.gather_name.new.decoder in
    let none = c.in_default.ensures in
    let more = c.gather_name.ensures in
    let names = texts c.args.names.now in
    let s = g.R.Source.source old.source in
    let m = g.R.Source.source mid.source in
    let stays = subst (λ (x : Input). Stays x m) none.read more.stays in
    rw (passed.1, passed.2) (λ e made. no_field names g.R.Source.refusals (formats_of old.formats) old.levels s (code_of e) (offset_of e)
    (read_gathered s m stays old.formats mid.formats (more.settings.formats ∙ none.settings.formats) g.R.Source.refusals (λ (f : Formats). PassesTags (IsIdentifier names)) old.levels mid.levels (more.settings.levels ∙ none.settings.levels) (g.R.Source.source c.identifier.new.decoder.source) (Err e) (c.in_err-place.ensures.read e made)))

pub returns-in_err-place-clause-memory : goal.returns-in_err-place-clause-memory
returns-in_err-place-clause-memory g c =
    let passed = err_from_is_err_and c.from_residual.result c.from_residual.ensures.1 in
    let old = c.args.self.now.decoder in
    let mid = c.gather_name.new.decoder in
    let none = c.in_default.ensures in
    let more = c.gather_name.ensures in
    let names = texts c.args.names.now in
    let s = g.R.Source.source old.source in
    let m = g.R.Source.source mid.source in
    let stays = subst (λ (x : Input). Stays x m) none.read more.stays in
    let allowed = g.R.Source.refusals in
    let asks = asks_for allowed g.R.Source.lends in
    let kept = c.identifier.new.decoder.refusal in
    let no : Excludes IsNoName (IsField names) = λ f l levels bs h x rest got. no_name_read names f l levels bs h (place_in x) rest (record { item = got.item; is = got.is; means = got.means }) in
    rw (passed.1, passed.2) (λ e made. memory_gathered s m stays (IsAskedString asks) old.formats old.formats refl (λ (f : Formats). IsField names) old.levels mid.levels (more.settings.levels ∙ none.settings.levels) e
    (names_memory IsNoName allowed mid.levels m kept e (IsField names) no asks (formats_of old.formats) _ made c.in_err-place.ensures.memory c.in_err-place.ensures.fault))

pub returns-in_err-place-clause-fault : goal.returns-in_err-place-clause-fault
returns-in_err-place-clause-fault g c =
    let passed = err_from_is_err_and c.from_residual.result c.from_residual.ensures.1 in
    let old = c.args.self.now.decoder in
    let mid = c.gather_name.new.decoder in
    let none = c.in_default.ensures in
    let more = c.gather_name.ensures in
    let s = g.R.Source.source old.source in
    let m = g.R.Source.source mid.source in
    let stays = subst (λ (x : Input). Stays x m) none.read more.stays in
    let allowed = g.R.Source.refusals in
    let kept = c.identifier.new.decoder.refusal in
    rw (passed.1, passed.2) (λ e made. item_gathered s m stays allowed old.levels mid.levels (more.settings.levels ∙ none.settings.levels) e
    (name_if_any allowed m e IsNoName mid.levels (names_refuse IsNoName allowed mid.levels m kept e _ made c.in_err-place.ensures.fault)))
