use Rattle.std.proofs.Common.{ℕ, Some, ap, subst}
use Rattle.std.proofs.lemmas.Result.{err_from_is_err_and}
use Rattle.cbor_model.specs.Formats.{Formats}
use Rattle.cbor_model.specs.Readable.{PassesTags}
use Rattle.cbor_io.specs.Error.{code_of, offset_of}
use Rattle.cbor_read.specs.Source.{Input}
use Rattle.cbor_decode_as.specs.Identifiers.{texts, IsIdentifier, IsPlaceNumber, IsMadeBy}
use Rattle.cbor_decode_as.specs.Takes.{formats_of, OnceMade, TakesItem}
use Rattle.cbor_decode_as.proofs.heads.Opened.{text_opened}
use Rattle.cbor_decode_as.proofs.texts.Lending.{text_refuses}
use Rattle.cbor_decode_as.proofs.texts.Identifiers.{text_names}
use Rattle.std.proofs.Common.{refl}
use Rattle.cbor_read.specs.Source.{asks_for}
use Rattle.cbor_decode.specs.declared.head.Head.TheVariants.{Text}
use Rattle.cbor_decode_as.specs.Identifiers.{IsNoName}
use Rattle.cbor_decode_as.specs.declared.head.HeadAt.{HeadAt}
use Rattle.cbor_decode_as.proofs.heads.Openings.{head_opened}
use Rattle.cbor_decode_as.proofs.texts.NamedFaults.{text_named, text_only}
use Rattle.cbor_decode_as.proofs.identifier.identifier.Goals as goal

pub returns-in_err-definite_name-in-Some-clause-read : goal.returns-in_err-definite_name-in-Some-clause-read
returns-in_err-definite_name-in-Some-clause-read g c =
    let passed = err_from_is_err_and c.from_residual.result c.from_residual.ensures.1 in
    let old = c.args.decoder.now in
    let u = c.short_text.new.self in
    let f = formats_of old.formats in
    let s = g.R.Source.source old.source in
    let m = g.R.Source.source u.source in
    let opened = text_opened g.R.Source.refusals f s m old.levels c.in-Some.n u.refusal c.in-Some.ensures.read in
    rw (passed.1, passed.2) (λ e made. text_refuses g.R.Source.refusals f g.R.Source.lends old.levels s m u.refusal (IsIdentifier (texts c.args.names.now)) (Some c.in-Some.n) (code_of e) (offset_of e) opened (c.in_err-definite_name-in-Some.ensures.read e made))

pub returns-in_ok-definite_name-in-Some-clause-read : goal.returns-in_ok-definite_name-in-Some-clause-read
returns-in_ok-definite_name-in-Some-clause-read g c =
    let old = c.args.decoder.now in
    let u = c.short_text.new.self in
    let f = formats_of old.formats in
    let s = g.R.Source.source old.source in
    let m = g.R.Source.source u.source in
    let t = g.R.Source.source c.definite_name.new.decoder.source in
    let opened = text_opened g.R.Source.refusals f s m old.levels c.in-Some.n u.refusal c.in-Some.ensures.read in
    let named = c.in_ok-definite_name-in-Some.ensures.read in
    text_names (IsPlaceNumber (texts c.args.names.now)) (texts c.args.names.now) g.R.Source.refusals f g.R.Source.lends old.levels s m u.refusal (Some c.in-Some.n) t named.0 c.in_ok-definite_name-in-Some.field-0 named.1 named.2 opened named.3

pub returns-in-None-clause-read : goal.returns-in-None-clause-read
returns-in-None-clause-read g c =
    let old = c.args.decoder.now in
    let u = c.short_text.new.self in
    let new = c.identifier_slow.new.decoder in
    let s = g.R.Source.source u.source in
    let t = g.R.Source.source new.source in
    let identifier = PassesTags (IsIdentifier (texts c.args.names.now)) in
    subst (λ (x : Input). OnceMade (IsMadeBy new.refusal) (TakesItem g.R.Source.refusals (formats_of old.formats) identifier old.levels x t) c.identifier_slow.result) c.in-None.ensures.read
    (subst (λ (n : ℕ). OnceMade (IsMadeBy new.refusal) (TakesItem g.R.Source.refusals (formats_of old.formats) identifier n s t) c.identifier_slow.result) c.in-None.ensures.settings.levels
    (subst (λ (k : Formats). OnceMade (IsMadeBy new.refusal) (TakesItem g.R.Source.refusals k identifier u.levels s t) c.identifier_slow.result) (ap formats_of c.in-None.ensures.settings.formats) c.identifier_slow.ensures.read))

pub returns-in_err-definite_name-in-Some-clause-fault : goal.returns-in_err-definite_name-in-Some-clause-fault
returns-in_err-definite_name-in-Some-clause-fault g c =
    let passed = err_from_is_err_and c.from_residual.result c.from_residual.ensures.1 in
    let levels = c.args.decoder.now.levels in
    let s = g.R.Source.source c.args.decoder.now.source in
    let m = g.R.Source.source c.short_text.new.self.source in
    let found : HeadAt = record { head = Text (Some c.in-Some.n); levels = levels } in
    let opens = head_opened s m levels levels (Text (Some c.in-Some.n)) (λ e. absurd cc) refl c.in-Some.ensures.read in
    rw (passed.1, passed.2) (text_named g.R.Source.refusals found levels s m opens IsNoName (Some c.in-Some.n) c.definite_name.new.decoder.refusal _ refl c.in_err-definite_name-in-Some.ensures.fault)

pub returns-in_err-definite_name-in-Some-clause-memory : goal.returns-in_err-definite_name-in-Some-clause-memory
returns-in_err-definite_name-in-Some-clause-memory g c =
    let passed = err_from_is_err_and c.from_residual.result c.from_residual.ensures.1 in
    let levels = c.args.decoder.now.levels in
    let s = g.R.Source.source c.args.decoder.now.source in
    let m = g.R.Source.source c.short_text.new.self.source in
    let found : HeadAt = record { head = Text (Some c.in-Some.n); levels = levels } in
    let opens = head_opened s m levels levels (Text (Some c.in-Some.n)) (λ e. absurd cc) refl c.in-Some.ensures.read in
    rw (passed.1, passed.2) (text_only g.R.Source.refusals found levels s m opens (asks_for g.R.Source.refusals g.R.Source.lends) (Some c.in-Some.n) c.definite_name.new.decoder.refusal _ refl c.in_err-definite_name-in-Some.ensures.memory)

pub returns-in-None-clause-fault : goal.returns-in-None-clause-fault
returns-in-None-clause-fault g c =
    let same = c.in-None.ensures in
    rw (same.read, same.settings.levels) at c.identifier_slow.ensures.fault

pub returns-in-None-clause-memory : goal.returns-in-None-clause-memory
returns-in-None-clause-memory g c =
    let same = c.in-None.ensures in
    rw (same.read, same.settings.levels) at c.identifier_slow.ensures.memory
