use Rattle.std.proofs.Common.{Ok, ap, subst, inr}
use Rattle.std.proofs.lemmas.Result.{err_from_is_err_and}
use Rattle.cbor_model.specs.Readable.{PassesTags}
use Rattle.cbor_model.specs.Reader.{item_at}
use Rattle.cbor_io.specs.Error.{code_of, offset_of}
use Rattle.cbor_decode.specs.declared.head.Head.{Head}
use Rattle.cbor_decode.proofs.facts.Steps.{took_same}
use Rattle.cbor_decode_as.specs.Identifiers.{texts, IsIdentifier, IsPlaceNumber}
use Rattle.cbor_decode_as.specs.TaggedHeads.{TakesItemHead}
use Rattle.cbor_decode_as.specs.Takes.{formats_of, raws}
use Rattle.cbor_decode_as.proofs.numbers.Scalars.{refuses, refuses_on}
use Rattle.cbor_decode_as.proofs.texts.Lending.{text_refuses}
use Rattle.cbor_decode_as.proofs.texts.Identifiers.{number_names, text_names, bytes_read, other_refused}
use Rattle.cbor_read.specs.Source.{asks_for}
use Rattle.cbor_decode_as.specs.Identifiers.{AsksForName, IsNoName, NamesFront, NamesOnly}
use Rattle.cbor_decode_as.proofs.heads.PassedOver.{unopened_stops}
use Rattle.cbor_decode_as.proofs.texts.NamedFaults.{bytes_named, bytes_only, names_err, no_memory, other_name, other_only, text_named, text_only}
use Rattle.cbor_decode_as.proofs.identifier.identifier_slow.Goals as goal

pub returns-in-Unsigned-clause-read : goal.returns-in-Unsigned-clause-read
returns-in-Unsigned-clause-read g c =
    let old = c.args.decoder.now in
    let u = c.scalar_head.new.decoder in
    let f = formats_of old.formats in
    let s = g.R.Source.source old.source in
    let m = g.R.Source.source u.source in
    let opened = subst (λ (h : Head). TakesItemHead g.R.Source.refusals f old.levels s m u.refusal (Ok h)) c.in-Unsigned.is c.in_ok-found.ensures.read in
    number_names (IsPlaceNumber (texts c.args.names.now)) (texts c.args.names.now) g.R.Source.refusals f g.R.Source.lends old.levels s m u.refusal c.in-Unsigned.n c.place_of_number.result c.place_of_number.ensures.place opened

pub returns-in_ok-text_name-in-Text-clause-read : goal.returns-in_ok-text_name-in-Text-clause-read
returns-in_ok-text_name-in-Text-clause-read g c =
    let old = c.args.decoder.now in
    let u = c.scalar_head.new.decoder in
    let f = formats_of old.formats in
    let s = g.R.Source.source old.source in
    let m = g.R.Source.source u.source in
    let t = g.R.Source.source c.text_name.new.decoder.source in
    let opened = subst (λ (h : Head). TakesItemHead g.R.Source.refusals f old.levels s m u.refusal (Ok h)) c.in-Text.is c.in_ok-found.ensures.read in
    let named = c.in_ok-text_name-in-Text.ensures.read in
    text_names (IsPlaceNumber (texts c.args.names.now)) (texts c.args.names.now) g.R.Source.refusals f g.R.Source.lends old.levels s m u.refusal c.in-Text.n t named.0 c.in_ok-text_name-in-Text.field-0 named.1 named.2 opened named.3

pub returns-in_err-text_name-in-Text-clause-read : goal.returns-in_err-text_name-in-Text-clause-read
returns-in_err-text_name-in-Text-clause-read g c =
    let passed = err_from_is_err_and c.from_residual-in_err-text_name-in-Text.result c.from_residual-in_err-text_name-in-Text.ensures.1 in
    let old = c.args.decoder.now in
    let u = c.scalar_head.new.decoder in
    let f = formats_of old.formats in
    let s = g.R.Source.source old.source in
    let m = g.R.Source.source u.source in
    let opened = subst (λ (h : Head). TakesItemHead g.R.Source.refusals f old.levels s m u.refusal (Ok h)) c.in-Text.is c.in_ok-found.ensures.read in
    rw (passed.1, passed.2) (λ e made. text_refuses g.R.Source.refusals f g.R.Source.lends old.levels s m u.refusal (IsIdentifier (texts c.args.names.now)) c.in-Text.n (code_of e) (offset_of e) opened (c.in_err-text_name-in-Text.ensures.read e made))

pub returns-in-Bytes-clause-read : goal.returns-in-Bytes-clause-read
returns-in-Bytes-clause-read g c =
    let old = c.args.decoder.now in
    let u = c.scalar_head.new.decoder in
    let new = c.bytes_name.new.decoder in
    let f = formats_of old.formats in
    let s = g.R.Source.source old.source in
    let m = g.R.Source.source u.source in
    let t = g.R.Source.source new.source in
    let opened = subst (λ (h : Head). TakesItemHead g.R.Source.refusals f old.levels s m u.refusal (Ok h)) c.in-Bytes.is c.in_ok-found.ensures.read in
    bytes_read (IsPlaceNumber (texts c.args.names.now)) (texts c.args.names.now) g.R.Source.refusals f g.R.Source.lends old.levels s m u.refusal c.in-Bytes.n t new.refusal c.bytes_name.result opened c.bytes_name.ensures.read

pub returns-in_default-clause-read : goal.returns-in_default-clause-read
returns-in_default-clause-read g c =
    let old = c.args.decoder.now in
    let u = c.scalar_head.new.decoder in
    let f = formats_of old.formats in
    let s = g.R.Source.source old.source in
    let m = g.R.Source.source u.source in
    λ e made. refuses_on (other_refused (IsPlaceNumber (texts c.args.names.now)) (texts c.args.names.now) g.R.Source.refusals f g.R.Source.lends old.levels s m u.refusal c.in_ok-found.found.head e c.in_default.not-Unsigned (inr (λ n place is. is)) c.in_default.not-Text c.in_default.not-Bytes c.in_ok-found.ensures.read) (took_same (ap g.R.Source.source c.no_name.ensures.source))

pub returns-in_err-found-clause-read : goal.returns-in_err-found-clause-read
returns-in_err-found-clause-read g c =
    let passed = err_from_is_err_and c.from_residual.result c.from_residual.ensures.1 in
    let old = c.args.decoder.now in
    let f = formats_of old.formats in
    let s = g.R.Source.source old.source in
    rw (passed.1, passed.2) (λ e made. refuses g.R.Source.refusals (PassesTags (IsIdentifier (texts c.args.names.now))) (λ l. item_at (raws f l) old.levels) s c.scalar_head.new.decoder.refusal c.in_err-found.field-0.0 e made c.in_err-found.ensures.read.1)

-- ---- the fault, and memory

pub returns-in_err-found-clause-fault : goal.returns-in_err-found-clause-fault
returns-in_err-found-clause-fault g c =
    let passed = err_from_is_err_and c.from_residual.result c.from_residual.ensures.1 in
    let s = g.R.Source.source c.args.decoder.now.source in
    rw (passed.1, passed.2) (unopened_stops g.R.Source.refusals c.args.decoder.now.levels s _ _ c.in_err-found.ensures.opened.reported)

pub returns-in_err-found-clause-memory : goal.returns-in_err-found-clause-memory
returns-in_err-found-clause-memory g c =
    let passed = err_from_is_err_and c.from_residual.result c.from_residual.ensures.1 in
    rw (passed.1, passed.2) (no_memory _ c.scalar_head.new.decoder.refusal _ c.in_err-found.ensures.memory)

pub returns-in_err-text_name-in-Text-clause-fault : goal.returns-in_err-text_name-in-Text-clause-fault
returns-in_err-text_name-in-Text-clause-fault g c =
    let passed = err_from_is_err_and c.from_residual-in_err-text_name-in-Text.result c.from_residual-in_err-text_name-in-Text.ensures.1 in
    let s = g.R.Source.source c.args.decoder.now.source in
    let m = g.R.Source.source c.scalar_head.new.decoder.source in
    rw (passed.1, passed.2) (text_named g.R.Source.refusals c.in_ok-found.found c.args.decoder.now.levels s m c.in_ok-found.ensures.opened IsNoName c.in-Text.n c.text_name.new.decoder.refusal _ c.in-Text.is c.in_err-text_name-in-Text.ensures.fault)

pub returns-in_err-text_name-in-Text-clause-memory : goal.returns-in_err-text_name-in-Text-clause-memory
returns-in_err-text_name-in-Text-clause-memory g c =
    let passed = err_from_is_err_and c.from_residual-in_err-text_name-in-Text.result c.from_residual-in_err-text_name-in-Text.ensures.1 in
    let s = g.R.Source.source c.args.decoder.now.source in
    let m = g.R.Source.source c.scalar_head.new.decoder.source in
    rw (passed.1, passed.2) (text_only g.R.Source.refusals c.in_ok-found.found c.args.decoder.now.levels s m c.in_ok-found.ensures.opened (asks_for g.R.Source.refusals g.R.Source.lends) c.in-Text.n c.text_name.new.decoder.refusal _ c.in-Text.is c.in_err-text_name-in-Text.ensures.memory)

pub returns-in-Bytes-clause-fault : goal.returns-in-Bytes-clause-fault
returns-in-Bytes-clause-fault g c =
    let s = g.R.Source.source c.args.decoder.now.source in
    let m = g.R.Source.source c.scalar_head.new.decoder.source in
    let kept = c.bytes_name.new.decoder.refusal in
    names_err _ (NamesFront IsNoName g.R.Source.refusals c.args.decoder.now.levels s kept) c.bytes_name.result (λ w. bytes_named g.R.Source.refusals c.in_ok-found.found c.args.decoder.now.levels s m c.in_ok-found.ensures.opened IsNoName c.in-Bytes.n kept w c.in-Bytes.is) c.bytes_name.ensures.fault

pub returns-in-Bytes-clause-memory : goal.returns-in-Bytes-clause-memory
returns-in-Bytes-clause-memory g c =
    let s = g.R.Source.source c.args.decoder.now.source in
    let m = g.R.Source.source c.scalar_head.new.decoder.source in
    let kept = c.bytes_name.new.decoder.refusal in
    let asks = asks_for g.R.Source.refusals g.R.Source.lends in
    names_err _ (NamesOnly (AsksForName asks c.args.decoder.now.levels s) kept) c.bytes_name.result (λ w. bytes_only g.R.Source.refusals c.in_ok-found.found c.args.decoder.now.levels s m c.in_ok-found.ensures.opened asks c.in-Bytes.n kept w c.in-Bytes.is) c.bytes_name.ensures.memory

pub returns-in_default-clause-fault : goal.returns-in_default-clause-fault
returns-in_default-clause-fault g c =
    let s = g.R.Source.source c.args.decoder.now.source in
    let m = g.R.Source.source c.scalar_head.new.decoder.source in
    other_name g.R.Source.refusals c.in_ok-found.found c.args.decoder.now.levels s m c.in_ok-found.ensures.opened c.no_name.new.decoder.refusal c.no_name.result c.in_default.not-Unsigned c.in_default.not-Text c.in_default.not-Bytes c.no_name.ensures.why

pub returns-in_default-clause-memory : goal.returns-in_default-clause-memory
returns-in_default-clause-memory g c =
    let s = g.R.Source.source c.args.decoder.now.source in
    let m = g.R.Source.source c.scalar_head.new.decoder.source in
    other_only g.R.Source.refusals c.in_ok-found.found c.args.decoder.now.levels s m c.in_ok-found.ensures.opened _ c.in_ok-found.found.head c.no_name.new.decoder.refusal c.no_name.result c.no_name.ensures.why
