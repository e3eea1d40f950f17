use Rattle.std.proofs.Common.{Some, String, refl}
use Rattle.std.specs.Global.{Global}
use Rattle.std.specs.String.{string_bytes}
use Rattle.std.proofs.lemmas.Result.{err_from_is_err_and}
use Rattle.cbor_model.specs.Raw.{Raw}
use Rattle.cbor_model.specs.Readable.{IsText}
use Rattle.cbor_io.specs.Error.{code_of, offset_of}
use Rattle.cbor_decode_as.specs.Takes.{formats_of}
use Rattle.cbor_decode_as.proofs.heads.Opened.{text_opened}
use Rattle.cbor_decode_as.proofs.texts.Lending.{text_refuses}
use Rattle.cbor_decode_as.proofs.texts.StringContents.{text_takes}
use Rattle.cbor_decode.specs.declared.head.Head.TheVariants.{Text}
use Rattle.cbor_decode_as.specs.declared.head.HeadAt.{HeadAt}
use Rattle.cbor_decode_as.proofs.heads.Openings.{head_opened}
use Rattle.cbor_decode_as.proofs.texts.PassedStrings.{text_whole}
use Rattle.cbor_decode_as.proofs.string.string.Goals as goal

-- what a String is read from
abbrev reads : Raw → String Global → Type 0
reads r s = IsText r (string_bytes s)

pub returns-in_err-text-clause-read : goal.returns-in_err-text-clause-read
returns-in_err-text-clause-read g c =
    let passed = err_from_is_err_and c.from_residual.result c.from_residual.ensures.1 in
    let old = c.args.decoder.now in
    let u = c.short_text.new.self in
    let f = formats_of old.formats in
    let s = g.R.Source.source old.source in
    let m = g.R.Source.source u.source in
    let opened = text_opened g.R.Source.refusals f s m old.levels c.in-Some.n u.refusal c.in-Some.ensures.read in
    rw (passed.1, passed.2) (λ e is. text_refuses g.R.Source.refusals f g.R.Source.lends old.levels s m u.refusal reads (Some c.in-Some.n) (code_of e) (offset_of e) opened (c.in_err-text.ensures.read e is))

pub returns-in-Some-clause-read : goal.returns-in-Some-clause-read
returns-in-Some-clause-read g c =
    let old = c.args.decoder.now in
    let u = c.short_text.new.self in
    let f = formats_of old.formats in
    let s = g.R.Source.source old.source in
    let m = g.R.Source.source u.source in
    let t = g.R.Source.source c.definite_text.new.decoder.source in
    let x = c.in_ok-text.text in
    let is = c.in_ok-text.ensures.read in
    let opened = text_opened g.R.Source.refusals f s m old.levels c.in-Some.n u.refusal c.in-Some.ensures.read in
    text_takes g.R.Source.refusals f reads old.levels s m u.refusal (Some c.in-Some.n) opened t (string_bytes x) x (λ r string utf8 lent. (string, utf8)) is.1 is.0

pub returns-in_err-text-clause-fault : goal.returns-in_err-text-clause-fault
returns-in_err-text-clause-fault g c =
    let passed = err_from_is_err_and c.from_residual.result c.from_residual.ensures.1 in
    let old = c.args.decoder.now in
    let s = g.R.Source.source old.source in
    let m = g.R.Source.source c.short_text.new.self.source in
    let found : HeadAt = record { head = Text (Some c.in-Some.n); levels = old.levels } in
    let opens = head_opened s m old.levels old.levels (Text (Some c.in-Some.n)) (λ e. absurd cc) refl c.in-Some.ensures.read in
    rw (passed.1, passed.2) (λ e is. text_whole g.R.Source.refusals found old.levels s m opens (Some c.in-Some.n) e refl (c.in_err-text.ensures.fault e is))
