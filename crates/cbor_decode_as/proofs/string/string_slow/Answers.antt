use Rattle.std.proofs.Common.{◌≡◌, Ok, subst, sym, ap, String}
use Rattle.std.specs.Str.{IsUtf8}
use Rattle.std.specs.String.{string_bytes}
use Rattle.std.specs.Global.{Global}
use Rattle.std.proofs.lemmas.Str.{IsUtf8-string_bytes}
use Rattle.std.proofs.lemmas.Result.{err_from_is_err_and}
use Rattle.cbor_model.specs.Raw.{Raw}
use Rattle.cbor_model.specs.Readable.{IsString, IsText, PassesTags}
use Rattle.cbor_io.specs.Error.{code_of, offset_of}
use Rattle.cbor_decode.specs.declared.head.Head.{Head}
use Rattle.cbor_decode_as.specs.TaggedHeads.{TakesItemHead}
use Rattle.cbor_decode_as.specs.Takes.{formats_of, raws}
use Rattle.cbor_decode_as.proofs.texts.Lending.{text_refuses}
use Rattle.cbor_decode_as.proofs.texts.StringContents.{text_takes, bytes_takes, bytes_stops, not_string, none_at, other_step, step_over, bad_bytes}
use Rattle.cbor_decode_as.proofs.heads.PassedOver.{behind_stands, behind_stopped, behind_whole, unopened_whole}
use Rattle.cbor_decode_as.proofs.texts.PassedStrings.{bytes_stand, bytes_whole, text_whole}
use Rattle.cbor_decode_as.proofs.numbers.Scalars.{refuses_on, refuses}
use Rattle.cbor_model.specs.Reader.{item_at}
use Rattle.cbor_decode_as.proofs.string.string_slow.Goals as goal

-- what a String is read from
abbrev reads : Raw → String Global → Type 0
reads r s = IsText r (string_bytes s)

pub returns-in_err-text-in-Text-clause-read : goal.returns-in_err-text-in-Text-clause-read
returns-in_err-text-in-Text-clause-read g c =
    let p = err_from_is_err_and c.from_residual-in_err-text-in-Text.result c.from_residual-in_err-text-in-Text.ensures.1 in
    let u = c.scalar_head.new.decoder in
    let levels = c.args.decoder.now.levels in
    let f = formats_of c.args.decoder.now.formats in
    let s = g.R.Source.source c.args.decoder.now.source in
    let m = g.R.Source.source u.source in
    let opened = subst (λ (h : Head). TakesItemHead g.R.Source.refusals f levels s m u.refusal (Ok h)) c.in-Text.is c.in_ok-found.ensures.read in
    rw (p.1, p.2) (λ e is. text_refuses g.R.Source.refusals f g.R.Source.lends levels s m u.refusal reads c.in-Text.n (code_of e) (offset_of e) opened (c.in_err-text-in-Text.ensures.read e is))

pub returns-in-Text-clause-read : goal.returns-in-Text-clause-read
returns-in-Text-clause-read g c =
    let u = c.scalar_head.new.decoder in
    let levels = c.args.decoder.now.levels in
    let f = formats_of c.args.decoder.now.formats in
    let s = g.R.Source.source c.args.decoder.now.source in
    let m = g.R.Source.source u.source in
    let t = g.R.Source.source c.text_slow.new.decoder.source in
    let x = c.in_ok-text-in-Text.text in
    let is = c.in_ok-text-in-Text.ensures.read in
    let opened = subst (λ (h : Head). TakesItemHead g.R.Source.refusals f levels s m u.refusal (Ok h)) c.in-Text.is c.in_ok-found.ensures.read in
    text_takes g.R.Source.refusals f reads levels s m u.refusal c.in-Text.n opened t (string_bytes x) x (λ r string utf8 lent. (string, utf8)) is.1 is.0

pub returns-in_err-bytes-in-Bytes-clause-read : goal.returns-in_err-bytes-in-Bytes-clause-read
returns-in_err-bytes-in-Bytes-clause-read g c =
    let p = err_from_is_err_and c.from_residual-in_err-bytes-in-Bytes.result c.from_residual-in_err-bytes-in-Bytes.ensures.1 in
    let u = c.scalar_head.new.decoder in
    let levels = c.args.decoder.now.levels in
    let f = formats_of c.args.decoder.now.formats in
    let s = g.R.Source.source c.args.decoder.now.source in
    let m = g.R.Source.source u.source in
    let opened = subst (λ (h : Head). TakesItemHead g.R.Source.refusals f levels s m u.refusal (Ok h)) c.in-Bytes.is c.in_ok-found.ensures.read in
    rw (p.1, p.2) (λ e is. bytes_stops g.R.Source.refusals f reads levels s m u.refusal c.in-Bytes.n opened _ c.byte_string.new.decoder.refusal e is c.in_err-bytes-in-Bytes.ensures.read)

pub returns-in-Ok-clause-read : goal.returns-in-Ok-clause-read
returns-in-Ok-clause-read g c =
    let u = c.scalar_head.new.decoder in
    let levels = c.args.decoder.now.levels in
    let f = formats_of c.args.decoder.now.formats in
    let s = g.R.Source.source c.args.decoder.now.source in
    let m = g.R.Source.source u.source in
    let x = c.in-Ok.text in
    let b = c.in_ok-bytes-in-Bytes.bytes.items in
    let same : string_bytes x ≡ b = ap (λ v. v.items) c.in-Ok.ensures.ok in
    let opened = subst (λ (h : Head). TakesItemHead g.R.Source.refusals f levels s m u.refusal (Ok h)) c.in-Bytes.is c.in_ok-found.ensures.read in
    bytes_takes g.R.Source.refusals f reads levels s m u.refusal c.in-Bytes.n opened (g.R.Source.source c.byte_string.new.decoder.source) b x
    (λ r is lent. (subst (IsString r) (sym same) is, IsUtf8-string_bytes x)) c.in_ok-bytes-in-Bytes.ensures.read

pub returns-in-Bytes-clause-read : goal.returns-in-Bytes-clause-read
returns-in-Bytes-clause-read g c =
    let u = c.scalar_head.new.decoder in
    let levels = c.args.decoder.now.levels in
    let f = formats_of c.args.decoder.now.formats in
    let s = g.R.Source.source c.args.decoder.now.source in
    let m = g.R.Source.source u.source in
    let b = c.in_ok-bytes-in-Bytes.bytes.items in
    let bad : IsUtf8 b → ⊥ = λ is. cc (c.in-Err.ensures.succeeds is) in
    let opened = subst (λ (h : Head). TakesItemHead g.R.Source.refusals f levels s m u.refusal (Ok h)) c.in-Bytes.is c.in_ok-found.ensures.read in
    bad_bytes g.R.Source.refusals f reads levels s m u.refusal c.in-Bytes.n opened (g.R.Source.source c.byte_string.new.decoder.source) b (λ x. string_bytes x) (λ r x is. is) bad c.in_ok-bytes-in-Bytes.ensures.read

pub returns-in-Ok-pass_over-clause-read : goal.returns-in-Ok-pass_over-clause-read
returns-in-Ok-pass_over-clause-read g c =
    let u = c.scalar_head.new.decoder in
    let s = g.R.Source.source c.args.decoder.now.source in
    let h = c.in_ok-found.found.head in
    step_over (other_step g.R.Source.refusals (formats_of c.args.decoder.now.formats) reads c.args.decoder.now.levels s (g.R.Source.source u.source) u.refusal h (λ r x is. not_string h c.in_default.not-Text c.in_default.not-Bytes r (string_bytes x) is.0) c.in_ok-found.ensures.read) c.in-Ok-pass_over.ensures.read

-- ---- the fault

pub returns-in_err-found-clause-fault : goal.returns-in_err-found-clause-fault
returns-in_err-found-clause-fault g c =
    let p = err_from_is_err_and c.from_residual.result c.from_residual.ensures.1 in
    let s = g.R.Source.source c.args.decoder.now.source in
    rw (p.1, p.2) (λ e is. unopened_whole g.R.Source.refusals c.args.decoder.now.levels s _ _ e c.in_err-found.ensures.opened.reported is)

pub returns-in_err-text-in-Text-clause-fault : goal.returns-in_err-text-in-Text-clause-fault
returns-in_err-text-in-Text-clause-fault g c =
    let p = err_from_is_err_and c.from_residual-in_err-text-in-Text.result c.from_residual-in_err-text-in-Text.ensures.1 in
    let u = c.scalar_head.new.decoder in
    let levels = c.args.decoder.now.levels in
    let s = g.R.Source.source c.args.decoder.now.source in
    let m = g.R.Source.source u.source in
    rw (p.1, p.2) (λ e is. text_whole g.R.Source.refusals c.in_ok-found.found levels s m c.in_ok-found.ensures.opened c.in-Text.n e c.in-Text.is (c.in_err-text-in-Text.ensures.fault e is))

pub returns-in_err-bytes-in-Bytes-clause-fault : goal.returns-in_err-bytes-in-Bytes-clause-fault
returns-in_err-bytes-in-Bytes-clause-fault g c =
    let p = err_from_is_err_and c.from_residual-in_err-bytes-in-Bytes.result c.from_residual-in_err-bytes-in-Bytes.ensures.1 in
    let u = c.scalar_head.new.decoder in
    let levels = c.args.decoder.now.levels in
    let s = g.R.Source.source c.args.decoder.now.source in
    let m = g.R.Source.source u.source in
    rw (p.1, p.2) (λ e is. bytes_whole g.R.Source.refusals c.in_ok-found.found levels s m c.in_ok-found.ensures.opened c.in-Bytes.n _ _ e c.in-Bytes.is c.in_err-bytes-in-Bytes.ensures.read.reported is)

pub returns-in-Bytes-clause-fault : goal.returns-in-Bytes-clause-fault
returns-in-Bytes-clause-fault g c =
    let u = c.scalar_head.new.decoder in
    let levels = c.args.decoder.now.levels in
    let s = g.R.Source.source c.args.decoder.now.source in
    let m = g.R.Source.source u.source in
    let t = g.R.Source.source c.byte_string.new.decoder.source in
    bytes_stand g.R.Source.refusals c.in_ok-found.found levels s m c.in_ok-found.ensures.opened c.in-Bytes.n t c.in_ok-bytes-in-Bytes.bytes.items c.in-Bytes.is c.in_ok-bytes-in-Bytes.ensures.read

pub returns-in-Ok-pass_over-clause-fault : goal.returns-in-Ok-pass_over-clause-fault
returns-in-Ok-pass_over-clause-fault g c =
    let s = g.R.Source.source c.args.decoder.now.source in
    let m = g.R.Source.source c.scalar_head.new.decoder.source in
    let t = g.R.Source.source c.pass_over.new.decoder.source in
    behind_stands g.R.Source.refusals c.in_ok-found.found c.args.decoder.now.levels s m t c.in_ok-found.ensures.opened c.in-Ok-pass_over.ensures.read

pub returns-clause-read : goal.returns-clause-read
returns-clause-read g c =
    let u = c.scalar_head.new.decoder in
    let s = g.R.Source.source c.args.decoder.now.source in
    let h = c.in_ok-found.found.head in
    λ e is. refuses_on (none_at g.R.Source.refusals (formats_of c.args.decoder.now.formats) reads c.args.decoder.now.levels s (g.R.Source.source u.source) u.refusal h (code_of e) (offset_of e) (λ r x is. not_string h c.in_default.not-Text c.in_default.not-Bytes r (string_bytes x) is.0) c.in_ok-found.ensures.read) c.in-Err-pass_over.ensures.read.took

pub returns-clause-fault : goal.returns-clause-fault
returns-clause-fault g c =
    let s = g.R.Source.source c.args.decoder.now.source in
    let m = g.R.Source.source c.scalar_head.new.decoder.source in
    let found = c.in_ok-found.found in
    λ e is. behind_whole g.R.Source.refusals found c.args.decoder.now.levels s m e c.in_ok-found.ensures.opened
    (behind_stopped g.R.Source.refusals found m _ _ e c.in-Err-pass_over.ensures.read.reported is)

pub returns-in_err-found-clause-read : goal.returns-in_err-found-clause-read
returns-in_err-found-clause-read g c =
    let p = err_from_is_err_and c.from_residual.result c.from_residual.ensures.1 in
    let old = c.args.decoder.now in
    let f = formats_of old.formats in
    let s = g.R.Source.source old.source in
    rw (p.1, p.2) (λ e is. refuses g.R.Source.refusals (PassesTags reads) (λ l. item_at (raws f l) old.levels) s c.scalar_head.new.decoder.refusal c.in_err-found.field-0.0 e is c.in_err-found.ensures.read.1)
