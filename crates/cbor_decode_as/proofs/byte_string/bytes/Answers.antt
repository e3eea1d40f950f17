use Rattle.std.proofs.Common.{ℕ, Ok, Vec, subst}
use Rattle.std.specs.Global.{Global}
use Rattle.std.proofs.lemmas.Result.{err_from_is_err_and}
use Rattle.cbor_model.specs.Raw.{Raw}
use Rattle.cbor_io.specs.Error.{code_of, offset_of}
use Rattle.cbor_decode.specs.declared.head.Head.{Head}
use Rattle.cbor_decode_as.specs.TaggedHeads.{TakesItemHead}
use Rattle.cbor_decode_as.specs.Strings.{IsByteString}
use Rattle.cbor_decode_as.specs.Takes.{formats_of, raws}
use Rattle.cbor_decode_as.proofs.texts.StringContents.{bytes_stops, other_step, step_over, none_at}
use Rattle.cbor_decode_as.proofs.texts.ByteStrings.{byte_string_takes, not_bytes}
use Rattle.cbor_decode_as.proofs.heads.PassedOver.{behind_stands, behind_stopped, behind_whole, unopened_whole}
use Rattle.cbor_decode_as.proofs.texts.PassedStrings.{bytes_whole}
use Rattle.cbor_decode_as.proofs.numbers.Scalars.{refuses_on, refuses}
use Rattle.cbor_model.specs.Readable.{PassesTags}
use Rattle.cbor_model.specs.Reader.{item_at}
use Rattle.cbor_decode_as.proofs.byte_string.bytes.Goals as goal

-- what owned bytes are read from
abbrev reads : Raw → Vec ℕ Global → Type 0
reads r v = IsByteString r v.items

pub returns-in_err-bytes-in-Bytes-clause-read : goal.returns-in_err-bytes-in-Bytes-clause-read
returns-in_err-bytes-in-Bytes-clause-read g c =
    let p = err_from_is_err_and c.from_residual-in_err-bytes-in-Bytes.result c.from_residual-in_err-bytes-in-Bytes.ensures.1 in
    let u = c.scalar_head.new.decoder in
    let levels = c.args.decoder.now.levels in
    let f = formats_of c.args.decoder.now.formats in
    let s = g.R.Source.source c.args.decoder.now.source in
    let m = g.R.Source.source u.source in
    let opened = subst (λ (h : Head). TakesItemHead g.R.Source.refusals f levels s m u.refusal (Ok h)) c.in-Bytes.is c.in_ok-found.ensures.read in
    rw (p.1, p.2) (λ e is. bytes_stops g.R.Source.refusals f reads levels s m u.refusal c.in-Bytes.n opened _ c.byte_string.new.decoder.refusal e is c.in_err-bytes-in-Bytes.ensures.read)

pub returns-in_ok-bytes-in-Bytes-clause-read : goal.returns-in_ok-bytes-in-Bytes-clause-read
returns-in_ok-bytes-in-Bytes-clause-read g c =
    let u = c.scalar_head.new.decoder in
    let levels = c.args.decoder.now.levels in
    let f = formats_of c.args.decoder.now.formats in
    let s = g.R.Source.source c.args.decoder.now.source in
    let m = g.R.Source.source u.source in
    let v = c.in_ok-bytes-in-Bytes.bytes in
    let opened = subst (λ (h : Head). TakesItemHead g.R.Source.refusals f levels s m u.refusal (Ok h)) c.in-Bytes.is c.in_ok-found.ensures.read in
    byte_string_takes g.R.Source.refusals f reads levels s m u.refusal c.in-Bytes.n opened (g.R.Source.source c.byte_string.new.decoder.source) v.items v (λ r is lent. is) c.in_ok-bytes-in-Bytes.ensures.read

pub returns-in-Ok-clause-read : goal.returns-in-Ok-clause-read
returns-in-Ok-clause-read g c =
    let u = c.scalar_head.new.decoder in
    let s = g.R.Source.source c.args.decoder.now.source in
    let h = c.in_ok-found.found.head in
    step_over (other_step g.R.Source.refusals (formats_of c.args.decoder.now.formats) reads c.args.decoder.now.levels s (g.R.Source.source u.source) u.refusal h (λ r x is. not_bytes h c.in_default.not-Bytes r x.items is) c.in_ok-found.ensures.read) c.in-Ok.ensures.read

-- ---- the fault

pub returns-in_err-found-clause-fault : goal.returns-in_err-found-clause-fault
returns-in_err-found-clause-fault g c =
    let p = err_from_is_err_and c.from_residual.result c.from_residual.ensures.1 in
    let s = g.R.Source.source c.args.decoder.now.source in
    rw (p.1, p.2) (λ e is. unopened_whole g.R.Source.refusals c.args.decoder.now.levels s _ _ e c.in_err-found.ensures.opened.reported is)

pub returns-in_err-bytes-in-Bytes-clause-fault : goal.returns-in_err-bytes-in-Bytes-clause-fault
returns-in_err-bytes-in-Bytes-clause-fault g c =
    let p = err_from_is_err_and c.from_residual-in_err-bytes-in-Bytes.result c.from_residual-in_err-bytes-in-Bytes.ensures.1 in
    let u = c.scalar_head.new.decoder in
    let levels = c.args.decoder.now.levels in
    let s = g.R.Source.source c.args.decoder.now.source in
    let m = g.R.Source.source u.source in
    rw (p.1, p.2) (λ e is. bytes_whole g.R.Source.refusals c.in_ok-found.found levels s m c.in_ok-found.ensures.opened c.in-Bytes.n _ _ e c.in-Bytes.is c.in_err-bytes-in-Bytes.ensures.read.reported is)

pub returns-in-Ok-clause-fault : goal.returns-in-Ok-clause-fault
returns-in-Ok-clause-fault g c =
    let s = g.R.Source.source c.args.decoder.now.source in
    let m = g.R.Source.source c.scalar_head.new.decoder.source in
    let t = g.R.Source.source c.pass_over.new.decoder.source in
    behind_stands g.R.Source.refusals c.in_ok-found.found c.args.decoder.now.levels s m t c.in_ok-found.ensures.opened c.in-Ok.ensures.read

pub returns-in-Err-clause-read : goal.returns-in-Err-clause-read
returns-in-Err-clause-read g c =
    let u = c.scalar_head.new.decoder in
    let s = g.R.Source.source c.args.decoder.now.source in
    let h = c.in_ok-found.found.head in
    λ e is. refuses_on (none_at g.R.Source.refusals (formats_of c.args.decoder.now.formats) reads c.args.decoder.now.levels s (g.R.Source.source u.source) u.refusal h (code_of e) (offset_of e) (λ r x is. not_bytes h c.in_default.not-Bytes r x.items is) c.in_ok-found.ensures.read) c.in-Err.ensures.read.took

pub returns-in-Err-clause-fault : goal.returns-in-Err-clause-fault
returns-in-Err-clause-fault g c =
    let s = g.R.Source.source c.args.decoder.now.source in
    let m = g.R.Source.source c.scalar_head.new.decoder.source in
    let found = c.in_ok-found.found in
    λ e is. behind_whole g.R.Source.refusals found c.args.decoder.now.levels s m e c.in_ok-found.ensures.opened
    (behind_stopped g.R.Source.refusals found m _ _ e c.in-Err.ensures.read.reported is)

pub returns-in_err-found-clause-read : goal.returns-in_err-found-clause-read
returns-in_err-found-clause-read g c =
    let p = err_from_is_err_and c.from_residual.result c.from_residual.ensures.1 in
    let old = c.args.decoder.now in
    let f = formats_of old.formats in
    let s = g.R.Source.source old.source in
    rw (p.1, p.2) (λ e is. refuses g.R.Source.refusals (PassesTags reads) (λ l. item_at (raws f l) old.levels) s c.scalar_head.new.decoder.refusal c.in_err-found.field-0.0 e is c.in_err-found.ensures.read.1)
