use Rattle.std.proofs.lemmas.Result.{err_from_is_err_and}
use Rattle.std.specs.String.{string_bytes}
use Rattle.cbor_decode.specs.declared.head.Head.TheVariants.{Text}
use Rattle.cbor_decode_as.proofs.texts.StringContents.{text_checked}
use Rattle.cbor_decode_as.proofs.texts.PassedStrings.{checked_reported, text_reports}
use Rattle.cbor_decode_as.proofs.string.text_slow.Goals as goal

pub returns-clause-read : goal.returns-clause-read
returns-clause-read g c =
    let s = g.R.Source.source c.args.decoder.now.source in
    let t = g.R.Source.source c.text_content.new.decoder.source in
    rw c.checked.ensures.source (text_checked g.R.Source.refusals (λ x. string_bytes x) (Text c.args.n) s t c.in_ok-bytes.bytes.items t.offset c.checked.new.decoder.refusal c.checked.result c.in_ok-bytes.ensures.read c.checked.ensures.read)

pub returns-in_err-bytes-clause-fault : goal.returns-in_err-bytes-clause-fault
returns-in_err-bytes-clause-fault g c =
    let is_err = err_from_is_err_and c.from_residual.result c.from_residual.ensures.1 in
    let s = g.R.Source.source c.args.decoder.now.source in
    rw (is_err.1, is_err.2) (text_reports g.R.Source.refusals s c.args.n _ _ c.in_err-bytes.ensures.read.reported)

pub returns-clause-fault : goal.returns-clause-fault
returns-clause-fault g c =
    let s = g.R.Source.source c.args.decoder.now.source in
    let t = g.R.Source.source c.text_content.new.decoder.source in
    checked_reported (λ x. string_bytes x) g.R.Source.refusals s t c.args.n c.in_ok-bytes.bytes.items c.checked.new.decoder.refusal c.checked.result c.in_ok-bytes.ensures.read c.checked.ensures.read
