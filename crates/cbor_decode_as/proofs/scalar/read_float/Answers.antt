use Rattle.std.proofs.Common.{Ok, subst}
use Rattle.cbor_decode.specs.declared.head.Head.{Head}
use Rattle.cbor_decode_as.specs.TaggedHeads.{TakesItemHead}
use Rattle.cbor_decode_as.specs.Takes.{formats_of}
use Rattle.cbor_decode_as.specs.Scalars.{IsFloatItem}
use Rattle.cbor_decode_as.proofs.numbers.Scalars.{scalar_unread, none_scalar, float_read, not_float, refuses_on}
use Rattle.cbor_decode_as.proofs.heads.PassedOver.{behind_whole, float_stands, unopened_whole}
use Rattle.cbor_decode_as.proofs.scalar.read_float.Goals as goal

pub returns-in-Float-clause-read : goal.returns-in-Float-clause-read
returns-in-Float-clause-read g c =
    let s = g.R.Source.source c.args.decoder.now.source in
    let u = c.scalar_head.new.decoder in
    let t = g.R.Source.source u.source in
    let levels = c.args.decoder.now.levels in
    let read = subst (λ (h : Head). TakesItemHead g.R.Source.refusals (formats_of c.args.decoder.now.formats) levels s t u.refusal (Ok h)) c.in-Float.is c.in-Ok.ensures.read in
    float_read g.R.Source.refusals (formats_of c.args.decoder.now.formats) levels s t u.refusal c.in-Float.float read

pub returns-in_default-clause-read : goal.returns-in_default-clause-read
returns-in_default-clause-read g c =
    let s = g.R.Source.source c.args.decoder.now.source in
    let u = c.scalar_head.new.decoder in
    refuses_on (none_scalar g.R.Source.refusals (formats_of c.args.decoder.now.formats) IsFloatItem c.args.decoder.now.levels s (g.R.Source.source u.source) u.refusal c.in-Ok.found.head c.skip_mismatch.result (not_float c.in-Ok.found.head c.in_default.not-Float) c.in-Ok.ensures.read) c.skip_mismatch.ensures.took

pub returns-in_default-clause-memory : goal.returns-in_default-clause-memory
returns-in_default-clause-memory g c = λ is.
    let s = g.R.Source.source c.args.decoder.now.source in
    let u = c.scalar_head.new.decoder in
    scalar_unread g.R.Source.refusals (formats_of c.args.decoder.now.formats) IsFloatItem c.args.decoder.now.levels s (g.R.Source.source u.source) u.refusal c.in-Ok.found.head (not_float c.in-Ok.found.head c.in_default.not-Float) c.in-Ok.ensures.read

pub returns-in-Float-clause-fault : goal.returns-in-Float-clause-fault
returns-in-Float-clause-fault g c =
    let s = g.R.Source.source c.args.decoder.now.source in
    let m = g.R.Source.source c.scalar_head.new.decoder.source in
    float_stands g.R.Source.refusals c.in-Ok.found c.args.decoder.now.levels s m c.in-Float.float c.in-Float.is c.in-Ok.ensures.opened

pub returns-in-Err-clause-fault : goal.returns-in-Err-clause-fault
returns-in-Err-clause-fault g c =
    let u = c.scalar_head.new.decoder in
    unopened_whole g.R.Source.refusals c.args.decoder.now.levels (g.R.Source.source c.args.decoder.now.source) u.refusal c.in-Err.refused c.error.result c.in-Err.ensures.opened.reported c.error.ensures.reports

pub returns-in_default-clause-fault : goal.returns-in_default-clause-fault
returns-in_default-clause-fault g c =
    let s = g.R.Source.source c.args.decoder.now.source in
    let m = g.R.Source.source c.scalar_head.new.decoder.source in
    behind_whole g.R.Source.refusals c.in-Ok.found c.args.decoder.now.levels s m c.skip_mismatch.result c.in-Ok.ensures.opened c.skip_mismatch.ensures.fault
