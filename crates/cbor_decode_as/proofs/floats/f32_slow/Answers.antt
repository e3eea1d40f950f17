use Rattle.std.specs.Float.Ieee as ieee
use Rattle.cbor_decode_as.specs.Takes.{formats_of}
use Rattle.cbor_decode_as.specs.Scalars.{IsSingleOf}
use Rattle.cbor_decode_as.proofs.numbers.FloatHeads.{number_read, number_none, number_unread}
use Rattle.cbor_decode_as.proofs.heads.PassedOver.{behind_whole, unopened_whole}
use Rattle.cbor_decode_as.proofs.numbers.Scalars.{refuses_on}
use Rattle.cbor_decode_as.proofs.floats.f32_slow.Goals as goal

abbrev itself : ieee.Float → ieee.Float
itself x = x

pub returns-in-Some-clause-read : goal.returns-in-Some-clause-read
returns-in-Some-clause-read g c =
    let f = formats_of c.args.decoder.now.formats in
    let s = g.R.Source.source c.args.decoder.now.source in
    let u = c.scalar_head.new.decoder in
    number_read g.R.Source.refusals f IsSingleOf c.args.decoder.now.levels s
    (g.R.Source.source u.source) u.refusal itself c.in-Ok.found.head c.in-Some.x (λ r is. (is, c.in-Some.ensures.1))
    c.in-Some.ensures.0 c.in-Ok.ensures.read

pub returns-in-None-clause-read : goal.returns-in-None-clause-read
returns-in-None-clause-read g c =
    let f = formats_of c.args.decoder.now.formats in
    let s = g.R.Source.source c.args.decoder.now.source in
    let u = c.scalar_head.new.decoder in
    refuses_on
    (number_none g.R.Source.refusals f IsSingleOf c.args.decoder.now.levels s
    (g.R.Source.source u.source) u.refusal itself c.in-Ok.found.head c.no_float.result (λ r x h. h.0)
    (λ r x h is. c.in-None.ensures x (is, h.1)) c.in-Ok.ensures.read)
    c.no_float.ensures.took

pub returns-in-None-clause-memory : goal.returns-in-None-clause-memory
returns-in-None-clause-memory g c = λ e.
    let f = formats_of c.args.decoder.now.formats in
    let s = g.R.Source.source c.args.decoder.now.source in
    let u = c.scalar_head.new.decoder in
    number_unread g.R.Source.refusals f IsSingleOf c.args.decoder.now.levels s
    (g.R.Source.source u.source) u.refusal itself c.in-Ok.found.head (λ r x h. h.0)
    (λ r x h is. c.in-None.ensures x (is, h.1)) c.in-Ok.ensures.read

pub returns-in-Err-clause-fault : goal.returns-in-Err-clause-fault
returns-in-Err-clause-fault g c =
    let u = c.scalar_head.new.decoder in
    unopened_whole g.R.Source.refusals c.args.decoder.now.levels
    (g.R.Source.source c.args.decoder.now.source) u.refusal c.in-Err.refused c.error.result
    c.in-Err.ensures.opened.reported c.error.ensures.reports

pub returns-in-None-clause-fault : goal.returns-in-None-clause-fault
returns-in-None-clause-fault g c =
    let s = g.R.Source.source c.args.decoder.now.source in
    let m = g.R.Source.source c.scalar_head.new.decoder.source in
    behind_whole g.R.Source.refusals c.in-Ok.found c.args.decoder.now.levels s m c.no_float.result
    c.in-Ok.ensures.opened c.no_float.ensures.fault
