use Rattle.cbor_read.specs.Source.{part_bytes}
use Rattle.cbor_decode_as.proofs.texts.Lending.{joined_step}
use Rattle.std.proofs.Common.{None}
use Rattle.std.proofs.lemmas.Result.{err_from_is_err_and}
use Rattle.cbor_decode_as.proofs.texts.NamedFaults.{bad_named}
use Rattle.cbor_decode_as.proofs.texts.PassedStrings.{text_unread}
use Rattle.cbor_decode_as.proofs.identifier.joined_name.Goals as goal

pub returns-in-Ok-clause-read : goal.returns-in-Ok-clause-read
returns-in-Ok-clause-read g c =
    let s = g.R.Source.source c.args.decoder.now.source in
    let m = g.R.Source.source c.join.new.self.source in
    let t = g.R.Source.source c.take_buffer.follows.lender-at-none in
    let p = c.take_buffer.result in
    let named = c.in-Ok.ensures.place in
    (part_bytes p, named.0, named.1, joined_step s m t m.buffer (part_bytes p) c.take_buffer.ensures.bytes c.take_buffer.follows.holds-at-none c.in_ok-join.ensures.read)

pub returns-in_err-join-clause-fault : goal.returns-in_err-join-clause-fault
returns-in_err-join-clause-fault g c =
    let is_err = err_from_is_err_and c.from_residual.result c.from_residual.ensures.1 in
    let s = g.R.Source.source c.args.decoder.now.source in
    rw (is_err.1, is_err.2) (text_unread g.R.Source.refusals s None _ _ c.in_err-join.ensures.read.reported)

pub returns-in-Err-clause-fault : goal.returns-in-Err-clause-fault
returns-in-Err-clause-fault g c =
    let s = g.R.Source.source c.args.decoder.now.source in
    let m = g.R.Source.source c.join.new.self.source in
    let t = g.R.Source.source c.take_buffer.follows.lender-at-none in
    let p = c.take_buffer.result in
    let step = joined_step s m t m.buffer (part_bytes p) c.take_buffer.ensures.bytes c.take_buffer.follows.holds-at-none c.in_ok-join.ensures.read in
    bad_named g.R.Source.refusals s t None (part_bytes p) c.in-Err.back c.refuse_text.new.self.refusal c.refuse_text.result step c.in-Err.ensures.place c.refuse_text.ensures.kept
