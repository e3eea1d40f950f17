use Rattle.std.proofs.Common.{ℕ, List, Option, subst, arith}
use Rattle.cbor_decode.specs.Decoder.{formats_of}
use Rattle.cbor_decode_as.specs.RawItems.{FindsEnd, ShowsFront}
use Rattle.cbor_decode_as.proofs.RawItems.{ends_within}
use Rattle.cbor_decode_as.proofs.raw.end_at_hand.Goals as goal

found : goal.returns-clause-found
found g c =
    let d = c.args.decoder.now in
    subst (λ (room : Option ℕ). FindsEnd (formats_of d.formats) d.levels room (g.R.Source.at_hand d.source) c.end_of_item.result) c.buffer_room-room.ensures
    (subst (λ (bs : List ℕ). FindsEnd (formats_of d.formats) d.levels c.buffer_room-room.result bs c.end_of_item.result) c.ahead-ahead.ensures.bytes c.end_of_item.ensures.found)

pub returns-clause-found : goal.returns-clause-found
returns-clause-found g c = found g c

pub returns-clause-within : goal.returns-clause-within
returns-clause-within g c =
    let d = c.args.decoder.now in
    ends_within (formats_of d.formats) d.levels (g.R.Source.source d.source).room (g.R.Source.at_hand d.source) c.end_of_item.result (found g c)

pub returns-clause-shows : goal.returns-clause-shows
returns-clause-shows g c =
    let d = c.args.decoder.now in
    subst (ShowsFront g.R.Source.lends (g.R.Source.source d.source)) c.ahead-ahead.ensures.bytes
    (record { bytes = c.end_of_item.ensures.bytes; short = omega (arith, c.ahead-ahead.type_inv.0); front = c.ahead-ahead.ensures.front; all = c.ahead-ahead.ensures.all })
