use Rattle.std.proofs.Common.{◌≡◌, ◌∙◌, take, length, sym, ap, subst, arith}
use Rattle.cbor_decode.specs.Decoder.{formats_of}
use Rattle.cbor_read.specs.Source.{TookKept}
use Rattle.cbor_raw.proofs.Kept.{front_is, kept_step, part_encodes, some_bytes}
use Rattle.cbor_raw.proofs.owned.take_at_hand.Goals as goal

pub returns-in-Ok-clause-read : goal.returns-in-Ok-clause-read
returns-in-Ok-clause-read g c =
    let d = c.args.decoder.now in
    let f = formats_of d.formats in
    let s = g.R.Source.source d.source in
    let t = g.R.Source.source c.advance.new.self in
    let there = c.requires.found in
    let part : c.in-Ok.bytes.items ≡ take c.args.n (g.R.Source.at_hand d.source) = c.in-Ok.ensures.items ∙ ap (take c.args.n) c.ahead-hand.ensures.bytes in
    kept_step d.levels there.item there.begins.acceptable f s t c.in-Ok.bytes.items (subst (TookKept s t) (sym part) c.advance.ensures.took)
    (part ∙ front_is f d.levels s.room (g.R.Source.at_hand d.source) c.args.n there) there.keys there.fits

pub returns-in-Ok-clause-encodes : goal.returns-in-Ok-clause-encodes
returns-in-Ok-clause-encodes g c =
    let d = c.args.decoder.now in
    let there = c.requires.found in
    let part : c.in-Ok.bytes.items ≡ take c.args.n (g.R.Source.at_hand d.source) = c.in-Ok.ensures.items ∙ ap (take c.args.n) c.ahead-hand.ensures.bytes in
    part_encodes d.levels there.item there.begins.acceptable c.in-Ok.bytes.items
    (part ∙ front_is (formats_of d.formats) d.levels (g.R.Source.source d.source).room (g.R.Source.at_hand d.source) c.args.n there) (omega (arith, c.in-Ok.bytes.small))

pub returns-in-Ok-clause-taken : goal.returns-in-Ok-clause-taken
returns-in-Ok-clause-taken g c =
    let d = c.args.decoder.now in
    let there = c.requires.found in
    let is = front_is (formats_of d.formats) d.levels (g.R.Source.source d.source).room (g.R.Source.at_hand d.source) c.args.n there in
    let some = some_bytes d.levels there.item there.begins.acceptable (omega (arith, there.ends, c.ranges.n.fits)) in
    record { further = omega (arith, some, c.advance.ensures.took.count, ap length is); counted = omega (arith, c.offset.ensures, c.offset.type_inv) }
