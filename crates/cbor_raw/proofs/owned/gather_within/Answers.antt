use Rattle.std.proofs.Common.{◌∙◌, ◌<◌, ◌^◌, length, append-nil, ap, subst, arith}
use Rattle.cbor_io.specs.Error.{code_of, offset_of}
use Rattle.cbor_decode.specs.Decoder.{formats_of}
use Rattle.cbor_decode_as.proofs.facts.Readings.{refuses_map}
use Rattle.cbor_model.specs.Raw.{AreBytes}
use Rattle.cbor_raw.proofs.Gathering.{refused_within}
use Rattle.cbor_raw.proofs.Kept.{alone_begins, kept_step, part_encodes, some_bytes, unread_bytes, whole_is}
use Rattle.cbor_raw.proofs.owned.gather_within.Goals as goal

pub returns-in-Err-clause-refused : goal.returns-in-Err-clause-refused
returns-in-Err-clause-refused g c =
    let d = c.args.decoder.now in
    let e = c.in-Err.error in
    refuses_map g.R.Source.refusals (g.R.Source.source d.source) (code_of e) (offset_of e) _ _
    (λ l bs none. unread_bytes (formats_of d.formats) d.levels l bs none) c.in-Err.ensures.unread

pub returns-in-Ok-end_of_item-clause-read : goal.returns-in-Ok-end_of_item-clause-read
returns-in-Ok-end_of_item-clause-read g c =
    let d = c.args.decoder.now in
    let s = g.R.Source.source d.source in
    let bytes = c.in-Ok.bytes.items in
    let got = c.in-Ok.ensures.ok in
    let there = rw (c.buffer_room-room.ensures, c.deref.ensures.value) at c.in-Ok-end_of_item.ensures.found in
    let is = whole_is d.levels bytes (omega (arith, c.in-Ok.bytes.small)) got.item (formats_of d.formats) s.room c.in-Ok-end_of_item.field-0 there in
    kept_step d.levels there.item there.begins.acceptable (formats_of d.formats) s (g.R.Source.source c.gather.new.decoder.source) bytes got.took is there.keys there.fits

pub returns-in-Ok-end_of_item-clause-encodes : goal.returns-in-Ok-end_of_item-clause-encodes
returns-in-Ok-end_of_item-clause-encodes g c =
    let d = c.args.decoder.now in
    let bytes = c.in-Ok.bytes.items in
    let short : length bytes < 2 ^ 64 = omega (arith, c.in-Ok.bytes.small) in
    let has = c.in-Ok.ensures.ok.item in
    let begins = alone_begins d.levels bytes short has in
    part_encodes d.levels has.item has.begins.acceptable bytes (begins.spelled ∙ append-nil _) short

pub returns-in-Ok-end_of_item-clause-taken : goal.returns-in-Ok-end_of_item-clause-taken
returns-in-Ok-end_of_item-clause-taken g c =
    let d = c.args.decoder.now in
    let bytes = c.in-Ok.bytes.items in
    let short : length bytes < 2 ^ 64 = omega (arith, c.in-Ok.bytes.small) in
    let got = c.in-Ok.ensures.ok in
    let is = ap length ((alone_begins d.levels bytes short got.item).spelled ∙ append-nil _) in
    let some = some_bytes d.levels got.item.item got.item.begins.acceptable (omega (arith, is, short)) in
    record { further = omega (arith, some, got.took.count, is); counted = omega (arith, c.offset-start.ensures, c.offset-start.type_inv) }

pub returns-in-Err-end_of_item-clause-refused : goal.returns-in-Err-end_of_item-clause-refused
returns-in-Err-end_of_item-clause-refused g c =
    let d = c.args.decoder.now in
    let s = g.R.Source.source d.source in
    let bytes = c.in-Ok.bytes.items in
    let found = c.in-Err-end_of_item.error in
    let none = rw (c.buffer_room-room.ensures, c.deref.ensures.value) at c.in-Err-end_of_item.ensures.found in
    refused_within g.R.Source.refusals (formats_of d.formats) d.levels s (g.R.Source.source c.gather.new.decoder.source) bytes c.in-Ok.ensures.ok
    (subst AreBytes c.deref.ensures.value c.end_of_item.ensures.bytes) (omega (arith, c.in-Ok.bytes.small)) found c.further.result none c.further.ensures.stays
