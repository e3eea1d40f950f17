use Rattle.std.proofs.Common.{◌≤◌, IfSome}
use Rattle.cbor_decode.specs.Decoder.{formats_of}
use Rattle.cbor_decode_as.proofs.JoinedLengths.{stands_in_room}
use Rattle.cbor_decode_as.proofs.raw.end_of_item.Goals as goal
use Rattle.cbor_decode_as.proofs.raw.end_of_item.Goals.{in_default-via-in-Some+else-most-end, in_default-via-in_default}

pub returns-in_default-clause-found : goal.returns-in_default-clause-found
returns-in_default-clause-found c =
    let enough : IfSome c.args.room (λ most. c.in_ok-end.end ≤ most) = elim c.in_default.branch [
      | in_default-via-in-Some+else-most-end w ↦ rw w.in-Some.is w.if-most-end.false
      | in_default-via-in_default w ↦ rw w.in_default.is tt
    ] in
    stands_in_room (formats_of c.args.formats) c.args.levels c.args.room c.args.bytes.now c.in_ok-end.end c.in_ok-end.ensures enough
