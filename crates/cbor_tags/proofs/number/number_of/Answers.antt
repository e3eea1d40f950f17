use Rattle.std.proofs.Common.{◌≡◌, ◌+◌, ◌*◌, drop, get_or, suc, arith}
use Rattle.std.proofs.Math.Seq.{drop-cons}
use Rattle.cbor_io.specs.Compare.{big_endian, big_endian_after}
use Rattle.cbor_tags.proofs.Numbers.{grows}
use Rattle.cbor_tags.proofs.number.number_of.Goals as goal

pub returns-then-number-ge-ROOM : goal.returns-then-number-ge-ROOM
returns-then-number-ge-ROOM c =
    let l = c.loop-byte in
    let b = get_or c.args.bytes.now l.byte-index 0 in
    let opened : big_endian_after l.number (drop l.byte-index c.args.bytes.now) ≡ big_endian c.args.bytes.now = l.invariant in
    let more = rw (drop-cons c.args.bytes.now l.byte-index 0 c.loop-byte-test.true) at opened in
    omega (arith, more, c.if-number-ge-ROOM.true, grows (l.number * 256 + b) (drop (suc l.byte-index) c.args.bytes.now))
