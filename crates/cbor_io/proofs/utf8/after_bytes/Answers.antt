use Rattle.std.proofs.Common.{◌<◌, length, arith}
use Rattle.std.proofs.lemmas.List.{take_more}
use Rattle.cbor_io.proofs.Utf8States.{after_bytes-append}
use Rattle.cbor_io.proofs.utf8.after_bytes.Goals as goal

pub loop-byte-preserved : goal.loop-byte-preserved
loop-byte-preserved c = λ s e.
    let within : c.loop-byte.byte-index < length c.args.bytes.now = omega arith in
    rw (take_more c.args.bytes.now c.loop-byte.byte-index 0 within, after_bytes-append)
    (c.after_byte-state.ensures _ (c.loop-byte.invariant s e))
