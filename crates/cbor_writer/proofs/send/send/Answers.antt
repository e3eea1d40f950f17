use Rattle.std.proofs.Common.{arith}
use Rattle.std.proofs.KnownBytes.{Appends-kept}
use Rattle.cbor_writer.proofs.SentBlocks.{front_grown}
use Rattle.cbor_writer.proofs.send.send.Goals as goal
use Rattle.cbor_writer.proofs.send.send.Goals.{in-Ok, in-Err+else-ne}

pub tries-preserved : goal.tries-preserved
tries-preserved g c =
    elim c.match-write.branch [
      | in-Ok w ↦ rw w.sent-is (
        omega (arith, w.in-Ok.ensures.bound),
        front_grown _ _ _ c.args.bytes.now c.tries.sent _ w.in-Ok.ensures.bound c.tries.invariant.1
            w.in-Ok.ensures.bytes,
      )
      | in-Err+else-ne w ↦ rw w.sent-is (
        c.tries.invariant.0,
        Appends-kept _ _ _ _ c.tries.invariant.1 w.in-Err.ensures.bytes,
      )
    ]
