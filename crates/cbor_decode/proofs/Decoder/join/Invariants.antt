use Rattle.std.proofs.Common.{◌≡◌, ◌-◌, ◌^◌, ◌≤◌, length}
use Rattle.cbor_model.specs.Reader.{exceeds_most}
use Rattle.cbor_io.specs.Head.{major_number}
use Rattle.cbor_decode.specs.Gives.{Step}
use Rattle.cbor_decode.proofs.Chunks.{BytesSoFar}
use Rattle.cbor_decode.proofs.Decoder.join.Given as goal

abbrev pub invariant-chunks : goal.invariant-chunks
invariant-chunks g l =
    let s = g.R.Source.source l.self.source in
    record {
      so_far : Step (g.R.Source.source l.fn.self.source) s (λ limits bs rest. BytesSoFar (exceeds_most limits.room) (major_number l.major) s.buffer bs rest);
      counted : length s.buffer ≤ s.offset;
      levels : l.self.levels ≡ l.fn.self.levels;
      formats : l.self.formats ≡ l.fn.self.formats;
    }

abbrev pub decreases-chunks : goal.decreases-chunks
decreases-chunks g l = 2 ^ 64 - (g.R.Source.source l.self.source).offset
