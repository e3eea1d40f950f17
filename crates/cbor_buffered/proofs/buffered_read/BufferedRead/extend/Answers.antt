use Rattle.std.proofs.Common.{take, drop, refl, arith}
use Rattle.std.proofs.lemmas.List.{length-drop}
use Rattle.cbor_buffered.proofs.BlockBytes.{read_on, kept_behind}
use Rattle.cbor_buffered.proofs.buffered_read.BufferedRead.extend.Goals as goal

pub invariant_of-self-clause-within : goal.invariant_of-self-clause-within
invariant_of-self-clause-within g c =
    let s = c.args.self.now in
    let block = c.read_behind.new.self in
    omega (
      arith,
      c.in-Ok.ensures.bound,
      length-drop s.filled (g.B.Block.held block),
      g.met.B.Block.whole block,
      s.within,
    )

pub returns-in-Ok-clause-stays : goal.returns-in-Ok-clause-stays
returns-in-Ok-clause-stays g c =
    let s = c.args.self.now in
    let n = c.in-Ok.count in
    let old = g.B.Block.held s.block in
    let new = g.B.Block.held c.read_behind.new.self in
    record {
      bytes = kept_behind (g.R.Read.remaining s.reader)
          (g.R.Read.remaining c.read_behind.new.reader) _ _ (take n (drop s.filled new))
          (read_on old new s.taken s.filled n (omega arith) c.in-Ok.ensures.kept)
          c.in-Ok.ensures.bytes.0;
      count = refl;
      room = refl;
      kept = refl;
    }
