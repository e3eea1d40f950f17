use Rattle.std.proofs.Common.{◌≡◌, ◌+◌, ◌-◌, ◌≤◌, take, drop, refl, sym, ap, ◌∙◌, arith}
use Rattle.cbor_buffered.specs.Block.{in_block, input_of_buffered}
use Rattle.cbor_buffered.proofs.BlockBytes.{advanced, front_same, taken_length, took_front}
use Rattle.cbor_buffered.proofs.TakenInTurn.{took_it}
use Rattle.cbor_buffered.proofs.buffered_read.BufferedReadRead.read.Goals as goal

pub returns-then-n-self : goal.returns-then-n-self
returns-then-n-self g c =
    let s = c.args.self.now in
    let n = c.args.n in
    let b = g.B.Block.held s.block in
    let whole = g.met.B.Block.whole s.block in
    let rem = g.R.Read.remaining s.reader in
    let value : c.bytes.result.now ≡ b = c.bytes.ensures in
    let within : s.taken + n ≤ s.end = omega arith in
    let ends : s.taken + n - s.taken ≡ n = omega arith in
    let part : take (s.taken + n - s.taken) (drop s.taken c.bytes.result.now) ≡ take n (in_block s) =
    ap (λ m. take m (drop s.taken c.bytes.result.now)) ends
    ∙ ap (λ l. take n (drop s.taken l)) value
    ∙ sym (front_same b s.taken n s.end within) in
    let took = advanced rem b s.buffer.items s.taken n s.end s.filled s.start within
    (omega arith) (omega (arith, whole)) in
    let len = taken_length b s.taken n s.end within (omega (arith, whole)) in
    rw part (
      (refl, λ new. tt, took_it _ _ _ took),
      record {
        count = len;
        front = took_front (input_of_buffered g.R.Read.remaining s).to_come _ (take n (in_block s)) n
            len took.bytes;
        long = refl;
        memory = tt;
        after_borrow = tt;
      },
    )
