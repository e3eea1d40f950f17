use Rattle.std.proofs.Common.{◌-◌, ◌+◌, ◌∙◌, length, sym, ap, arith}
use Rattle.cbor_rules.specs.Rules.{under}
use Rattle.cbor_rules.specs.Walk.{chunks_walk, departure_from}
use Rattle.cbor_rules.proofs.ChunkSteps.{chunks_begin, chunks_end}
use Rattle.cbor_rules.proofs.Walking.{length-last, next_rest, view_rest}
use Rattle.cbor_rules.proofs.chunks.chunks.Goals as goal

pub returns-in-Err-clause-walks : goal.returns-in-Err-clause-walks
returns-in-Err-clause-walks c =
    let sought = departure_from (under c.args.rules.now c.args.tags.now) in
    let i = c.loop-i.invariant in
    let rest = c.loop-i.rest.now in
    λ had fuel enough.
    i.so_far
    ∙ chunks_begin sought c.args.major c.args.n c.loop-i._i c.loop-i-test.true c.loop-i.sum rest
    ∙ c.in-Err.ensures.walks (chunks_walk sought c.args.major (c.args.n - (c.loop-i._i + 1)))
    ∙ view_rest rest c.args.bytes.now c.in-Err.walk i.within i.is_last c.in-Err.ensures.within.0

pub loop-i-preserved : goal.loop-i-preserved
loop-i-preserved c =
    let sought = departure_from (under c.args.rules.now c.args.tags.now) in
    let i = c.loop-i.invariant in
    let rest = c.loop-i.rest.now in
    let left = c.in-Ok.left in
    let one = c.in-Ok.ensures in
    let next = next_rest c.behind-rest.result.now rest c.args.bytes.now left c.behind-rest.ensures one.within.1 i.within i.is_last in
    record {
      within = next.0;
      is_last = next.1;
      counted = omega (arith, one.within.0, i.counted, ap length c.behind-rest.ensures, length-last left rest one.within.1);
      so_far =
          i.so_far
          ∙ chunks_begin sought c.args.major c.args.n c.loop-i._i c.loop-i-test.true c.loop-i.sum rest
          ∙ one.walks (chunks_walk sought c.args.major (c.args.n - (c.loop-i._i + 1)))
          ∙ ap (chunks_walk sought c.args.major (c.args.n - (c.loop-i._i + 1)) c.in-Ok.longer) (sym c.behind-rest.ensures);
    }

pub returns-clause-walks : goal.returns-clause-walks
returns-clause-walks c =
    let sought = departure_from (under c.args.rules.now c.args.tags.now) in
    λ had fuel enough.
    c.loop-i.invariant.so_far ∙ chunks_end sought c.args.major c.args.n c.loop-i._i c.loop-i.sum c.loop-i.rest.now c.loop-i-test.false
