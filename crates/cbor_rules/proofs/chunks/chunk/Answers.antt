use Rattle.cbor_rules.specs.Rules.{under}
use Rattle.cbor_rules.specs.Walk.{departure_from}
use Rattle.cbor_rules.proofs.ChunkSteps.{on_chunk}
use Rattle.cbor_rules.proofs.chunks.chunk.Goals as goal

pub returns-else-first-clause-walks : goal.returns-else-first-clause-walks
returns-else-first-clause-walks c = λ go.
    on_chunk (departure_from (under c.args.rules.now c.args.tags.now)) c.args.major c.args.sum c.in-Some.first.now c.args.bytes.now c.in-Some.rest.now go c.chunk_content.result
    c.in-Some.ensures.cases.0 c.if-first.false c.chunk_content.ensures.within (c.chunk_content.ensures.walks go)
