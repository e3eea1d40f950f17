use Rattle.cbor_decode.specs.Heads.{end_of}
use Rattle.cbor_decode.proofs.Ended.{count_ends, count_stops}
use Rattle.cbor_decode.proofs.Decoder.end_of.Goals as goal

pub returns-in-Counted-eq0-clause-read : goal.returns-in-Counted-eq0-clause-read
returns-in-Counted-eq0-clause-read g c =
    count_ends (g.R.Source.source c.args.self.now.source) (end_of c.args.of) c.args.remaining c.in-Counted-eq0.field-0 c.in-Counted-eq0.is (search (c.in-Counted-eq0.field-0-test, c.in-Counted-eq0.field-0-is))

pub returns-in-Counted-clause-read : goal.returns-in-Counted-clause-read
returns-in-Counted-clause-read g c =
    rw c.refuse.ensures.source (count_stops g.R.Source.refusals (g.R.Source.source c.args.self.now.source) (end_of c.args.of) c.args.remaining c.in-Counted.field-0 _ _ c.in-Counted.is (λ none. c.in-Counted.field-0-test.1 (search (none, c.in-Counted.field-0-is))) c.refuse.ensures.refused c.refuse.ensures.kept)
