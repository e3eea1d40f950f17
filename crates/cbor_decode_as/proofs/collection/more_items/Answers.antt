use Rattle.cbor_model.specs.Refusal.{end_in_array}
use Rattle.cbor_model.specs.Reader.{next_at}
use Rattle.cbor_decode.specs.Heads.{remaining_of}
use Rattle.cbor_decode_as.proofs.numbers.Scalars.{reported_why}
use Rattle.cbor_decode_as.proofs.collection.more_items.Goals as goal

pub returns-in-Err-clause-fault : goal.returns-in-Err-clause-fault
returns-in-Err-clause-fault g c =
    reported_why g.R.Source.refusals (λ l. next_at end_in_array (remaining_of c.args.remaining.now)) (g.R.Source.source c.args.decoder.now.source) c.more.new.self.refusal c.in-Err.refused c.error.result c.error.ensures.reports c.in-Err.ensures.read.reported
