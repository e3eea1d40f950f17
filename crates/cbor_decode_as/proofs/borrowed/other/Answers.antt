use Rattle.cbor_decode_as.proofs.heads.PassedOver.{behind_stood}
use Rattle.cbor_decode_as.proofs.borrowed.other.Goals as goal

pub returns-in-Ok-clause-fault : goal.returns-in-Ok-clause-fault
returns-in-Ok-clause-fault g c =
    behind_stood g.R.Source.refusals c.args.found (g.R.Source.source c.args.decoder.now.source) (g.R.Source.source c.pass_over.new.decoder.source) c.in-Ok.ensures.read
