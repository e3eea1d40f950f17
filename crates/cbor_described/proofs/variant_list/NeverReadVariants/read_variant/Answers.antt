use Rattle.std.proofs.Common.{Some, codes}
use Rattle.cbor_decode_as.specs.Contents.{any_content}
use Rattle.cbor_de.proofs.facts.Faults.{said_if_any}
use Rattle.cbor_described.proofs.variant_list.NeverReadVariants.read_variant.Goals as goal

pub returns-clause-fault : goal.returns-clause-fault
returns-clause-fault g c =
    let old = c.args.de.now.decoder in
    said_if_any g.R.Source.refusals (g.R.Source.source old.source) c.message.result (any_content old.levels c.args._form) (Some (codes "unknown variant")) c.message.ensures.code c.message.ensures.offset

pub returns-clause-memory : goal.returns-clause-memory
returns-clause-memory g c out bs reports x rest got = absurd got.meaning
