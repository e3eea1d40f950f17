use Rattle.cbor_model.specs.Formats.{all_formats}
use Rattle.cbor_decode.specs.Gives.{ReportsIo, values}
use Rattle.cbor_decode.proofs.facts.FirstRefusal.{item_first}
use Rattle.cbor_model.specs.Reader.{item_at}
use Rattle.cbor_decode_as.specs.Takes.{ReportsFault}
use Rattle.cbor_de.proofs.refusals.Faults.{where_map}
use Rattle.cbor_de.proofs.laws.item_refused_first.Goals as goal

pub returns : goal.returns
returns g c = λ refusals levels s bytes e reports fits reported.
    where_map g.T.Readable.total
    (λ (fault : ReportsFault refusals (λ l. item_at (values all_formats l) levels) s e).
    item_first levels s bytes fits e (ReportsIo refusals) (fault bytes reports)) reported
