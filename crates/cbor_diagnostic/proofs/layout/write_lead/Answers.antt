use Rattle.std.proofs.lemmas.Result.{on_ok_weaker}
use Rattle.cbor_diagnostic.proofs.Printing.{wrote_then}
use Rattle.cbor_diagnostic.proofs.layout.write_lead.Goals as goal

pub returns : goal.returns
returns g c = on_ok_weaker c.start_line.result (λ h. wrote_then c.in_ok-write_comma.ensures h) c.start_line.ensures
