use Rattle.std.proofs.lemmas.Result.{on_ok_weaker}
use Rattle.cbor_diagnostic.proofs.Printing.{last_call, wrote_then}
use Rattle.cbor_diagnostic.proofs.layout.close.Goals as goal

pub returns : goal.returns
returns g c =
    on_ok_weaker c.write_str.result (λ h. wrote_then c.in_ok-end_items.ensures h)
    (last_call g.W.Write.write_str_gives _ _ _ c.write_str.result c.write_str.ensures.ok)
