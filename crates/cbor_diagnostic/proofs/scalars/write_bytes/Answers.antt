use Rattle.std.proofs.Common.{refl}
use Rattle.std.proofs.lemmas.Result.{on_ok_weaker}
use Rattle.cbor_diagnostic.proofs.Printing.{one_call, last_call, wrote_then}
use Rattle.cbor_diagnostic.proofs.scalars.write_bytes.Goals as goal

pub returns : goal.returns
returns g c =
    on_ok_weaker c.write_str-2.result (λ h. wrote_then (one_call g.W.Write.write_str_gives _ _ _ (c.in_ok-write_str.ensures.ok refl)) (wrote_then c.in_ok-write_hex.ensures h))
    (last_call g.W.Write.write_str_gives _ _ _ c.write_str-2.result c.write_str-2.ensures.ok)
