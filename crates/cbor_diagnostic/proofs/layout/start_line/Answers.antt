use Rattle.std.proofs.Common.{refl}
use Rattle.std.proofs.lemmas.Result.{on_ok_weaker}
use Rattle.cbor_diagnostic.proofs.Printing.{one_call, wrote_then}
use Rattle.cbor_diagnostic.proofs.layout.start_line.Goals as goal

pub returns-in_ok-write_str-in-Some : goal.returns-in_ok-write_str-in-Some
returns-in_ok-write_str-in-Some g c =
    rw c.in-Some.is (on_ok_weaker c.write_blanks.result (λ h. wrote_then (one_call g.W.Write.write_str_gives _ _ _ (c.in_ok-write_str-in-Some.ensures.ok refl)) h) c.write_blanks.ensures)
