use Rattle.std.proofs.Common.{ℕ, Some, arith, ap}
use Rattle.std.proofs.lemmas.Grind.{common_steps}
use Rattle.std.proofs.lemmas.Slice.{take-put_mid}
use Rattle.cbor_read.proofs.Inputs.{appended}
use Rattle.cbor_read.proofs.slice_read_fixed.SliceReadFixedSource.read_to_buffer.Goals as goal

pub returns-clause-ok : goal.returns-clause-ok
returns-clause-ok c =
    appended _ _ _ _ _ _ _ _ c.in_ok-end.ensures.ok.0 c.in_ok-end.ensures.ok.1
    (grind (arith, common_steps, take-put_mid {X = ℕ})) (ap Some (grind (arith, common_steps)))
