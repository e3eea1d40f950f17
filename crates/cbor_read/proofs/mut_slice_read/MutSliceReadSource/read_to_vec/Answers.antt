use Rattle.std.proofs.Common.{arith}
use Rattle.std.proofs.lemmas.Grind.{common_steps}
use Rattle.cbor_read.proofs.Inputs.{behind}
use Rattle.cbor_read.proofs.mut_slice_read.MutSliceReadSource.read_to_vec.Goals as goal

pub returns-clause-ok : goal.returns-clause-ok
returns-clause-ok c =
    behind _ _ _ _ _ _ _ _ _ c.in_ok-end.ensures.ok.0 c.in_ok-end.ensures.ok.1
    (grind (arith, common_steps))
