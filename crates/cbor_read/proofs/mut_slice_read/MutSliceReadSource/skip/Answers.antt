use Rattle.std.proofs.Common.{arith}
use Rattle.cbor_read.proofs.Inputs.{skipped}
use Rattle.cbor_read.proofs.mut_slice_read.MutSliceReadSource.skip.Goals as goal

pub returns-clause-ok : goal.returns-clause-ok
returns-clause-ok c =
    skipped _ _ _ _ _ _ _ _ _ c.in_ok-end.ensures.ok.0 c.in_ok-end.ensures.ok.1
    (omega (arith, c.in_ok-end.ensures.ok.0))
