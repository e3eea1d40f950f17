use Rattle.cbor_read.proofs.Inputs.{skipped}
use Rattle.cbor_read.proofs.slice_read_fixed.SliceReadFixedSource.skip.Goals as goal

pub returns-clause-ok : goal.returns-clause-ok
returns-clause-ok c =
    skipped _ _ _ _ _ _ _ _ _ c.in_ok-end.ensures.ok.0 c.in_ok-end.ensures.ok.1
    c.in_ok-end.ensures.ok.0
