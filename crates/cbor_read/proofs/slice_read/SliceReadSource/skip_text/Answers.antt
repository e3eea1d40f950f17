use Rattle.std.proofs.Common.{arith}
use Rattle.std.proofs.lemmas.Grind.{common_steps}
use Rattle.cbor_read.proofs.Inputs.{skipped_text}
use Rattle.cbor_read.proofs.slice_read.SliceReadSource.skip_text.Goals as goal

pub returns-clause-ok : goal.returns-clause-ok
returns-clause-ok c =
    skipped_text _ _ _ _ _ _ _ _ _ _ c.in_ok-end.ensures.ok.0 c.in_ok-end.ensures.ok.1
    c.in_ok-end.ensures.ok.0
    (grind (arith, common_steps))
