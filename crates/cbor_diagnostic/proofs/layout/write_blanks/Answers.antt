use Rattle.std.proofs.Common.{refl}
use Rattle.std.proofs.Output.{writes_in_calls_nil}
use Rattle.cbor_diagnostic.proofs.Printing.{one_call, wrote_then, same_text}
use Rattle.cbor_diagnostic.proofs.Layouts.{blanks_more}
use Rattle.cbor_diagnostic.proofs.layout.write_blanks.Goals as goal

pub loop-step-init : goal.loop-step-init
loop-step-init g c = writes_in_calls_nil g.W.Write.write_str_gives _

pub loop-step-preserved : goal.loop-step-preserved
loop-step-preserved g c =
    same_text (blanks_more c.loop-step.step) (wrote_then c.loop-step.invariant (one_call g.W.Write.write_str_gives _ _ _ (c.in_ok-write_str.ensures.ok refl)))
