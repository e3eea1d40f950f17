use Rattle.std.proofs.lemmas.Result.{on_ok_weaker}
use Rattle.cbor_diagnostic.proofs.Printing.{one_call, same_text}
use Rattle.cbor_diagnostic.proofs.Characters.{control_text, plain_text}
use Rattle.cbor_diagnostic.proofs.scalars.write_other.Goals as goal

pub returns-then-is_control : goal.returns-then-is_control
returns-then-is_control g c =
    on_ok_weaker c.write_code.result (λ h. same_text (control_text c.args.c c.is_control.result c.is_control.ensures c.if-is_control.true) h) c.write_code.ensures

pub returns-else-is_control : goal.returns-else-is_control
returns-else-is_control g c =
    on_ok_weaker c.write_char.result (λ h. same_text (plain_text c.args.c c.is_control.result c.is_control.ensures c.if-is_control.false) (one_call g.W.Write.write_str_gives _ _ _ h)) c.write_char.ensures.writes
