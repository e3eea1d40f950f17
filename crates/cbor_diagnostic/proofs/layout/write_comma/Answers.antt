use Rattle.std.proofs.lemmas.Result.{on_ok_weaker}
use Rattle.cbor_diagnostic.proofs.Printing.{last_call, same_text}
use Rattle.cbor_diagnostic.proofs.Layouts.{comma_on_one_line, comma_over_lines}
use Rattle.cbor_diagnostic.proofs.layout.write_comma.Goals as goal

pub returns-in-None : goal.returns-in-None
returns-in-None g c =
    on_ok_weaker c.write_str.result (λ h. same_text (comma_on_one_line _ _ c.if-is_first.false c.in-None.is) h)
    (last_call g.W.Write.write_str_gives _ _ _ c.write_str.result c.write_str.ensures.ok)

pub returns-in-Some : goal.returns-in-Some
returns-in-Some g c =
    on_ok_weaker c.write_str-in-Some.result (λ h. same_text (comma_over_lines _ _ _ c.if-is_first.false c.in-Some.is) h)
    (last_call g.W.Write.write_str_gives _ _ _ c.write_str-in-Some.result c.write_str-in-Some.ensures.ok)
