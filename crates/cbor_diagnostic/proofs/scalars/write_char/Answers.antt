use Rattle.std.proofs.lemmas.Result.{on_ok_weaker}
use Rattle.cbor_diagnostic.proofs.Printing.{same_text}
use Rattle.cbor_diagnostic.proofs.Characters.{by_letter}
use Rattle.cbor_diagnostic.proofs.scalars.write_char.Goals as goal

pub returns-in-Some : goal.returns-in-Some
returns-in-Some g c = on_ok_weaker c.write_short_escape.result (λ h. same_text (by_letter c.args.c _ c.in-Some.ensures) h) c.write_short_escape.ensures

pub returns-in-None : goal.returns-in-None
returns-in-None g c = on_ok_weaker c.write_other.result (λ h. same_text (by_letter c.args.c _ c.in-None.ensures) h) c.write_other.ensures
