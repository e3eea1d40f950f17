use Rattle.std.proofs.Common.{ℕ, List, [], ◌∷◌, ap, ◌∙◌}
use Rattle.std.proofs.lemmas.Result.{on_ok_weaker}
use Rattle.std.proofs.lemmas.Str.{encode_ascii}
use Rattle.cbor_diagnostic.proofs.Printing.{one_call, wrote_then, same_text}
use Rattle.cbor_diagnostic.proofs.scalars.write_byte.Goals as goal

pub returns : goal.returns
returns g c =
    on_ok_weaker c.write_char-2.result
    (λ h. wrote_then
    (same_text (encode_ascii _ c.hex_digit.ensures.ascii ∙ ap (λ (d : ℕ). d ∷ []) c.hex_digit.ensures.value) (one_call g.W.Write.write_str_gives _ _ _ c.in_ok-write_char.ensures.writes))
    (same_text (encode_ascii _ c.hex_digit-2.ensures.ascii ∙ ap (λ (d : ℕ). d ∷ []) c.hex_digit-2.ensures.value) (one_call g.W.Write.write_str_gives _ _ _ h)))
    c.write_char-2.ensures.writes
