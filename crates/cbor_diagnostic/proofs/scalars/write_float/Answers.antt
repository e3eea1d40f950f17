use Rattle.std.proofs.Common.{true, false, sym, ◌∙◌, codes}
use Rattle.cbor_diagnostic.specs.Numerals.{IsFloatNotation, IsNumeralOf}
use Rattle.cbor_diagnostic.proofs.Printing.{last_call, prints_text, prints_also}
use Rattle.cbor_diagnostic.proofs.Numerals.{numeral_is, nan_is, infinity_is}
use Rattle.cbor_diagnostic.proofs.scalars.write_float.Goals as goal

pub returns-then-is_finite : goal.returns-then-is_finite
returns-then-is_finite g c =
    prints_also g.W.Write.write_str_gives _ _ (IsNumeralOf c.args.x) (IsFloatNotation c.args.x) c.write_finite.result
    (λ text is. numeral_is c.args.x text (sym c.is_finite.ensures.value ∙ c.if-is_finite.true) is) c.write_finite.ensures

pub returns-then-is_nan : goal.returns-then-is_nan
returns-then-is_nan g c =
    prints_text g.W.Write.write_str_gives _ _ (IsFloatNotation c.args.x) (codes "NaN") c.write_str.result (nan_is c.args.x (sym c.is_nan.ensures.value ∙ c.if-is_nan.true))
    (last_call g.W.Write.write_str_gives _ _ _ c.write_str.result c.write_str.ensures.ok)

pub returns-then-is_sign_negative : goal.returns-then-is_sign_negative
returns-then-is_sign_negative g c =
    prints_text g.W.Write.write_str_gives _ _ (IsFloatNotation c.args.x) (codes "-Infinity") c.write_str-then-is_sign_negative.result
    (infinity_is c.args.x true (sym c.is_finite.ensures.value ∙ c.if-is_finite.false) (sym c.is_nan.ensures.value ∙ c.if-is_nan.false) (sym c.is_sign_negative.ensures ∙ c.if-is_sign_negative.true))
    (last_call g.W.Write.write_str_gives _ _ _ c.write_str-then-is_sign_negative.result c.write_str-then-is_sign_negative.ensures.ok)

pub returns-else-is_sign_negative : goal.returns-else-is_sign_negative
returns-else-is_sign_negative g c =
    prints_text g.W.Write.write_str_gives _ _ (IsFloatNotation c.args.x) (codes "Infinity") c.write_str-else-is_sign_negative.result
    (infinity_is c.args.x false (sym c.is_finite.ensures.value ∙ c.if-is_finite.false) (sym c.is_nan.ensures.value ∙ c.if-is_nan.false) (sym c.is_sign_negative.ensures ∙ c.if-is_sign_negative.false))
    (last_call g.W.Write.write_str_gives _ _ _ c.write_str-else-is_sign_negative.result c.write_str-else-is_sign_negative.ensures.ok)
