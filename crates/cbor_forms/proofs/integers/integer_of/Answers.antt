use Rattle.std.proofs.Common.{◌≡◌, ◌∙◌, ◌^◌, sym, ap, leb}
use Rattle.std.proofs.lemmas.Float.{T_from_true}
use Rattle.std.specs.Prelude.{ℕ, T}
use lib.Ieee.{Float, binary64, fits, of_bits, to_bits}
use lib.Ieee.Bits.{of_bits-to_bits}
use Rattle.cbor_forms.specs.Reduced.{integer_of}
use Rattle.cbor_forms.specs.WholeOfBits.{with_sign}
use Rattle.cbor_forms.proofs.WholeOfBits.{whole_is}
use Rattle.cbor_forms.proofs.integers.integer_of.Goals as goal

number : (x y : Float) (bits : ℕ) → T (fits binary64 x) → bits ≡ to_bits binary64 x → x ≡ y
    → of_bits binary64 bits ≡ y
number x y bits held is same = ap (of_bits binary64) is ∙ of_bits-to_bits binary64 x held ∙ same

pub returns-in-Some : goal.returns-in-Some
returns-in-Some c =
    let bits = c.f64_to_bits_with_nan-bits.result in
    c.signed.ensures
    ∙ ap (with_sign (leb (2 ^ 63) bits)) (sym c.in-Some.is ∙ c.whole_of.ensures.value)
    ∙ sym (whole_is bits)
    ∙ ap integer_of (number c.to_f64.result _ bits
    (T_from_true (fits binary64 c.to_f64.result) c.to_f64.type_inv)
    c.f64_to_bits_with_nan-bits.ensures c.to_f64.ensures)

pub returns-in-None : goal.returns-in-None
returns-in-None c =
    let bits = c.f64_to_bits_with_nan-bits.result in
    ap (with_sign (leb (2 ^ 63) bits)) (sym c.in-None.is ∙ c.whole_of.ensures.value)
    ∙ sym (whole_is bits)
    ∙ ap integer_of (number c.to_f64.result _ bits
    (T_from_true (fits binary64 c.to_f64.result) c.to_f64.type_inv)
    c.f64_to_bits_with_nan-bits.ensures c.to_f64.ensures)
