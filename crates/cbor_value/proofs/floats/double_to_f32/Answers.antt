use Rattle.std.proofs.Common.{◌∙◌, ap, sym, subst, T}
use lib.Ieee.{Float, binary32, binary64, fits, to_bits}
use Rattle.cbor_value.proofs.Numbers.{held_rounded, same_bits}
use Rattle.cbor_value.proofs.floats.double_to_f32.Goals as goal

pub returns-then-f64_to_bits_with_nan : goal.returns-then-f64_to_bits_with_nan
returns-then-f64_to_bits_with_nan c =
    let x = c.f64_from_bits_with_nan-exact in
    let again = c.f32_to_f64_with_nan-again in
    sym again.ensures
    ∙ same_bits again.result x.result again.type_inv x.type_inv
    (sym c.f64_to_bits_with_nan.ensures ∙ c.if-f64_to_bits_with_nan.true
    ∙ c.f64_to_bits_with_nan-2.ensures)
    ∙ x.ensures

pub returns-else-f64_to_bits_with_nan : goal.returns-else-f64_to_bits_with_nan
returns-else-f64_to_bits_with_nan c = λ held.
    let x = c.f64_from_bits_with_nan-exact in
    let again = c.f32_to_f64_with_nan-again in
    let itself =
    held_rounded x.result (subst (λ (z : Float). T (fits binary32 z)) (sym x.ensures) held) in
    c.if-f64_to_bits_with_nan.false
    (c.f64_to_bits_with_nan.ensures
    ∙ ap (to_bits binary64)
    (again.ensures ∙ c.nearest_f64_to_f32_with_nan-nearest.ensures ∙ itself)
    ∙ sym c.f64_to_bits_with_nan-2.ensures)
