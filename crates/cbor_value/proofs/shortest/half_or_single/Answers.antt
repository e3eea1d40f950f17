use Rattle.std.proofs.Common.{◌≡◌, ◌∙◌, sym, ap, Option, rules}
use Rattle.std.specs.Prelude.{ℕ, T}
use lib.Ieee.{binary32, fits, of_bits}
use lib.Ieee.Bits.{of_bits-to_bits}
use Rattle.cbor_model.specs.Plain.{float}
use Rattle.cbor_model.specs.Raw.{single}
use Rattle.cbor_value.specs.declared.Float.TheVariants.{Half}
use Rattle.cbor_value.specs.Shortest.{half_of}
use Rattle.cbor_value.proofs.Halves.{half_is}
use Rattle.cbor_value.proofs.Narrowest.{in_half, in_single, none_between, nan_half, nan_found}
use Rattle.cbor_value.proofs.shortest.half_or_single.Goals as goal

-- ---- 16 bits hold it

found : (b b' : ℕ) (r o : Option ℕ) → b ≡ b' → r ≡ half_of b → r ≡ o → half_of b' ≡ o
found b b' r o same is some = ap half_of (sym same) ∙ sym is ∙ some

pub returns-in-Some-clause-shortest : goal.returns-in-Some-clause-shortest
returns-in-Some-clause-shortest c =
    let held : T (fits binary32 c.args.x) = search rules in
    in_half c.args.x c.in-Some.half held
    (found _ _ _ _ c.f32_to_bits_with_nan-bits.ensures c.half_of.ensures c.in-Some.is)

pub returns-in-Some-clause-number : goal.returns-in-Some-clause-number
returns-in-Some-clause-number c =
    let held : T (fits binary32 c.args.x) = search rules in
    half_is c.f32_to_bits_with_nan-bits.result c.in-Some.half
    (sym c.half_of.ensures ∙ c.in-Some.is)
    ∙ ap (of_bits binary32) c.f32_to_bits_with_nan-bits.ensures
    ∙ of_bits-to_bits binary32 c.args.x held

pub returns-in-Some-clause-not_a_number : goal.returns-in-Some-clause-not_a_number
returns-in-Some-clause-not_a_number c is =
    ap Half (sym (nan_half c.args.x c.in-Some.half is
    (found _ _ _ _ c.f32_to_bits_with_nan-bits.ensures c.half_of.ensures c.in-Some.is)))

-- ---- 32 bits alone do

pub returns-in-None-clause-shortest : goal.returns-in-None-clause-shortest
returns-in-None-clause-shortest c =
    let held : T (fits binary32 c.args.x) = search rules in
    ap (λ (b : ℕ). float single b) c.f32_to_bits_with_nan-bits.ensures
    ∙ in_single c.args.x held
    (found _ _ _ _ c.f32_to_bits_with_nan-bits.ensures c.half_of.ensures c.in-None.is)

pub returns-in-None-clause-number : goal.returns-in-None-clause-number
returns-in-None-clause-number c =
    let held : T (fits binary32 c.args.x) = search rules in
    ap (of_bits binary32) c.f32_to_bits_with_nan-bits.ensures
    ∙ of_bits-to_bits binary32 c.args.x held

pub returns-in-None-clause-narrowest : goal.returns-in-None-clause-narrowest
returns-in-None-clause-narrowest c other is =
    none_between c.args.x
    (found _ _ _ _ c.f32_to_bits_with_nan-bits.ensures c.half_of.ensures c.in-None.is) other is

pub returns-in-None-clause-not_a_number : goal.returns-in-None-clause-not_a_number
returns-in-None-clause-not_a_number c is =
    absurd (nan_found c.args.x is
    (found _ _ _ _ c.f32_to_bits_with_nan-bits.ensures c.half_of.ensures c.in-None.is))
