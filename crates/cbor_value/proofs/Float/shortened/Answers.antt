use Rattle.std.proofs.Common.{◌∙◌, sym, ap, subst}
use Rattle.std.proofs.lemmas.Float.{T_from_true}
use Rattle.std.specs.Prelude.{T, ℕ}
use lib.Ieee.{Float, binary32, binary64, fits, of_bits, to_bits}
use lib.Ieee.Bits.{of_bits-to_bits}
use lib.Ieee.Fits.{nan-fits}
use Rattle.cbor_model.specs.Plain.{float}
use Rattle.cbor_model.specs.Raw.{double}
use Rattle.cbor_value.specs.Floats.{number_of}
use Rattle.cbor_value.proofs.Narrowest.{in_double, none_above}
use Rattle.cbor_value.proofs.Float.shortened.Goals as goal

pub returns-in-None-clause-shortest : goal.returns-in-None-clause-shortest
returns-in-None-clause-shortest c =
    ap (λ (b : ℕ). float double b)
    (c.f64_to_bits_with_nan.ensures ∙ ap (to_bits binary64) c.to_f64.ensures)
    ∙ in_double (number_of c.args.self) c.in-None.ensures

pub returns-in-None-clause-number : goal.returns-in-None-clause-number
returns-in-None-clause-number c =
    let held = T_from_true (fits binary64 c.to_f64.result) c.to_f64.type_inv in
    ap (of_bits binary64) c.f64_to_bits_with_nan.ensures
    ∙ of_bits-to_bits binary64 c.to_f64.result held
    ∙ c.to_f64.ensures

pub returns-in-None-clause-narrowest : goal.returns-in-None-clause-narrowest
returns-in-None-clause-narrowest c other is =
    none_above (number_of c.args.self) c.in-None.ensures other is

pub returns-in-None-clause-not_a_number : goal.returns-in-None-clause-not_a_number
returns-in-None-clause-not_a_number c is =
    absurd (c.in-None.ensures
    (subst (λ (x : Float). T (fits binary32 x)) (sym is) (nan-fits binary32)))
