use Rattle.std.proofs.Common.{◌≡◌, ◌∙◌, sym, ap, rules}
use Rattle.std.specs.Prelude.{T}
use lib.Ieee.{Float as Number, binary64, fits, to_bits}
use lib.Ieee.Bits.{of_bits-to_bits}
use Rattle.cbor_value.specs.declared.Float.{Float}
use Rattle.cbor_value.specs.declared.Float.TheVariants.{Double}
use Rattle.cbor_value.specs.Floats.{number_of}
use Rattle.cbor_value.specs.Shortest.{shortest}
use Rattle.cbor_value.proofs.Float.shortest.Goals as goal

-- the float of 64 bits is the number
same : (float : Float) (x : Number) → T (fits binary64 x) → float ≡ Double (to_bits binary64 x)
    → number_of float ≡ x
same float x held is = ap number_of is ∙ of_bits-to_bits binary64 x held

pub returns-clause-shortest : goal.returns-clause-shortest
returns-clause-shortest c =
    let held : T (fits binary64 c.args.x) = search rules in
    c.shortened.ensures.shortest ∙ ap shortest (same _ _ held c.from.ensures)

pub returns-clause-number : goal.returns-clause-number
returns-clause-number c =
    let held : T (fits binary64 c.args.x) = search rules in
    c.shortened.ensures.number ∙ same _ _ held c.from.ensures

pub returns-clause-narrowest : goal.returns-clause-narrowest
returns-clause-narrowest c other is =
    let held : T (fits binary64 c.args.x) = search rules in
    c.shortened.ensures.narrowest other (is ∙ sym (same _ _ held c.from.ensures))

pub returns-clause-not_a_number : goal.returns-clause-not_a_number
returns-clause-not_a_number c is =
    let held : T (fits binary64 c.args.x) = search rules in
    c.shortened.ensures.not_a_number (same _ _ held c.from.ensures ∙ is)
