use Rattle.std.proofs.Common.{rules, ◌≡◌, ◌∙◌, true, T, MatchOption, ap, subst}
use Rattle.std.proofs.lemmas.Float.{T_from_true}
use Rattle.std.specs.Float.{binary32, binary64}
use Rattle.std.specs.Float.Ieee as ieee
use Rattle.std.specs.Float.Ieee.{fits}
use lib.Ieee.Bits.{of_bits-to_bits}
use Rattle.cbor_value.specs.Floats.{number_of}
use Rattle.cbor_decode_as.proofs.exact.narrow.Goals as goal

pub returns : goal.returns
returns c =
    let x = c.args.x in
    let held : fits binary64 x ≡ true = search rules in
    let same =
    ap number_of c.from.ensures
    ∙ of_bits-to_bits binary64 x (T_from_true (fits binary64 x) held) in
    subst
    (λ (z : ieee.Float). MatchOption c.to_f32.result (T (fits binary32 z) → ⊥) (λ y. y ≡ z)) same
    c.to_f32.ensures
