use Rattle.std.proofs.Common.{inl, subst}
use Rattle.cbor_decode_as.specs.Scalars.{IsFloatOf}
use Rattle.cbor_serde_de.specs.Given.{ReadsAs}
use Rattle.cbor_serde_de.specs.Numbers.{IsSingle}
use Rattle.cbor_serde_de.specs.declared.cbor.Cbor.{Cbor}
use Rattle.cbor_serde_de.proofs.Decoded.{reads_also}
use Rattle.cbor_serde_de.proofs.format.CborFormat.f32.Goals as goal

pub returns-in_ok-any_float-in_default : goal.returns-in_ok-any_float-in_default
returns-in_ok-any_float-in_default c =
    let new = c.any_float.new.self in
    let x = c.in_ok-any_float-in_default.field-0 in
    let y = c.nearest_f64_to_f32_with_nan.result in
    subst (λ (old : Cbor). ReadsAs IsSingle old y new) c.in_ok-kind.ensures
    (reads_also IsFloatOf IsSingle c.kind.new.self new x y (λ r is. inl (x, is, c.nearest_f64_to_f32_with_nan.ensures)) c.in_ok-any_float-in_default.ensures)
