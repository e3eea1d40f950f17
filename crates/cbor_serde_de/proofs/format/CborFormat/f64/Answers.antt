use Rattle.std.proofs.Common.{IfOk, subst}
use Rattle.cbor_serde_de.specs.Given.{ReadsAs}
use Rattle.cbor_serde_de.specs.Numbers.{IsDouble}
use Rattle.cbor_serde_de.specs.declared.cbor.Cbor.{Cbor}
use Rattle.cbor_serde_de.proofs.Looks.{doubles}
use Rattle.cbor_serde_de.proofs.format.CborFormat.f64.Goals as goal

pub returns-in_default : goal.returns-in_default
returns-in_default c =
    let new = c.any_float.new.self in
    subst (λ (old : Cbor). IfOk c.any_float.result (λ x. ReadsAs IsDouble old x new)) c.in_ok-kind.ensures
    (doubles c.kind.new.self new c.any_float.result c.any_float.ensures)
