use Rattle.std.proofs.Common.{◌-◌, arith}
use Rattle.std.specs.Prelude.{slice_index}
use Rattle.cbor_serde_de.proofs.ShortTexts.{begins}
use Rattle.cbor_serde_de.proofs.cbor.short_text.Goals as goal

pub returns : goal.returns
returns c =
    let ahead = c.args.ahead.now in
    begins (slice_index ahead 0 - 0x60) ahead (omega arith) (omega arith) (omega arith) (λ i. omega (arith, c.type_inv.ahead i))
