use Rattle.std.proofs.Common.{arith}
use Rattle.cbor_de.proofs.from.are_bytes.Goals as goal

pub returns-clause-bytes : goal.returns-clause-bytes
returns-clause-bytes c = λ i. omega (arith, c.type_inv.slice i)
