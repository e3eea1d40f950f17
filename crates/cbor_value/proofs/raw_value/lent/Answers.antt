use Rattle.std.proofs.Common.{arith}
use Rattle.cbor_model.proofs.facts.Reader.{encoding_of}
use Rattle.cbor_value.proofs.raw_value.lent.Goals as goal

pub returns-clause-encodes : goal.returns-clause-encodes
returns-clause-encodes c = encoding_of c.args.bytes.now (λ i. omega (arith, c.type_inv.bytes i)) c.requires
