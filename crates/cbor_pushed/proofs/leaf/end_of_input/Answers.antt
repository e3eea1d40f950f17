use Rattle.std.proofs.Common.{arith}
use Rattle.cbor_pushed.proofs.ScanSteps.{stands_there}
use Rattle.cbor_pushed.proofs.FoundByDefinitions.{first_told}
use Rattle.cbor_pushed.proofs.leaf.end_of_input.Goals as goal

pub unreachable-requires : goal.unreachable-requires
unreachable-requires c =
    let bytes = c.args.bytes.now in
    let there = stands_there c.args.levels _ bytes _ (λ i. omega (arith, c.type_inv.bytes i)) c.in-Ok.ensures.2 in
    c.requires there.0 _ there.1

pub returns : goal.returns
returns c =
    first_told c.args.levels c.args.bytes.now (λ i. omega (arith, c.type_inv.bytes i)) (omega arith) c.in-Err.error c.in-Err.ensures
