use Rattle.std.proofs.Common.{Some, None, length, arith}
use Rattle.serde_cbor.proofs.facts.Values.{reading}
use Rattle.test_cbor.proofs.laws.read_twice.Goals as goal

pub returns : goal.returns
returns c =
    let bs = c.args.bytes.now in
    let one = c.from_slice-one in
    let other = c.from_slice_with_scratch-other in
    let room = Some (length c.args.scratch.now) in
    c.sources_agree.ensures None room bs one.result other.result (λ i. omega (arith, c.type_inv.bytes i)) (omega arith)
    (reading None bs one.result one.ensures.answers.found one.ensures.answers.first)
    (reading room bs other.result other.ensures.answers.found other.ensures.answers.first)
