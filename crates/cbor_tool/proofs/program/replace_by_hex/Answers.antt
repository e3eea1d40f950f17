use Rattle.std.proofs.Common.{◌≡◌, ◌∙◌, length, arith}
use Rattle.hex.specs.Hex.{encode_lower}
use Rattle.cbor_tool.proofs.Hexadecimal.{encode_lower-hex, take-front, when_ok}
use Rattle.cbor_tool.proofs.program.replace_by_hex.Goals as goal

pub returns-clause-ok : goal.returns-clause-ok
returns-clause-ok c =
    let same = encode_lower-hex c.args.bytes.now
    (λ i. let fits = c.type_inv.bytes i in omega arith) in
    let is = when_ok (c.encode_to_slice.new.output ≡ encode_lower c.args.bytes.now)
    c.encode_to_slice.result c.if-prove.ensures.value c.encode_to_slice.ensures.written in
    let long : length c.encode_to_slice.new.output ≡ c.resize.new.self.len =
    c.encode_to_slice.auto.output ∙ c.as_mut_slice.ensures.len in
    take-front _ _ _ _ long (is ∙ same)
