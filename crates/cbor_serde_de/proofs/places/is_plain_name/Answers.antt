use Rattle.std.proofs.Common.{arith}
use Rattle.std.proofs.lemmas.Grind.{common_steps}
use Rattle.cbor_serde_de.proofs.PlainNames.{stands_for, utf8_key}
use Rattle.cbor_serde_de.proofs.places.is_plain_name.Goals as goal

pub returns-then-is_plain-clause-named : goal.returns-then-is_plain-clause-named
returns-then-is_plain-clause-named c =
    let plain = c.is_plain.ensures (grind (arith, common_steps)) in
    stands_for c.args.name.now c.args.key.now c.as_bytes.result.now c.is_same.result plain.0 plain.1 plain.2 c.as_bytes.ensures.value c.is_same.ensures

pub returns-then-is_plain-clause-utf8 : goal.returns-then-is_plain-clause-utf8
returns-then-is_plain-clause-utf8 c = utf8_key c.as_bytes.result.now c.args.key.now c.is_same.result c.as_bytes.ensures.utf8 c.is_same.ensures
