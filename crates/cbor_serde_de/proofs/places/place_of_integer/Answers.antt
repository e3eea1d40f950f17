use Rattle.std.proofs.Common.{◌∙◌, ap}
use Rattle.std.proofs.lemmas.Int.{to_z-of_z}
use Rattle.std.specs.Fmt.{signed_decimal}
use Rattle.std.specs.Int.{w128}
use Rattle.cbor_serde_de.proofs.Numbered.{by_decimal}
use Rattle.cbor_serde_de.proofs.places.place_of_integer.Goals as goal

pub returns-then-integer_keys : goal.returns-then-integer_keys
returns-then-integer_keys c =
    let found = c.find.ensures in
    let same = ap signed_decimal (to_z-of_z w128 c.args.n c.ranges.n) in
    by_decimal c.args.integer_keys c.args.names.now c.args.n c.as_str.result.now c.find.result c.if-integer_keys.true (c.as_str.ensures.value ∙ c.in_ok-text.ensures.ok ∙ same) (found.found, found.first, found.range)
