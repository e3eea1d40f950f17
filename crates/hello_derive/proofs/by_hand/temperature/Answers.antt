use Rattle.std.proofs.Common.{◌≡◌, ℕ, ap, subst, arith}
use Rattle.serde.specs.Event.{signed}
use Rattle.cbor_serde_de.specs.Whole.{Encodes}
use Rattle.hello_derive.proofs.by_hand.temperature.Goals as goal

pub returns : goal.returns
returns c =
    let temperature = signed c.in_ok-temperature.temperature.0 in
    let Within : ℕ → Type 0 = λ levels. Encodes levels c.args.bytes.now temperature in
    subst Within (ap (λ options. options.levels) c.new.ensures)
    (c.whole_item.ensures c.args.bytes.now c.new.result c.new-format.result c.next_temperature.new.format temperature
    (λ i. omega (arith, c.type_inv.bytes i)) (omega arith)
    c.new-format.ensures c.in_ok-temperature.ensures c.in_ok-end.ensures)
