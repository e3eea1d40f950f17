use Rattle.std.proofs.Common.{inr}
use Rattle.cbor_model.specs.Refusal.{end_in_array}
use Rattle.cbor_serde_de.proofs.CountedDown.{counted_down}
use Rattle.cbor_serde_de.proofs.format.CborFormat.next_item.Goals as goal

pub returns-then-is_counted_down : goal.returns-then-is_counted_down
returns-then-is_counted_down c =
    inr (counted_down end_in_array c.args.self.now c.is_counted_down.new.self c.if-is_counted_down.ensures)
