use Rattle.std.proofs.Common.{length}
use Rattle.cbor_serde_de.proofs.outline.Outline.end_item.Given as goal

abbrev pub decreases-open : goal.decreases-open
decreases-open l = length l.self.open.items
