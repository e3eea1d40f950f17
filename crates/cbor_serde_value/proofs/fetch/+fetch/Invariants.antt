use Rattle.std.proofs.Common.{◌+◌, ◌*◌}
use Rattle.cbor_serde_value.proofs.fetch.+fetch.Given as goal

abbrev pub decreases-fetch : goal.decreases-fetch
decreases-fetch g l = 2 * l.depth

abbrev pub decreases-fetch_items : goal.decreases-fetch_items
decreases-fetch_items g l = 2 * l.depth + 1

abbrev pub decreases-fetch_map : goal.decreases-fetch_map
decreases-fetch_map g l = 2 * l.depth + 1
