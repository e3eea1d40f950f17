use Rattle.std.proofs.Common.{◌+◌, ◌*◌}
use Rattle.cbor_decode_as.proofs.head.+tagged_head.Given as goal

abbrev pub decreases-tagged_head : goal.decreases-tagged_head
decreases-tagged_head g l = 2 * l.decoder.now.levels + 1

abbrev pub decreases-tagged_head_inside : goal.decreases-tagged_head_inside
decreases-tagged_head_inside g l = 2 * l.decoder.now.levels
