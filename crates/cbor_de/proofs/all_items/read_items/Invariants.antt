use Rattle.std.proofs.Common.{◌≡◌, map, Ok}
use Rattle.cbor_de.proofs.all_items.read_items.Given as goal

abbrev pub invariant-loop-answer : goal.invariant-loop-answer
invariant-loop-answer g l = l.yielded ≡ map Ok l.items.items
