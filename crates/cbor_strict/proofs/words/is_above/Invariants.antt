use Rattle.std.proofs.Common.{◌≡◌, ◌≤◌, ◌-◌, length, take}
use Rattle.cbor_strict.proofs.words.is_above.Given as goal

abbrev pub invariant-words : goal.invariant-words
invariant-words l = (l.at ≤ length l.key) × (take l.at l.before ≡ take l.at l.key)

abbrev pub decreases-words : goal.decreases-words
decreases-words l = length l.key - l.at
