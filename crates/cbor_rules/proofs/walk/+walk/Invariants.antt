use Rattle.std.proofs.Common.{◌≡◌, ◌≤◌, ◌-◌, ◌+◌, ◌*◌, ℕ, List, [], length}
use Rattle.cbor_rules.specs.PassedKeys.{HasPassed}
use Rattle.cbor_rules.specs.Rules.{under}
use Rattle.cbor_rules.specs.Walk.{all_walk, any_key, departure_from, open_walk, pairs_walk, walk}
use Rattle.cbor_rules.specs.Walks.{last}
use Rattle.cbor_rules.proofs.MetKeys.{GoesOn}
use Rattle.cbor_rules.proofs.walk.+walk.Given as goal

abbrev pub decreases-item : goal.decreases-item
decreases-item l = 8 * length l.bytes.now

abbrev pub decreases-items : goal.decreases-items
decreases-items l = 8 * length l.bytes.now + 1

abbrev pub decreases-open_items : goal.decreases-open_items
decreases-open_items l = 8 * length l.bytes.now + 1

abbrev pub decreases-pairs : goal.decreases-pairs
decreases-pairs l = 8 * length l.bytes.now + 1

abbrev pub decreases-inside : goal.decreases-inside
decreases-inside l = 8 * length l.bytes.now + 2

abbrev pub decreases-head : goal.decreases-head
decreases-head l = 8 * length l.bytes.now + 3

abbrev pub decreases-indefinite : goal.decreases-indefinite
decreases-indefinite l = 8 * length l.bytes.now + 3

abbrev pub decreases-content : goal.decreases-content
decreases-content l = 8 * length l.bytes.now + 4

-- Of going through the bytes for departures, and for keys: it is what it is from the rest on, or for
-- keys it departed.
abbrev pub invariant-items-loop-i : goal.invariant-items-loop-i
invariant-items-loop-i l =
    let sought = departure_from (under l.fn.rules l.fn.tags) in
    record {
      within : length l.rest ≤ length l.fn.bytes;
      is_last : l.rest ≡ last (length l.rest) l.fn.bytes;
      so_far : (fuel : ℕ) → length l.fn.bytes ≤ fuel → all_walk (walk sought fuel) l.fn.n l.fn.bytes ≡ all_walk (walk sought fuel) (l.fn.n - l._i) l.rest;
      keys : (fuel : ℕ) → length l.fn.bytes ≤ fuel → GoesOn (all_walk (walk any_key fuel) l.fn.n l.fn.bytes) (all_walk (walk any_key fuel) (l.fn.n - l._i) l.rest);
    }

abbrev pub invariant-open_items-loop-i : goal.invariant-open_items-loop-i
invariant-open_items-loop-i l =
    let sought = departure_from (under l.fn.rules l.fn.tags) in
    record {
      within : length l.rest ≤ length l.fn.bytes;
      is_last : l.rest ≡ last (length l.rest) l.fn.bytes;
      so_far : (fuel : ℕ) → length l.fn.bytes ≤ fuel → open_walk sought (walk sought fuel) l.fn.n 0 l.fn.bytes ≡ open_walk sought (walk sought fuel) (l.fn.n - l.i) l.i l.rest;
      keys : (fuel : ℕ) → length l.fn.bytes ≤ fuel → GoesOn (open_walk any_key (walk any_key fuel) l.fn.n 0 l.fn.bytes) (open_walk any_key (walk any_key fuel) (l.fn.n - l.i) l.i l.rest);
    }

abbrev pub invariant-pairs-loop-i : goal.invariant-pairs-loop-i
invariant-pairs-loop-i l =
    let sought = departure_from (under l.fn.rules l.fn.tags) in
    record {
      within : length l.rest ≤ length l.fn.bytes;
      is_last : l.rest ≡ last (length l.rest) l.fn.bytes;
      so_far : (earlier : List (List ℕ)) × (HasPassed l.fn.rules l.keys earlier × (length earlier ≡ l.i))
          × ((fuel : ℕ) → length l.fn.bytes ≤ fuel → pairs_walk sought (walk sought fuel) l.fn.is_open l.fn.n [] l.fn.bytes ≡ pairs_walk sought (walk sought fuel) l.fn.is_open (l.fn.n - l.i) earlier l.rest)
          × ((fuel : ℕ) → length l.fn.bytes ≤ fuel → GoesOn (pairs_walk any_key (walk any_key fuel) l.fn.is_open l.fn.n [] l.fn.bytes) (pairs_walk any_key (walk any_key fuel) l.fn.is_open (l.fn.n - l.i) earlier l.rest));
    }
