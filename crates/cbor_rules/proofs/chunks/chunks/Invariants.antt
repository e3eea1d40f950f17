use Rattle.std.proofs.Common.{◌≡◌, ◌≤◌, ◌-◌, ◌+◌, length}
use Rattle.cbor_rules.specs.Rules.{under}
use Rattle.cbor_rules.specs.Walk.{chunks_walk, departure_from}
use Rattle.cbor_rules.specs.Walks.{last}
use Rattle.cbor_rules.proofs.chunks.chunks.Given as goal

-- It is what it is from the rest on, after chunks of as many bytes as were passed at the most.
abbrev pub invariant-loop-i : goal.invariant-loop-i
invariant-loop-i l =
    let sought = departure_from (under l.fn.rules l.fn.tags) in
    record {
      within : length l.rest ≤ length l.fn.bytes;
      is_last : l.rest ≡ last (length l.rest) l.fn.bytes;
      counted : l.sum + length l.rest ≤ length l.fn.bytes;
      so_far : chunks_walk sought l.fn.major l.fn.n 0 l.fn.bytes ≡ chunks_walk sought l.fn.major (l.fn.n - l._i) l.sum l.rest;
    }
