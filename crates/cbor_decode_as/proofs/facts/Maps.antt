-- Published: maps, of which one pair is read after the other.

-- what was read so far of its pairs
pub use Rattle.cbor_decode_as.proofs.maps.PairsRead.{Made, NoKey, PairMayFollow, PairsDone}
pub use Rattle.cbor_decode_as.proofs.maps.PairsRead.{PairsSoFar, another, append_pairs, first_pair}
pub use Rattle.cbor_decode_as.proofs.maps.PairsRead.{last, made_all, made_more, may_follow_made}
pub use Rattle.cbor_decode_as.proofs.maps.PairsRead.{no_key_rest, no_value_rest, none_made}
pub use Rattle.cbor_decode_as.proofs.maps.PairsRead.{pairs_begin, pairs_end, pairs_go_on, pairs_rest}
-- a next key that may not begin as it does stops the map
pub use Rattle.cbor_decode_as.proofs.maps.BadKeys.{map_stops}
-- the next key
pub use Rattle.cbor_decode_as.proofs.maps.NextKeys.{key_asks, key_next, key_refused, none_is_key}
pub use Rattle.cbor_decode_as.proofs.maps.NextKeys.{there}
