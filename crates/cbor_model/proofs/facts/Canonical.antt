-- Published: canonical items.

-- they have as many items and pairs as the value
pub use Rattle.cbor_model.proofs.values.Counts.{count_canonical, pair_count_canonical}
