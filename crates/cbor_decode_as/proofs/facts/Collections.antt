-- Of arrays and maps alike: what is read behind their heads.
pub use Rattle.cbor_decode_as.proofs.collections.Heads.{held_is, held_none, held_read, none_as_one, other_none}
