-- Published: bytes of an item that are taken one by one.

-- of the source the bytes were taken that came before, and the one that came behind them
pub use Rattle.cbor_raw.proofs.Gathering.{took_more}
