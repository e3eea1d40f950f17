pub mod Item
pub use Rattle.cbor_serde_de.specs.Whole
