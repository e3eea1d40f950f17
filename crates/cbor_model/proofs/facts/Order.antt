-- Published: the order of values.

-- values that compare as equal are equal
pub use Rattle.cbor_model.proofs.order.Same.{exact_vals}
pub use Rattle.cbor_model.proofs.order.Pairs.{same_key}
-- less is passed on, and turned round is greater
pub use Rattle.cbor_model.proofs.order.Pairs.{Less-trans, Less-from_Greater, Greater-from_Less}
-- the major types decide, and only for one major type the bodies
pub use Rattle.cbor_model.proofs.order.Compared.{majors_differ, majors_same}
-- whatever follows two values' lists, the first difference within them decides
pub use Rattle.cbor_model.proofs.order.Compared.{flats_apart, then_assoc}
-- the codes of false and true are below null's, and those of floats above it
pub use Rattle.cbor_model.proofs.order.Same.{bool_code-lt, lt-float_code}
