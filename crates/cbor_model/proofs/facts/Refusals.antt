-- Published: the first refusal that bytes allow.

-- what the reference reader refuses, of a whole input and of an item of one
pub use Rattle.cbor_model.proofs.refusals.FirstRefusal.{refused_at, refused_first}
-- where it reads, none is allowed
pub use Rattle.cbor_model.proofs.refusals.FirstRefusal.{spelled_allows_none}
-- with a scratch it is that the scratch is too small, or the same as without one
pub use Rattle.cbor_model.proofs.refusals.FirstRefusal.{same_first}
-- there is one, where no item is spelled
pub use Rattle.cbor_model.proofs.refusals.FirstRefusal.{one_first}
