use Rattle.cbor_model.proofs.laws.spelled_allows_none.Goals as goal
use Rattle.cbor_model.proofs.Proved as proved

pub returns : goal.returns
returns c = proved.spelled_allows_none
