use Rattle.cbor_model.proofs.laws.following_is_unread.Goals as goal
use Rattle.cbor_model.proofs.Proved as proved

pub returns : goal.returns
returns c = proved.following_is_unread
