use Rattle.cbor_de.proofs.laws.owned_agree.Goals as goal
use Rattle.cbor_de.proofs.refusals.Alike as alike

pub returns : goal.returns
returns g c = alike.owned_agree g.T.Readable.reads g.met.T.DeserializeOwned.same
