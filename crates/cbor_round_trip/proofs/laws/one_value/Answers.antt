use Rattle.cbor_round_trip.proofs.WrittenReadBack.{one_value}
use Rattle.cbor_round_trip.proofs.laws.one_value.Goals as goal

pub returns : goal.returns
returns g c = one_value g.T.Serialize.document g.T.Readable.reads g.T.RoundTrip.law.fits g.T.RoundTrip.law.determined g.met.T.RoundTrip.back g.met.T.DeserializeOwned.same
