use Rattle.cbor_round_trip.proofs.WrittenReadBack.{written}
use Rattle.cbor_round_trip.proofs.laws.written_reads_back_as.Goals as goal

pub returns : goal.returns
returns g c = written g.T.Serialize.document g.T.Readable.reads g.T.RoundTrip.law.fits g.T.RoundTrip.law.determined g.met.T.RoundTrip.back
