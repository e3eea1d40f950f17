use Rattle.std.proofs.Common.{subst}
use Rattle.cbor_round_trip.specs.Undecoded.{IsEncoded}
use Rattle.cbor_round_trip.proofs.fits.undecoded_items_fit.Goals as goal

pub returns : goal.returns
returns c = subst IsEncoded c.as_bytes.ensures.bytes c.as_bytes.ensures.encodes
