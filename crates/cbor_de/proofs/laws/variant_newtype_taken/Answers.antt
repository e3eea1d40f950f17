use Rattle.cbor_decode_as.specs.Takes.{lending}
use Rattle.cbor_de.proofs.taken.ContentTaken.{newtype_taken}
use Rattle.cbor_de.proofs.laws.variant_newtype_taken.Goals as goal

pub returns : goal.returns
returns g c = λ refusals f l levels form s t bytes r reports fits taken.
    newtype_taken refusals f (g.T.Readable.reads (lending f l)) levels s t bytes reports fits form r taken
