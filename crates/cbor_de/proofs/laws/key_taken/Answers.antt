use Rattle.cbor_decode_as.specs.Takes.{lending}
use Rattle.cbor_de.proofs.taken.PartTaken.{key_taken}
use Rattle.cbor_de.proofs.laws.key_taken.Goals as goal

pub returns : goal.returns
returns g c = λ refusals f l levels remaining behind s t bytes r reports fits taken.
    key_taken refusals f (g.K.Readable.reads (lending f l)) levels remaining behind s t bytes reports fits r taken
