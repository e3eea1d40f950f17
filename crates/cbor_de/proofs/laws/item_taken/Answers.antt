use Rattle.cbor_decode_as.specs.Takes.{lending}
use Rattle.cbor_de.proofs.taken.Taken.{item_taken}
use Rattle.cbor_de.proofs.laws.item_taken.Goals as goal

pub returns : goal.returns
returns g c = λ refusals f l levels s t bytes r reports fits taken.
    item_taken refusals f (g.T.Readable.reads (lending f l)) levels s t bytes reports fits r taken
