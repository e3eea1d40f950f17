use Rattle.cbor_decode_as.specs.Takes.{lending}
use Rattle.cbor_de.proofs.inputs.StreamAnswers as proved
use Rattle.cbor_de.proofs.stream_laws.stream_answers.Goals as goal

pub returns : goal.returns
returns g c = λ l. proved.stream_answers (λ f. g.T.Readable.reads (lending f l)) g.T.Readable.total
