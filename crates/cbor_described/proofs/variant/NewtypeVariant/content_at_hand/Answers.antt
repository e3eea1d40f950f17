use Rattle.cbor_decode_as.specs.Enums.{IsPart}
use Rattle.cbor_decode_as.specs.Takes.{context, formats_of}
use Rattle.cbor_decode_as.specs.declared.variant.Form.TheVariants.{Map}
use Rattle.cbor_decode_as.proofs.facts.Enums.{one_answer}
use Rattle.std.proofs.Common.{Ok}
use Rattle.cbor_described.proofs.OneOfs.{content_made}
use Rattle.cbor_described.proofs.variant.NewtypeVariant.content_at_hand.Goals as goal

pub returns-in-Some-clause-read : goal.returns-in-Some-clause-read
returns-in-Some-clause-read g c =
    let old = c.args.de.now.decoder in
    let f = formats_of old.formats in
    let reads = g.T.Readable.reads (context old.formats g.R.Source.lends) in
    let s = g.R.Source.source old.source in
    let t = g.R.Source.source c.at_hand.new.de.decoder.source in
    let part = c.in-Some.part in
    rw c.in-Map.is (content_made f old.levels Map g.R.Source.refusals s t (IsPart reads) (λ content y. IsPart reads content y.0) part (record { 0 = part }) (λ content h. h)
    (one_answer reads f old.levels s t g.R.Source.refusals (Ok part) c.in-Some.ensures.read))
