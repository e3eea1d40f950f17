use Rattle.std.specs.String.{string_bytes}
use Rattle.cbor_model.specs.Readable.{IsText, PassesTags}
use Rattle.cbor_decode_as.proofs.refused.Gathered.{hand_gathered, some_gathered}
use Rattle.cbor_decode_as.proofs.string.gathered_text.Goals as goal

pub returns-clause-read : goal.returns-clause-read
returns-clause-read g c =
    let old = c.args.decoder.now in
    let mid = c.gather_text.new.self in
    hand_gathered g.R.Source.source g.R.Source.refusals (λ f. PassesTags (λ r s. IsText r (string_bytes s))) old mid c.text_at_hand.new.decoder c.gather_text.ensures.settings c.gather_text.ensures.stays c.text_at_hand.result c.text_at_hand.ensures.read

pub returns-clause-taken : goal.returns-clause-taken
returns-clause-taken g c =
    some_gathered _ _ c.gather_text.ensures.stays _ c.text_at_hand.result c.text_at_hand.ensures.taken
