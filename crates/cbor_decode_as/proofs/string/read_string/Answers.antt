use Rattle.std.specs.String.{string_bytes}
use Rattle.cbor_model.specs.Readable.{IsText, PassesTags}
use Rattle.cbor_decode_as.proofs.refused.Gathered.{ok_gathered, read_gathered, whole_err_gathered}
use Rattle.cbor_decode_as.proofs.string.read_string.Goals as goal

pub returns-in-None-clause-read : goal.returns-in-None-clause-read
returns-in-None-clause-read g c =
    let old = c.args.decoder.now in
    let mid = c.gathered_text.new.decoder in
    let same = c.in-None.ensures.settings in
    read_gathered _ _ c.in-None.ensures.read old.formats mid.formats same.formats g.R.Source.refusals (λ f. PassesTags (λ r s. IsText r (string_bytes s))) old.levels mid.levels same.levels _ c.read_text_or_bytes.result c.read_text_or_bytes.ensures.read

pub returns-in-None-clause-taken : goal.returns-in-None-clause-taken
returns-in-None-clause-taken g c = ok_gathered _ _ c.in-None.ensures.read _ c.read_text_or_bytes.result c.read_text_or_bytes.ensures.taken

pub returns-in-None-clause-fault : goal.returns-in-None-clause-fault
returns-in-None-clause-fault g c =
    whole_err_gathered _ _ c.in-None.ensures.read g.R.Source.refusals c.args.decoder.now.levels c.gathered_text.new.decoder.levels c.in-None.ensures.settings.levels c.read_text_or_bytes.result c.read_text_or_bytes.ensures.fault
