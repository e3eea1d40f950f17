use Rattle.std.proofs.Common.{ℕ, Ok, Option, Vec, subst}
use Rattle.std.specs.Global.{Global}
use Rattle.cbor_model.specs.Readable.{PassesTags}
use Rattle.cbor_decode_as.specs.Strings.{IsByteString, SeeksItem}
use Rattle.cbor_decode_as.specs.Takes.{formats_of}
use Rattle.cbor_decode_as.proofs.texts.StringContents.{step_refuses}
use Rattle.cbor_decode_as.proofs.byte_string.read_byte_string.Goals as goal

pub returns-in-Ok-None-clause-read : goal.returns-in-Ok-None-clause-read
returns-in-Ok-None-clause-read g c =
    let s = g.R.Source.source c.args.decoder.now.source in
    let u = c.bytes.new.decoder in
    let none = subst (λ (o : Option (Vec ℕ Global)). SeeksItem g.R.Source.refusals (formats_of c.args.decoder.now.formats) (PassesTags (λ r v. IsByteString r v.items)) c.args.decoder.now.levels s (g.R.Source.source u.source) u.refusal (Ok o)) c.in-Ok-None.field-0-is c.in-Ok-None.ensures.read in
    rw c.unnamed.ensures.source (step_refuses g.R.Source.refusals s (g.R.Source.source u.source) _ _ _ none)
