use Rattle.std.proofs.Common.{ℕ, List, Option, refl}
use Rattle.cbor_model.specs.Reader.{Reads}
use Rattle.cbor_decode.specs.Gives.{Limits}
use Rattle.cbor_decode.specs.declared.refusal.Refused.TheVariants.{Kept}
use Rattle.cbor_decode_as.specs.Tags.{tag_head_at}
use Rattle.cbor_decode_as.proofs.facts.Refusals.{reported_by}
use Rattle.cbor_decode.proofs.facts.Steps.{source_stops, byte_refused}
use Rattle.cbor_convert.proofs.PeekedTags.{none_at_end, read_peeked, tag_peeked}
use Rattle.cbor_convert.proofs.outermost.outermost.Goals as goal

pub returns-in-Ok-Some-clause-item : goal.returns-in-Ok-Some-clause-item
returns-in-Ok-Some-clause-item g c =
    let old = c.args.de.now.decoder in
    let mid = c.peek.new.de.decoder in
    tag_peeked (g.R.Source.source old.source) (g.R.Source.source mid.source) (g.R.Source.source c.read_tag.new.self.decoder.source) c.in-Ok-Some.ensures.stays
    old.formats mid.formats c.peek.ensures.settings.formats old.levels mid.levels c.peek.ensures.settings.levels c.read_tag.result c.read_tag.ensures.item

pub returns-in-Ok-Some-clause-read : goal.returns-in-Ok-Some-clause-read
returns-in-Ok-Some-clause-read g c =
    let old = c.args.de.now.decoder in
    let mid = c.peek.new.de.decoder in
    read_peeked g.R.Source.refusals (g.R.Source.source old.source) (g.R.Source.source mid.source) (g.R.Source.source c.read_tag.new.self.decoder.source) c.in-Ok-Some.ensures.stays
    old.levels mid.levels c.peek.ensures.settings.levels c.read_tag.result c.read_tag.ensures.read

pub returns-in-Ok-None-clause-read : goal.returns-in-Ok-None-clause-read
returns-in-Ok-None-clause-read g c =
    let old = c.args.de.now.decoder in
    let front = rw c.in-Ok-None.field-0-is at c.in-Ok-None.ensures.front in
    none_at_end g.R.Source.refusals (g.R.Source.source old.source) (g.R.Source.source c.peek.new.de.decoder.source) c.in-Ok-None.ensures.stays old.levels front

pub returns-in-Err-clause-read : goal.returns-in-Err-clause-read
returns-in-Err-clause-read g c =
    let s = g.R.Source.source c.args.de.now.decoder.source in
    let read : Limits → List ℕ → Reads (Option ℕ) = λ l. tag_head_at c.args.de.now.decoder.levels in
    let e = c.in-Err.refusal in (
      rw c.error_of.ensures.source c.in-Err.ensures.err.refused.moved,
      reported_by g.R.Source.refusals read s e Kept c.error_of.result c.error_of.ensures.reports
          (source_stops g.R.Source.refusals s read e Kept e refl refl c.in-Err.ensures.err.refused.moved (byte_refused g.R.Source.refusals s _ e read c.in-Err.ensures.err)),
    )
