use Rattle.std.proofs.Common.{◌≡◌, ◌∙◌, ap, refl, subst, sym}
use Rattle.serde_cbor.specs.Acceptable.{max_depth}
use Rattle.serde_cbor.specs.Formats.{all_formats}
use Rattle.serde_cbor.specs.Source.{start_of_reader}
use Rattle.serde_cbor.specs.Sources.{input_of_reader}
use Rattle.serde_cbor.specs.Streams.{Stream, begun, standing}
use Rattle.use_messages.proofs.Requests.{reads, reply}
use Rattle.use_messages.proofs.Serving.{HasServed, all_but_one, broken, none_served, one_more}
use Rattle.use_messages.proofs.service.serve.Goals as goal

pub requests-init : goal.requests-init
requests-init g c =
    let is : standing (input_of_reader g.R.Read.remaining) c.into_iter-stream.result ≡ begun (start_of_reader (g.R.Read.remaining c.args.reader)) max_depth all_formats =
    c.into_iter-stream.ensures.begun ∙ rw (c.from_reader.ensures.input, c.from_reader.ensures.levels, c.from_reader.ensures.formats) refl in
    let w = g.W.Write.contents c.args.writer.now in
    record {
      served = λ bytes gave. subst (λ s. HasServed reads reply bytes s w w) (sym is)
          (none_served reads reply bytes (g.R.Read.remaining c.args.reader) w gave);
      at = sym (ap (λ (s : Stream). s.input.offset) is);
    }

pub returns-in-Err : goal.returns-in-Err
returns-in-Err g c bytes gave =
    let before = c.requests.invariant in
    let given = rw c.in-Err.is at c.in-Some.ensures.steps in
    rw before.at (broken reads reply bytes _ _ _ _ (before.served bytes gave) _ c.in-Err.error given)

pub returns-in-Err-to_io_writer : goal.returns-in-Err-to_io_writer
returns-in-Err-to_io_writer g c bytes gave =
    let given = rw c.in-Ok.is at c.in-Some.ensures.steps in
    all_but_one reads reply bytes _ _ _ _ (c.requests.invariant.served bytes gave) c.in-Ok.request given refl _
    (rw c.reply_to.ensures at c.in-Err-to_io_writer.ensures.written.err)

pub requests-preserved : goal.requests-preserved
requests-preserved g c =
    let given = rw c.in-Ok.is at c.in-Some.ensures.steps in
    record {
      served = λ bytes gave.
          one_more reads reply bytes _ _ _ _ (c.requests.invariant.served bytes gave) c.in-Ok.request given refl _
          (rw c.reply_to.ensures at c.in_default-to_io_writer.ensures.written.ok);
      at = c.byte_offset-at.ensures;
    }
