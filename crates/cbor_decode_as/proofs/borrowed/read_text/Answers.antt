use Rattle.std.proofs.Common.{◌∙◌, Some, refl}
use Rattle.cbor_decode.specs.declared.head.Head.TheVariants as head
use Rattle.cbor_decode_as.specs.declared.head.HeadAt.{HeadAt}
use Rattle.cbor_decode_as.specs.Takes.{formats_of}
use Rattle.cbor_decode_as.proofs.heads.Opened.{text_opened}
use Rattle.cbor_decode_as.proofs.heads.Openings.{head_opened}
use Rattle.cbor_decode_as.proofs.texts.Lending.{text_advances, text_item}
use Rattle.cbor_decode_as.proofs.texts.MemoryAsked.{of_text}
use Rattle.cbor_decode_as.proofs.texts.PassedLent.{text_lends}
use Rattle.cbor_read.specs.Source.{asks_for}
use Rattle.cbor_decode_as.proofs.borrowed.read_text.Goals as goal

pub returns-in-Some : goal.returns-in-Some
returns-in-Some g c =
    let old = c.args.decoder.now in
    let u = c.short_text.new.self in
    let levels = old.levels in
    let f = formats_of old.formats in
    let s = g.R.Source.source old.source in
    let m = g.R.Source.source u.source in
    let t = g.R.Source.source c.text_part.follows.lender-at-none.source in
    let n = Some c.in-Some.n in
    let allowed = g.R.Source.refusals in
    let lends = g.R.Source.lends in
    let head_is = c.in-Some.ensures in
    let found : HeadAt = record { head = head.Text n; levels = levels } in
    let opens = head_opened s m levels levels (head.Text n) (λ e. absurd cc) refl head_is.read in
    let opened = text_opened allowed f s m levels c.in-Some.n u.refusal head_is.read in
    let after = c.text_part.follows.holds-at-none in
    let r = c.text_part.result in (
      (
        refl,
        λ _. tt,
        (
          after.0 ∙ head_is.settings.levels,
          after.1 ∙ head_is.settings.formats,
          text_item allowed f lends levels s m u.refusal n t r opened after.2,
          after.3,
          of_text allowed (asks_for allowed lends) f levels s m u.refusal found opens n r refl opened after.4,
          text_lends allowed found levels s m opens lends n t r refl after.2 after.5,
          text_advances allowed lends (head.Text n) s m t r head_is.taken after.2,
        ),
      ),
      record { after_borrow = tt },
    )

pub returns-in-None : goal.returns-in-None
returns-in-None g c =
    let same = c.in-None.ensures in
    ((refl, λ _. tt, rw (same.read, same.settings.levels, same.settings.formats) at c.text_by_head.follows.holds-at-none), record { after_borrow = tt })
