use Rattle.std.proofs.Common.{◌∙◌, Ok, IfErr, refl, subst, ap}
use Rattle.std.proofs.lemmas.Result.{err_from_is_err_and}
use Rattle.cbor_decode.specs.declared.head.Head.{Head}
use Rattle.cbor_decode.specs.declared.head.Head.TheVariants as head
use Rattle.cbor_decode.proofs.facts.Steps.{advances_some, took_same, some_then}
use Rattle.cbor_decode_as.specs.TaggedHeads.{TakesItemHead}
use Rattle.cbor_decode_as.specs.Strings.{AsksForString, AsksToLend, IsNoKey, LendsWhole, Lent, UnreadOnly}
use Rattle.cbor_decode_as.specs.Takes.{IsNotRead, formats_of, raws}
use Rattle.cbor_decode_as.proofs.texts.Lending.{any_ok, text_advances, text_item, bytes_item, bytes_stopped, other_item, utf8_no_key}
use Rattle.cbor_decode_as.proofs.texts.MemoryAsked.{of_bytes, of_other, of_text, utf8_only, kept_none}
use Rattle.cbor_read.specs.Source.{asks_for}
use Rattle.cbor_decode_as.proofs.texts.PassedLent.{bytes_lends, other_lends, text_lends, unopened_lends, utf8_lends, kept_no_key, kept_stop, stops_refuses}
use Rattle.cbor_model.specs.Reader.{item_at}
use Rattle.cbor_decode_as.proofs.numbers.Scalars.{not_read}
use Rattle.cbor_model.specs.Readable.{IsText, PassesTags}
use Rattle.cbor_decode_as.proofs.borrowed.text_by_head.Goals as goal

pub returns-in-Text : goal.returns-in-Text
returns-in-Text g c =
    let u = c.scalar_head.new.decoder in
    let levels = c.args.decoder.now.levels in
    let f = formats_of c.args.decoder.now.formats in
    let s = g.R.Source.source c.args.decoder.now.source in
    let m = g.R.Source.source u.source in
    let t = g.R.Source.source c.text_part.follows.lender-at-none.source in
    let opened = subst (λ (h : Head). TakesItemHead g.R.Source.refusals f levels s m u.refusal (Ok h)) c.in-Text.is c.in-Ok.ensures.read in
    let after = c.text_part.follows.holds-at-none in
    ((refl, λ _. tt, (after.0 ∙ c.in-Ok.ensures.settings.levels, after.1 ∙ c.in-Ok.ensures.settings.formats, text_item g.R.Source.refusals f g.R.Source.lends levels s m u.refusal c.in-Text.n t c.text_part.result opened after.2, after.3, of_text g.R.Source.refusals (asks_for g.R.Source.refusals g.R.Source.lends) f levels s m u.refusal c.in-Ok.found c.in-Ok.ensures.opened c.in-Text.n c.text_part.result c.in-Text.is opened after.4, text_lends g.R.Source.refusals c.in-Ok.found levels s m c.in-Ok.ensures.opened g.R.Source.lends c.in-Text.n t c.text_part.result c.in-Text.is after.2 after.5, text_advances g.R.Source.refusals g.R.Source.lends (head.Text c.in-Text.n) s m t c.text_part.result c.in-Ok.ensures.taken after.2)), record { after_borrow = tt })

pub returns-in_err-bytes_part-in-Bytes : goal.returns-in_err-bytes_part-in-Bytes
returns-in_err-bytes_part-in-Bytes g c =
    let passed = err_from_is_err_and c.from_residual.result c.from_residual.ensures.1 in
    let u = c.scalar_head.new.decoder in
    let levels = c.args.decoder.now.levels in
    let f = formats_of c.args.decoder.now.formats in
    let s = g.R.Source.source c.args.decoder.now.source in
    let m = g.R.Source.source u.source in
    let t = g.R.Source.source c.bytes_part.follows.lender-at-none.source in
    let opened = subst (λ (h : Head). TakesItemHead g.R.Source.refusals f levels s m u.refusal (Ok h)) c.in-Bytes.is c.in-Ok.ensures.read in
    let after = c.bytes_part.follows.holds-at-none in
    let lent = subst (λ r. Lent g.R.Source.refusals g.R.Source.lends (head.Bytes c.in-Bytes.n) m t r) c.in_err-bytes_part-in-Bytes.was after.2 in
    ((refl, λ _. tt, (after.0 ∙ c.in-Ok.ensures.settings.levels, after.1 ∙ c.in-Ok.ensures.settings.formats, rw (passed.1, passed.2) (bytes_stopped g.R.Source.refusals f g.R.Source.lends levels s m u.refusal c.in-Bytes.n t _ opened lent), rw (passed.1, passed.2) (subst (λ r. IfErr r IsNoKey) c.in_err-bytes_part-in-Bytes.was after.3), rw (passed.1, passed.2) (subst (λ r. IfErr r (UnreadOnly (AsksToLend AsksForString (asks_for g.R.Source.refusals g.R.Source.lends) f levels s))) c.in_err-bytes_part-in-Bytes.was (of_bytes g.R.Source.refusals (asks_for g.R.Source.refusals g.R.Source.lends) f levels s m u.refusal c.in-Ok.found c.in-Ok.ensures.opened c.in-Bytes.n c.bytes_part.result c.in-Bytes.is opened after.4)), rw (passed.1, passed.2) (subst (λ r. LendsWhole g.R.Source.refusals levels s r) c.in_err-bytes_part-in-Bytes.was (bytes_lends g.R.Source.refusals c.in-Ok.found levels s m c.in-Ok.ensures.opened g.R.Source.lends c.in-Bytes.n t c.bytes_part.result c.in-Bytes.is after.2 after.5)), rw passed.1 tt)), record { after_borrow = tt })

pub returns-in_ok-bytes_part-in-Bytes : goal.returns-in_ok-bytes_part-in-Bytes
returns-in_ok-bytes_part-in-Bytes g c =
    let u = c.scalar_head.new.decoder in
    let levels = c.args.decoder.now.levels in
    let f = formats_of c.args.decoder.now.formats in
    let s = g.R.Source.source c.args.decoder.now.source in
    let m = g.R.Source.source u.source in
    let t = g.R.Source.source c.bytes_part.follows.lender-at-none.source in
    let p = c.in_ok-bytes_part-in-Bytes.field-0 in
    let opened = subst (λ (h : Head). TakesItemHead g.R.Source.refusals f levels s m u.refusal (Ok h)) c.in-Bytes.is c.in-Ok.ensures.read in
    let after = c.bytes_part.follows.holds-at-none in
    let lent = subst (λ r. Lent g.R.Source.refusals g.R.Source.lends (head.Bytes c.in-Bytes.n) m t r) c.in_ok-bytes_part-in-Bytes.was after.2 in
    ((refl, λ _. tt, (after.0 ∙ c.in-Ok.ensures.settings.levels, after.1 ∙ c.in-Ok.ensures.settings.formats, bytes_item g.R.Source.refusals f g.R.Source.lends levels s m u.refusal c.in-Bytes.n t p c.utf8-2.result opened lent c.utf8-2.ensures, utf8_no_key p c.utf8-2.result c.utf8-2.ensures, utf8_only (AsksToLend AsksForString (asks_for g.R.Source.refusals g.R.Source.lends) f levels s) p c.utf8-2.result c.utf8-2.ensures, utf8_lends g.R.Source.refusals c.in-Ok.found levels s m c.in-Ok.ensures.opened g.R.Source.lends c.in-Bytes.n t p c.utf8-2.result c.in-Bytes.is lent c.utf8-2.ensures, any_ok c.utf8-2.result (advances_some s m t c.in-Ok.ensures.taken lent.0.took))), record { after_borrow = tt })

pub returns-in_default : goal.returns-in_default
returns-in_default g c =
    let u = c.scalar_head.new.decoder in
    let s = g.R.Source.source c.args.decoder.now.source in
    let f = formats_of c.args.decoder.now.formats in
    let t = g.R.Source.source c.other.new.decoder.source in
    ((refl, λ _. tt, (c.other.ensures.settings.levels ∙ c.in-Ok.ensures.settings.levels, c.other.ensures.settings.formats ∙ c.in-Ok.ensures.settings.formats, other_item g.R.Source.refusals f g.R.Source.lends c.args.decoder.now.levels s (g.R.Source.source u.source) u.refusal c.in-Ok.found.head c.other.result t c.in_default.not-Text c.in_default.not-Bytes c.in-Ok.ensures.read c.other.ensures.took, c.other.ensures.no_key, of_other g.R.Source.refusals (asks_for g.R.Source.refusals g.R.Source.lends) f c.args.decoder.now.levels s (g.R.Source.source u.source) u.refusal c.in-Ok.found c.in-Ok.ensures.opened c.other.result c.in_default.not-Text c.in_default.not-Bytes c.in-Ok.ensures.read c.other.ensures.memory, other_lends g.R.Source.refusals c.in-Ok.found c.args.decoder.now.levels s (g.R.Source.source u.source) c.in-Ok.ensures.opened c.other.result c.other.ensures.fault, tt)), record { after_borrow = tt })

pub returns-in-Err : goal.returns-in-Err
returns-in-Err g c =
    let u = c.scalar_head.new.decoder in
    let levels = c.args.decoder.now.levels in
    let f = formats_of c.args.decoder.now.formats in
    let s = g.R.Source.source c.args.decoder.now.source in
    let q = c.stopped.result in
    let e = c.in-Err.ensures in
    let kept = c.stopped.ensures.kept in
    let raw = kept_stop g.R.Source.refusals (λ l. item_at (raws f l) levels) s u.refusal c.in-Err.refused q kept e.read.1.reported in
    let none = stops_refuses g.R.Source.refusals (λ l. item_at (raws f l) levels) s q (λ l bs. IsNotRead (PassesTags IsText) (item_at (raws f l) levels bs)) (λ l bs d is. not_read (PassesTags IsText) (item_at (raws f l) levels bs) d is) raw (some_then _ _ _ e.read.1.took (took_same (ap g.R.Source.source c.stopped.ensures.source))) in
    ((refl, λ _. tt, (c.stopped.ensures.settings.levels ∙ e.settings.levels, c.stopped.ensures.settings.formats ∙ e.settings.formats, none, kept_no_key u.refusal c.in-Err.refused q kept e.no_key, kept_none _ u.refusal c.in-Err.refused q kept e.memory, unopened_lends g.R.Source.refusals levels s u.refusal c.in-Err.refused q e.opened.reported kept, tt)), record { after_borrow = tt })
