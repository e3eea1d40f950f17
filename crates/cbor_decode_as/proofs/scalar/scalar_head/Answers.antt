use Rattle.std.proofs.Common.{◌≡◌, ℕ, Ok, ap, subst}
use Rattle.std.proofs.lemmas.Result.{err_from_is_err_and}
use Rattle.cbor_model.specs.Formats.{Formats}
use Rattle.cbor_model.specs.Head.{HeadWidth}
use Rattle.cbor_decode.specs.Gives.{Gives, Step}
use Rattle.cbor_decode.specs.declared.head.Head.{Head}
use Rattle.cbor_decode_as.specs.TaggedHeads.{TakesHeadInside, found_head, opened_inside}
use Rattle.cbor_decode.specs.Heads.{opening_at}
use Rattle.cbor_decode_as.specs.Takes.{formats_of}
use Rattle.cbor_decode_as.proofs.heads.Opened.{no_tag, head_opens, head_stops, behind_tag, advances_on}
use Rattle.cbor_decode_as.specs.declared.head.HeadAt.{HeadAt}
use Rattle.cbor_decode_as.proofs.heads.Openings.{head_opened, head_unopened, tag_found}
use Rattle.cbor_decode_as.proofs.scalar.scalar_head.Goals as goal

pub returns-in_err-head-clause-read : goal.returns-in_err-head-clause-read
returns-in_err-head-clause-read g c =
    let passed = err_from_is_err_and c.from_residual.result c.from_residual.ensures.1 in
    rw (passed.1, passed.2) (c.args.decoder.now.levels, head_stops g.R.Source.refusals (formats_of c.args.decoder.now.formats) _ _ _ _ c.in_err-head.ensures.read)

pub returns-in-Tag-clause-read : goal.returns-in-Tag-clause-read
returns-in-Tag-clause-read g c =
    let levels = c.args.decoder.now.levels in
    let f = formats_of c.args.decoder.now.formats in
    let s = g.R.Source.source c.args.decoder.now.source in
    let m = g.R.Source.source c.take_head.new.decoder.source in
    let u = c.scalar_head_inside.new.decoder in
    let first = subst (λ (h : Head). Step s m (λ l bs rest. (w : HeadWidth) × (opening_at bs ≡ Ok ((w, h), rest)))) c.in-Tag.is c.in_ok-head.ensures.read in
    let formats = ap formats_of c.in_ok-head.ensures.settings.formats in
    let inner = subst (λ (n : ℕ). TakesHeadInside g.R.Source.refusals f n m (g.R.Source.source u.source) u.refusal (found_head c.scalar_head_inside.result)) c.in_ok-head.ensures.settings.levels
    (subst (λ (k : Formats). TakesHeadInside g.R.Source.refusals k c.take_head.new.decoder.levels m (g.R.Source.source u.source) u.refusal (found_head c.scalar_head_inside.result)) formats c.scalar_head_inside.ensures.read) in
    (inner.0, behind_tag g.R.Source.refusals f s m (g.R.Source.source u.source) levels inner.0 c.in-Tag.field-0 u.refusal (found_head c.scalar_head_inside.result) first inner.1)

pub returns-clause-read : goal.returns-clause-read
returns-clause-read g c =
    let levels = c.args.decoder.now.levels in
    (c.take_head.new.decoder.levels, head_opens (formats_of c.args.decoder.now.formats) (g.R.Source.source c.args.decoder.now.source) (g.R.Source.source c.take_head.new.decoder.source) levels c.take_head.new.decoder.levels c.in_ok-head.head (no_tag c.in_ok-head.head c.in_default.not-Tag) c.in_ok-head.ensures.settings.levels c.in_ok-head.ensures.read)

-- ---- the head alone

pub returns-in_err-head-clause-opened : goal.returns-in_err-head-clause-opened
returns-in_err-head-clause-opened g c =
    let passed = err_from_is_err_and c.from_residual.result c.from_residual.ensures.1 in
    rw (passed.1, passed.2) (head_unopened g.R.Source.refusals _ c.args.decoder.now.levels _ _ c.in_err-head.ensures.read)

pub returns-in-Tag-clause-opened : goal.returns-in-Tag-clause-opened
returns-in-Tag-clause-opened g c =
    let levels = c.args.decoder.now.levels in
    let s = g.R.Source.source c.args.decoder.now.source in
    let m = g.R.Source.source c.take_head.new.decoder.source in
    let u = c.scalar_head_inside.new.decoder in
    let first = subst (λ (h : Head). Step s m (λ l bs rest. (w : HeadWidth) × (opening_at bs ≡ Ok ((w, h), rest)))) c.in-Tag.is c.in_ok-head.ensures.read in
    let inner = subst (λ (n : ℕ). Gives {X = HeadAt} {A = ℕ × Head} g.R.Source.refusals (λ found. (found.levels, found.head)) (λ l. opened_inside n) m (g.R.Source.source u.source) u.refusal c.scalar_head_inside.result) c.in_ok-head.ensures.settings.levels c.scalar_head_inside.ensures.opened in
    tag_found (λ (found : HeadAt). (found.levels, found.head)) g.R.Source.refusals s m (g.R.Source.source u.source) levels c.in-Tag.field-0 u.refusal c.scalar_head_inside.result first inner

pub returns-clause-opened : goal.returns-clause-opened
returns-clause-opened g c =
    head_opened (g.R.Source.source c.args.decoder.now.source) (g.R.Source.source c.take_head.new.decoder.source) c.args.decoder.now.levels c.take_head.new.decoder.levels c.in_ok-head.head (no_tag c.in_ok-head.head c.in_default.not-Tag) c.in_ok-head.ensures.settings.levels c.in_ok-head.ensures.read

-- ---- a byte at the least

pub returns-in-Tag-clause-taken : goal.returns-in-Tag-clause-taken
returns-in-Tag-clause-taken g c = advances_on _ _ _ c.scalar_head_inside.result c.in_ok-head.ensures.taken c.scalar_head_inside.ensures.taken
