use Rattle.std.proofs.Common.{◌≡◌, ℕ, Ok, OnOk, ap, subst}
use Rattle.std.proofs.lemmas.Result.{err_from_is_err_and}
use Rattle.cbor_model.specs.Head.{HeadWidth}
use Rattle.cbor_model.specs.Refusal.{too_deep}
use Rattle.cbor_io.specs.declared.read_error.ReadErrorCode.TheVariants.{RecursionLimitExceeded}
use Rattle.cbor_decode.specs.Gives.{Step, Gives, Advances}
use Rattle.cbor_decode.specs.declared.head.Head.{Head}
use Rattle.cbor_read.specs.Source.{Input}
use Rattle.cbor_decode.proofs.facts.Steps.{fault_stops}
use Rattle.cbor_decode_as.specs.Takes.{formats_of, raws}
use Rattle.cbor_model.specs.Reader.{item_at}
use Rattle.cbor_model.specs.Formats.{Formats}
use Rattle.cbor_decode_as.specs.TaggedHeads.{TakesTaggedHead, item_inside, opened_inside}
use Rattle.cbor_decode.specs.Heads.{opening_at}
use Rattle.cbor_decode_as.proofs.heads.Opened.{no_tag, head_opens, head_stops, behind_tag, inside_too_deep, inside_opens, advances_on}
use Rattle.cbor_decode_as.proofs.heads.Openings.{head_opened, head_unopened, tag_opened, inside_opened, no_level_inside}
use Rattle.cbor_decode_as.proofs.head.+tagged_head.Goals as goal

pub tagged_head-returns-in_err-head-clause-read : goal.tagged_head-returns-in_err-head-clause-read
tagged_head-returns-in_err-head-clause-read g t c =
    let passed = err_from_is_err_and c.from_residual.result c.from_residual.ensures.1 in
    rw (passed.1, passed.2) (head_stops g.R.Source.refusals (formats_of c.args.decoder.now.formats) _ _ _ _ c.in_err-head.ensures.read)

pub tagged_head-returns-in-Tag-clause-read : goal.tagged_head-returns-in-Tag-clause-read
tagged_head-returns-in-Tag-clause-read g t c =
    let levels = c.args.decoder.now.levels in
    let f = formats_of c.args.decoder.now.formats in
    let s = g.R.Source.source c.args.decoder.now.source in
    let m = g.R.Source.source c.take_head.new.decoder.source in
    let u = c.tagged_head_inside.new.decoder in
    let first = subst (λ (h : Head). Step s m (λ l bs rest. (w : HeadWidth) × (opening_at bs ≡ Ok ((w, h), rest)))) c.in-Tag.is c.in_ok-head.ensures.read in
    let formats = ap formats_of c.in_ok-head.ensures.settings.formats in
    let inner = subst (λ (n : ℕ). TakesTaggedHead g.R.Source.refusals f (λ l. item_inside f l n) m (g.R.Source.source u.source) u.levels u.refusal c.tagged_head_inside.result) c.in_ok-head.ensures.settings.levels
    (subst (λ (k : Formats). TakesTaggedHead g.R.Source.refusals k (λ l. item_inside k l c.take_head.new.decoder.levels) m (g.R.Source.source u.source) u.levels u.refusal c.tagged_head_inside.result) formats c.tagged_head_inside.ensures.read) in
    behind_tag g.R.Source.refusals f s m (g.R.Source.source u.source) levels u.levels c.in-Tag.field-0 u.refusal c.tagged_head_inside.result first inner

pub tagged_head-returns-clause-read : goal.tagged_head-returns-clause-read
tagged_head-returns-clause-read g t c =
    head_opens (formats_of c.args.decoder.now.formats) (g.R.Source.source c.args.decoder.now.source) (g.R.Source.source c.take_head.new.decoder.source) c.args.decoder.now.levels c.take_head.new.decoder.levels c.in_ok-head.head (no_tag c.in_ok-head.head c.in_default.not-Tag) c.in_ok-head.ensures.settings.levels c.in_ok-head.ensures.read

pub tagged_head_inside-returns-in_err-enter-clause-read : goal.tagged_head_inside-returns-in_err-enter-clause-read
tagged_head_inside-returns-in_err-enter-clause-read g t c =
    let passed = err_from_is_err_and c.from_residual.result c.from_residual.ensures.1 in
    let e = c.in_err-enter.ensures in
    rw (passed.1, passed.2, e.source) (fault_stops g.R.Source.refusals (g.R.Source.source c.args.decoder.now.source) (λ l. item_inside (formats_of c.args.decoder.now.formats) l c.args.decoder.now.levels) _ _ RecursionLimitExceeded too_deep (λ at end r h. h)
    (λ l bs. inside_too_deep (formats_of c.args.decoder.now.formats) l c.args.decoder.now.levels bs e.none.0) e.refused e.kept)

pub tagged_head_inside-returns-clause-read : goal.tagged_head_inside-returns-clause-read
tagged_head_inside-returns-clause-read g t c =
    let s = g.R.Source.source c.args.decoder.now.source in
    let m = g.R.Source.source c.enter.new.self.source in
    let u = c.tagged_head.new.decoder in
    let at : m ≡ s = ap g.R.Source.source c.enter.ensures.source in
    let f = formats_of c.args.decoder.now.formats in
    let opened = subst (λ (k : Formats). TakesTaggedHead g.R.Source.refusals k (λ l. item_at (raws k l) c.enter.new.self.levels) m (g.R.Source.source u.source) u.levels u.refusal c.tagged_head.result) (ap formats_of c.enter.ensures.formats) c.tagged_head.ensures.read in
    inside_opens g.R.Source.refusals f s m (g.R.Source.source u.source) c.args.decoder.now.levels c.enter.new.self.levels u.levels u.refusal c.tagged_head.result c.in_ok-enter.ensures.inside at opened

-- ---- the head alone

pub tagged_head-returns-in_err-head-clause-opened : goal.tagged_head-returns-in_err-head-clause-opened
tagged_head-returns-in_err-head-clause-opened g t c =
    let passed = err_from_is_err_and c.from_residual.result c.from_residual.ensures.1 in
    rw (passed.1, passed.2) (head_unopened g.R.Source.refusals _ c.args.decoder.now.levels _ _ c.in_err-head.ensures.read)

pub tagged_head-returns-in-Tag-clause-opened : goal.tagged_head-returns-in-Tag-clause-opened
tagged_head-returns-in-Tag-clause-opened g t c =
    let levels = c.args.decoder.now.levels in
    let s = g.R.Source.source c.args.decoder.now.source in
    let m = g.R.Source.source c.take_head.new.decoder.source in
    let u = c.tagged_head_inside.new.decoder in
    let first = subst (λ (h : Head). Step s m (λ l bs rest. (w : HeadWidth) × (opening_at bs ≡ Ok ((w, h), rest)))) c.in-Tag.is c.in_ok-head.ensures.read in
    let inner = subst (λ (n : ℕ). Gives {X = Head} {A = ℕ × Head} g.R.Source.refusals (λ h. (u.levels, h)) (λ l. opened_inside n) m (g.R.Source.source u.source) u.refusal c.tagged_head_inside.result) c.in_ok-head.ensures.settings.levels c.tagged_head_inside.ensures.opened in
    tag_opened g.R.Source.refusals s m (g.R.Source.source u.source) levels u.levels c.in-Tag.field-0 u.refusal c.tagged_head_inside.result first inner

pub tagged_head-returns-clause-opened : goal.tagged_head-returns-clause-opened
tagged_head-returns-clause-opened g t c =
    head_opened (g.R.Source.source c.args.decoder.now.source) (g.R.Source.source c.take_head.new.decoder.source) c.args.decoder.now.levels c.take_head.new.decoder.levels c.in_ok-head.head (no_tag c.in_ok-head.head c.in_default.not-Tag) c.in_ok-head.ensures.settings.levels c.in_ok-head.ensures.read

pub tagged_head_inside-returns-in_err-enter-clause-opened : goal.tagged_head_inside-returns-in_err-enter-clause-opened
tagged_head_inside-returns-in_err-enter-clause-opened g t c =
    let passed = err_from_is_err_and c.from_residual.result c.from_residual.ensures.1 in
    let e = c.in_err-enter.ensures in
    rw (passed.1, passed.2, e.source) (fault_stops g.R.Source.refusals (g.R.Source.source c.args.decoder.now.source) (λ l. opened_inside c.args.decoder.now.levels) _ _ RecursionLimitExceeded too_deep (λ at end r h. h)
    (λ l bs. no_level_inside c.args.decoder.now.levels bs e.none.0) e.refused e.kept)

pub tagged_head_inside-returns-clause-opened : goal.tagged_head_inside-returns-clause-opened
tagged_head_inside-returns-clause-opened g t c =
    let s = g.R.Source.source c.args.decoder.now.source in
    let m = g.R.Source.source c.enter.new.self.source in
    let u = c.tagged_head.new.decoder in
    inside_opened g.R.Source.refusals s m (g.R.Source.source u.source) c.args.decoder.now.levels c.enter.new.self.levels u.levels u.refusal c.tagged_head.result c.in_ok-enter.ensures.inside (ap g.R.Source.source c.enter.ensures.source) c.tagged_head.ensures.opened

-- ---- a byte at the least

pub tagged_head-returns-in-Tag-clause-taken : goal.tagged_head-returns-in-Tag-clause-taken
tagged_head-returns-in-Tag-clause-taken g t c = advances_on _ _ _ c.tagged_head_inside.result c.in_ok-head.ensures.taken c.tagged_head_inside.ensures.taken

pub tagged_head_inside-returns-clause-taken : goal.tagged_head_inside-returns-clause-taken
tagged_head_inside-returns-clause-taken g t c =
    subst (λ (x : Input). OnOk c.tagged_head.result (Advances x (g.R.Source.source c.tagged_head.new.decoder.source))) (ap g.R.Source.source c.enter.ensures.source) c.tagged_head.ensures.taken
