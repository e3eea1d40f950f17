use Rattle.std.proofs.Common.{◌≡◌, ◌+◌, ℕ, Option, Ok, ap, subst}
use Rattle.std.proofs.lemmas.Result.{err_from_is_err_and}
use Rattle.cbor_model.specs.Formats.{Formats}
use Rattle.cbor_decode.specs.Gives.{Step}
use Rattle.cbor_decode_as.specs.Takes.{formats_of}
use Rattle.cbor_decode_as.specs.Tags.{tag_head_at}
use Rattle.cbor_decode_as.specs.Tags.{PassesAll}
use Rattle.cbor_decode_as.proofs.heads.PassedTags.{tag_refused, tags_more, pass_none, pass_stopped, pass_more}
use Rattle.cbor_decode_as.proofs.tags.+pass_tags.Goals as goal

pub returns-in_err-take_tag-clause-read : goal.returns-in_err-take_tag-clause-read
returns-in_err-take_tag-clause-read g t c =
    let passed = err_from_is_err_and c.from_residual.result c.from_residual.ensures.1 in
    let old = c.args.decoder.now in
    rw (passed.1, passed.2) (tag_refused g.R.Source.refusals (formats_of old.formats) (g.R.Source.source old.source) old.levels _ _ c.in_err-take_tag.ensures.read)

pub returns-in-Some-clause-read : goal.returns-in-Some-clause-read
returns-in-Some-clause-read g t c =
    let old = c.args.decoder.now in
    let mid = c.take_tag.new.decoder in
    let new = c.pass_tags.new.decoder in
    let s = g.R.Source.source old.source in
    let a = g.R.Source.source mid.source in
    let u = g.R.Source.source new.source in
    let f = formats_of old.formats in
    let n = c.in-Some.field-0 in
    let read = subst (λ (o : Option ℕ). Step s a (λ l bs rest. tag_head_at old.levels bs ≡ Ok (o, rest))) c.in-Some.is c.in_ok-take_tag.ensures.read in
    let levels : old.levels ≡ mid.levels + 1 = rw c.in-Some.is at c.in_ok-take_tag.ensures.levels in
    let rest = subst (λ (k : Formats). PassesAll g.R.Source.refusals k mid.levels a u new.levels new.refusal c.pass_tags.result) (ap formats_of c.in_ok-take_tag.ensures.formats) c.pass_tags.ensures.read in
    tags_more f old.levels mid.levels n levels g.R.Source.refusals s a u new.levels new.refusal c.pass_tags.result read rest

-- ---- whatever follows them

pub returns-in_err-take_tag-clause-passed : goal.returns-in_err-take_tag-clause-passed
returns-in_err-take_tag-clause-passed g t c =
    let passed = err_from_is_err_and c.from_residual.result c.from_residual.ensures.1 in
    let old = c.args.decoder.now in
    rw (passed.1, passed.2) (pass_stopped g.R.Source.refusals (g.R.Source.source old.source) old.levels _ _ c.in_err-take_tag.ensures.read)

pub returns-in-Some-clause-passed : goal.returns-in-Some-clause-passed
returns-in-Some-clause-passed g t c =
    let old = c.args.decoder.now in
    let mid = c.take_tag.new.decoder in
    let new = c.pass_tags.new.decoder in
    let s = g.R.Source.source old.source in
    let a = g.R.Source.source mid.source in
    let n = c.in-Some.field-0 in
    let read = subst (λ (o : Option ℕ). Step s a (λ l bs rest. tag_head_at old.levels bs ≡ Ok (o, rest))) c.in-Some.is c.in_ok-take_tag.ensures.read in
    let levels : old.levels ≡ mid.levels + 1 = rw c.in-Some.is at c.in_ok-take_tag.ensures.levels in
    pass_more g.R.Source.refusals s a (g.R.Source.source new.source) old.levels mid.levels n new.levels new.refusal c.pass_tags.result levels read c.pass_tags.ensures.passed

pub returns-in-None-clause-passed : goal.returns-in-None-clause-passed
returns-in-None-clause-passed g t c =
    let old = c.args.decoder.now in
    let new = c.take_tag.new.decoder in
    let s = g.R.Source.source old.source in
    let a = g.R.Source.source new.source in
    let read = subst (λ (o : Option ℕ). Step s a (λ l bs rest. tag_head_at old.levels bs ≡ Ok (o, rest))) c.in-None.is c.in_ok-take_tag.ensures.read in
    let levels : new.levels ≡ old.levels = rw c.in-None.is at c.in_ok-take_tag.ensures.levels in
    pass_none s a old.levels new.levels levels read
