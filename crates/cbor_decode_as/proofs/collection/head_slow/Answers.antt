use Rattle.std.proofs.Common.{◌≡◌, Ok, ap, refl, sym, subst}
use Rattle.cbor_read.specs.Source.{Input}
use Rattle.cbor_decode.specs.Gives.{Step}
use Rattle.cbor_decode_as.specs.Takes.{formats_of}
use Rattle.cbor_decode_as.specs.Collections.{head_of}
use Rattle.cbor_decode_as.specs.TaggedHeads.{IsTaggedHead, opened_at}
use Rattle.cbor_decode_as.proofs.collections.Heads.{whole, head_taken, other_head, too_deep_head}
use Rattle.cbor_decode_as.proofs.arrays.Begins.{begins, begins_stopped, begins_other, begins_too_deep}
use Rattle.cbor_decode_as.specs.declared.head.HeadAt.{HeadAt}
use Rattle.cbor_decode_as.proofs.heads.BeginningFaults.{deep_fault, mismatch_fault, unopened_fault}
use Rattle.cbor_decode_as.proofs.collection.head_slow.Goals as goal

pub returns-in-None-clause-read : goal.returns-in-None-clause-read
returns-in-None-clause-read g c =
    let old = c.args.decoder.now in
    let u = c.tagged_head.new.decoder in
    rw c.mismatch.ensures.source (other_head c.args.of g.R.Source.refusals (formats_of old.formats) old.levels (g.R.Source.source old.source) (g.R.Source.source u.source) u.levels c.in-Ok.head c.mismatch.result c.in-None.ensures c.in-Ok.ensures.read)

pub returns-in-Ok-enter-clause-read : goal.returns-in-Ok-enter-clause-read
returns-in-Ok-enter-clause-read g c =
    let old = c.args.decoder.now in
    let f = formats_of old.formats in
    let levels = old.levels in
    let u = c.tagged_head.new.decoder in
    let s = g.R.Source.source old.source in
    let at = ap g.R.Source.source c.enter.ensures.source in
    let t = g.R.Source.source c.enter.new.self.source in
    let read = subst (λ (t : Input). Step s t (λ l bs rest. IsTaggedHead f l (whole c.args.of g.R.Source.refusals f levels s t l bs) u.levels c.in-Ok.head rest)) (sym at) c.in-Ok.ensures.read in
    head_taken c.args.of g.R.Source.refusals f levels s t u.levels c.enter.new.self.levels c.in-Ok.head c.in-Some.remaining c.in-Some.ensures c.in-Ok-enter.ensures.inside read

pub returns-in-Err-enter-clause-read : goal.returns-in-Err-enter-clause-read
returns-in-Err-enter-clause-read g c =
    let old = c.args.decoder.now in
    let u = c.tagged_head.new.decoder in
    rw (c.error-in-Err-enter.ensures.source, c.enter.ensures.source) (too_deep_head c.args.of g.R.Source.refusals (formats_of old.formats) old.levels (g.R.Source.source old.source) (g.R.Source.source u.source) u.levels c.in-Ok.head c.in-Some.remaining c.error-in-Err-enter.result c.in-Some.ensures c.in-Err-enter.ensures.none.0 c.in-Ok.ensures.read)

-- ---- whatever follows the head

pub returns-in-Err-clause-opened : goal.returns-in-Err-clause-opened
returns-in-Err-clause-opened g c =
    let old = c.args.decoder.now in
    let u = c.tagged_head.new.decoder in
    rw c.error.ensures.source (begins_stopped (head_of c.args.of) g.R.Source.refusals old.levels (g.R.Source.source old.source) (g.R.Source.source u.source) u.refusal c.in-Err.refused c.error.result c.error.ensures.reports c.in-Err.ensures.opened)

pub returns-in-None-clause-opened : goal.returns-in-None-clause-opened
returns-in-None-clause-opened g c =
    let old = c.args.decoder.now in
    let u = c.tagged_head.new.decoder in
    rw c.mismatch.ensures.source (begins_other (head_of c.args.of) g.R.Source.refusals old.levels (g.R.Source.source old.source) (g.R.Source.source u.source) u.levels c.in-Ok.head c.mismatch.result c.in-None.ensures c.in-Ok.ensures.opened)

pub returns-in-Ok-enter-clause-opened : goal.returns-in-Ok-enter-clause-opened
returns-in-Ok-enter-clause-opened g c =
    let old = c.args.decoder.now in
    let u = c.tagged_head.new.decoder in
    let s = g.R.Source.source old.source in
    let t = g.R.Source.source c.enter.new.self.source in
    let read = subst (λ (t : Input). Step s t (λ l bs rest. opened_at old.levels bs ≡ Ok ((u.levels, c.in-Ok.head), rest))) (sym (ap g.R.Source.source c.enter.ensures.source)) c.in-Ok.ensures.opened in
    begins (head_of c.args.of) g.R.Source.refusals old.levels s t u.levels c.enter.new.self.levels c.in-Ok.head c.in-Some.remaining c.in-Some.ensures c.in-Ok-enter.ensures.inside read

pub returns-in-Err-enter-clause-opened : goal.returns-in-Err-enter-clause-opened
returns-in-Err-enter-clause-opened g c =
    let old = c.args.decoder.now in
    let u = c.tagged_head.new.decoder in
    rw (c.error-in-Err-enter.ensures.source, c.enter.ensures.source) (begins_too_deep (head_of c.args.of) g.R.Source.refusals old.levels (g.R.Source.source old.source) (g.R.Source.source u.source) u.levels c.in-Ok.head c.error-in-Err-enter.result c.in-Err-enter.ensures.none.0 c.in-Ok.ensures.opened)

-- ---- the fault

pub returns-in-Err-clause-fault : goal.returns-in-Err-clause-fault
returns-in-Err-clause-fault g c =
    let old = c.args.decoder.now in
    let u = c.tagged_head.new.decoder in
    unopened_fault (head_of c.args.of) g.R.Source.refusals old.levels (g.R.Source.source old.source) c.error.result u.refusal c.in-Err.refused c.error.ensures.reports c.in-Err.ensures.opened.reported

pub returns-in-None-clause-fault : goal.returns-in-None-clause-fault
returns-in-None-clause-fault g c =
    let old = c.args.decoder.now in
    let u = c.tagged_head.new.decoder in
    let found : HeadAt = record { head = c.in-Ok.head; levels = u.levels } in
    mismatch_fault (head_of c.args.of) g.R.Source.refusals old.levels (g.R.Source.source old.source) c.mismatch.result found (g.R.Source.source u.source) c.in-Ok.ensures.opened c.in-Ok.head refl c.in-None.ensures c.mismatch.ensures.told

pub returns-in-Err-enter-clause-fault : goal.returns-in-Err-enter-clause-fault
returns-in-Err-enter-clause-fault g c =
    let old = c.args.decoder.now in
    let u = c.tagged_head.new.decoder in
    let found : HeadAt = record { head = c.in-Ok.head; levels = u.levels } in
    deep_fault (head_of c.args.of) g.R.Source.refusals old.levels (g.R.Source.source old.source) c.error-in-Err-enter.result found (g.R.Source.source u.source) c.in-Ok.ensures.opened c.args.of c.enter.new.self.refusal c.in-Err-enter.refused c.in-Some.remaining c.in-Some.ensures c.in-Err-enter.ensures.none.0 c.in-Err-enter.ensures.refused c.in-Err-enter.ensures.kept c.error-in-Err-enter.ensures.reports
