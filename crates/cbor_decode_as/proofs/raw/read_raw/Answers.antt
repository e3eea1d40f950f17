use Rattle.std.proofs.Common.{◌≡◌, ◌∙◌, IfSome, length, take, sym, subst, ap, arith}
use Rattle.std.proofs.lemmas.Result.{MatchResult-at_err, MatchResult-at_ok}
use Rattle.cbor_read.specs.Source.{Took, is_long, part_bytes}
use Rattle.cbor_read.specs.declared.EitherLifetime.{EitherLifetime}
use Rattle.cbor_decode_as.specs.Takes.{formats_of}
use Rattle.cbor_decode_as.proofs.RawFaults.{excused_told}
use Rattle.cbor_decode_as.proofs.RawItems.{front_encodes, front_refused, lent_step, some_there}
use Rattle.cbor_decode_as.proofs.raw.read_raw.Goals as goal

pub returns-in-Ok-Long-clause-read : goal.returns-in-Ok-Long-clause-read
returns-in-Ok-Long-clause-read g c =
    let d = c.args.decoder.now in
    let s = g.R.Source.source d.source in
    let t = g.R.Source.source c.read.follows.lender-at-none in
    let is = c.in-Ok-Long.field-0-is in
    let took = MatchResult-at_ok _ _ _ c.in-Ok-Long.is c.read.follows.holds-at-none in
    lent_step (formats_of d.formats) d.levels g.R.Source.lends s t (g.R.Source.at_hand d.source) c.in-Ok.ensures.shows c.in-Ok.n c.in-Ok.ensures.found c.in-Ok-Long.bytes.now
    (ap (λ (p : EitherLifetime). length (part_bytes p)) (sym is) ∙ c.in-Ok-Long.ensures.count)
    (sym c.in-Ok-Long.ensures.long ∙ ap is_long is)
    (subst (λ (p : EitherLifetime). Took s t (part_bytes p)) is took)

pub returns-in-Ok-Long-clause-encodes : goal.returns-in-Ok-Long-clause-encodes
returns-in-Ok-Long-clause-encodes g c =
    let d = c.args.decoder.now in
    let s = g.R.Source.source d.source in
    let t = g.R.Source.source c.read.follows.lender-at-none in
    let is = c.in-Ok-Long.field-0-is in
    front_encodes (formats_of d.formats) d.levels g.R.Source.lends s t (g.R.Source.at_hand d.source) c.in-Ok.ensures.shows c.in-Ok.n c.in-Ok.ensures.found c.in-Ok-Long.bytes.now
    (sym c.in-Ok-Long.ensures.long ∙ ap is_long is)
    (subst (λ (p : EitherLifetime). IfSome s.to_come (λ bs. part_bytes p ≡ take c.in-Ok.n bs)) is c.in-Ok-Long.ensures.front)

pub returns-in-Ok-Long-clause-taken : goal.returns-in-Ok-Long-clause-taken
returns-in-Ok-Long-clause-taken g c =
    let d = c.args.decoder.now in
    let s = g.R.Source.source d.source in
    let t = g.R.Source.source c.read.follows.lender-at-none in
    let took = MatchResult-at_ok _ _ _ c.in-Ok-Long.is c.read.follows.holds-at-none in
    let some = some_there (formats_of d.formats) d.levels g.R.Source.lends s t (g.R.Source.at_hand d.source) c.in-Ok.ensures.shows c.in-Ok.n c.in-Ok.ensures.found in
    record { further = omega (arith, some, took.count, c.in-Ok-Long.ensures.count); counted = c.in-Ok.ensures.counted }

pub returns-in-Err-read-clause-refused : goal.returns-in-Err-read-clause-refused
returns-in-Err-read-clause-refused g c =
    let d = c.args.decoder.now in
    let s = g.R.Source.source d.source in
    let t = g.R.Source.source c.read.follows.lender-at-none in
    let refused = MatchResult-at_err _ _ c.in-Err-read.refusal c.in-Err-read.is c.read.follows.holds-at-none in
    rw (c.error.ensures.source, c.keep-refused.ensures.source) (front_refused (formats_of d.formats) d.levels g.R.Source.lends s t (g.R.Source.at_hand d.source) c.in-Ok.ensures.shows c.in-Ok.n c.in-Ok.ensures.found g.R.Source.refusals c.in-Err-read.refusal c.keep-refused.new.self.refusal c.keep-refused.result c.error.result refused c.keep-refused.ensures.refused c.keep-refused.ensures.kept c.error.ensures.reports _)

pub returns-in-Err-read-clause-fault : goal.returns-in-Err-read-clause-fault
returns-in-Err-read-clause-fault g c =
    let d = c.args.decoder.now in
    let s = g.R.Source.source d.source in
    let t = g.R.Source.source c.read.follows.lender-at-none in
    let refused = MatchResult-at_err _ _ c.in-Err-read.refusal c.in-Err-read.is c.read.follows.holds-at-none in
    excused_told g.R.Source.refusals d.levels s c.error.result {t = t}
    (front_refused (formats_of d.formats) d.levels g.R.Source.lends s t (g.R.Source.at_hand d.source) c.in-Ok.ensures.shows c.in-Ok.n c.in-Ok.ensures.found g.R.Source.refusals c.in-Err-read.refusal c.keep-refused.new.self.refusal c.keep-refused.result c.error.result refused c.keep-refused.ensures.refused c.keep-refused.ensures.kept c.error.ensures.reports (λ l bs. ⊥))
