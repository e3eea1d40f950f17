use Rattle.std.proofs.Common.{◌∙◌, refl, subst}
use Rattle.cbor_model.specs.Raw.{AreBytes}
use Rattle.cbor_raw.proofs.Gathering.{ended_behind, excused_behind, refused_behind, scan_follows, takes_more, took_more, unread_behind}
use Rattle.cbor_raw.proofs.gather.take_more.Goals as goal

pub find-requires : goal.find-requires
find-requires g c =
    let came = rw c.in-Ok-true.field-0-test at c.in-Ok-true.ensures.ok in
    scan_follows _ _ _ _ came _ (c.shown-2.ensures.same ∙ c.deref-2.ensures.value) _ c.args.scan.now c.requires.follows

pub returns-in-Err-clause-err : goal.returns-in-Err-clause-err
returns-in-Err-clause-err g c = λ s took.
    excused_behind g.R.Source.refusals 0 s _ _ c.args.bytes.now.items took _ c.in-Err.error c.in-Err.ensures.err

pub returns-in-Err-clause-unread : goal.returns-in-Err-clause-unread
returns-in-Err-clause-unread g c = λ s took.
    excused_behind g.R.Source.refusals 0 s _ _ c.args.bytes.now.items took _ c.in-Err.error c.in-Err.ensures.err

pub returns-in-Ok-clause-ok : goal.returns-in-Ok-clause-ok
returns-in-Ok-clause-ok g c =
    let came = rw c.in-Ok-true.field-0-test at c.in-Ok-true.ensures.ok in
    rw c.is_some.ensures (takes_more _ _ _ _ came _ (c.shown-2.ensures.same ∙ c.deref-2.ensures.value) _ c.in-Ok.end c.requires.none c.in-Ok.ensures.found)

pub returns-in-Err-find-clause-err : goal.returns-in-Err-find-clause-err
returns-in-Err-find-clause-err g c = λ s took.
    let came = rw c.in-Ok-true.field-0-test at c.in-Ok-true.ensures.ok in
    let seen = c.shown-2.ensures.same ∙ c.deref-2.ensures.value in
    refused_behind g.R.Source.refusals _ s _ _ c.take_byte.new.bytes.items (took_more _ _ _ _ came s took) c.in-Err-find.error c.further-in-Err-find.result refl
    (rw seen at c.in-Err-find.ensures.found) c.further-in-Err-find.ensures.stays

pub returns-in-Err-find-clause-unread : goal.returns-in-Err-find-clause-unread
returns-in-Err-find-clause-unread g c = λ s took.
    let came = rw c.in-Ok-true.field-0-test at c.in-Ok-true.ensures.ok in
    let seen = c.shown-2.ensures.same ∙ c.deref-2.ensures.value in
    unread_behind g.R.Source.refusals _ s _ _ c.take_byte.new.bytes.items (took_more _ _ _ _ came s took) c.in-Err-find.error c.further-in-Err-find.result refl
    (rw seen at c.in-Err-find.ensures.found) c.further-in-Err-find.ensures.stays (subst AreBytes seen c.shown-2.ensures.bytes)

pub returns-in-Ok-false-clause-unread : goal.returns-in-Ok-false-clause-unread
returns-in-Ok-false-clause-unread g c = λ s took.
    let none = rw c.in-Ok-false.field-0-test at c.in-Ok-false.ensures.ok in
    ended_behind g.R.Source.refusals _ s _ _ c.args.bytes.now.items took c.further.result
    (subst AreBytes (c.shown.ensures.same ∙ c.deref.ensures.value ∙ none.2) c.shown.ensures.bytes) c.requires.none none.0 none.1
