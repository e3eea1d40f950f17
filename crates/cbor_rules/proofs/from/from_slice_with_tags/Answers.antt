use Rattle.std.proofs.Common.{◌≡◌, ◌⊎◌, inl, inr, None, true, rules, sym, ◌∙◌}
use Rattle.cbor_model.specs.Allowed.{limits_of}
use Rattle.cbor_model.specs.Formats.{all_formats}
use Rattle.cbor_io.specs.Error.{IsOutOfMemory}
use Rattle.cbor_read.specs.Source.{start_of_slice}
use Rattle.cbor_decode.specs.FirstRefusal.{ReportsFirst}
use Rattle.cbor_decode_as.specs.Takes.{WhereTotal}
use Rattle.cbor_de.specs.Forms.{MayReport}
use Rattle.cbor_de.specs.Calls.{reports_any}
use Rattle.cbor_de.specs.Whole.{RefusesUnread, ReportsOwn, from_slice_asks, from_slice_context}
use Rattle.cbor_rules.specs.Answers.{IfUnread, IsMemory, ReportsItsDeparture}
use Rattle.cbor_rules.specs.Rules.{is_unique, under}
use Rattle.cbor_rules.specs.Unique.{HasPair}
use Rattle.cbor_rules.proofs.Reading.{where_any, only_unread, match_unread, kept_none, departing, by_rules}
use Rattle.cbor_rules.proofs.from.from_slice_with_tags.Goals as goal

pub returns-in-Some : goal.returns-in-Some
returns-in-Some g c = record {
  answers = record {
    found = search rules;
    accepted = λ x s. absurd (let none = kept_none (under c.args.rules c.args.tags.now) (g.T.Readable.reads from_slice_context) c.args.slice.now c.in_ok-departure.field-0 c.in_ok-departure.ensures.first x s in let some = c.in-Some.is in cc);
    departs = λ x spelt. sym (c.in_ok-departure.ensures.first spelt.item spelt.acceptable.fits spelt.spelled) ∙ c.in-Some.is;
    every = λ v spelt. where_any g.T.Readable.total (sym (c.in_ok-departure.ensures.first spelt.item spelt.acceptable.fits spelt.spelled) ∙ c.in-Some.is);
    departed = departing (under c.args.rules c.args.tags.now) (g.T.Readable.reads from_slice_context) c.args.slice.now c.in_ok-departure.field-0 c.in_ok-departure.ensures.first c.in_ok-value.value c.in_ok-value.ensures.answers.found c.in-Some.departure c.in-Some.is;
    first = search rules;
    fault = search rules;
    own_fault = search rules;
    form = search rules;
    memory = λ x spelt. search rules;
  };
}

pub returns-in-None : goal.returns-in-None
returns-in-None g c = record {
  answers = record {
    found = by_rules (under c.args.rules c.args.tags.now) (g.T.Readable.reads from_slice_context) c.args.slice.now c.in_ok-departure.field-0 c.in_ok-departure.ensures.first c.in_ok-value.value c.in_ok-value.ensures.answers.found c.in-None.is;
    accepted = λ x s. search rules;
    departs = λ x spelt. search rules;
    every = λ v spelt. c.in_ok-value.ensures.answers.every v spelt tt;
    departed = search rules;
    first = search rules;
    fault = search rules;
    own_fault = search rules;
    form = search rules;
    memory = λ x spelt. search rules;
  };
}

pub returns-in_err-value : goal.returns-in_err-value
returns-in_err-value g c = record {
  answers = record {
    found = search rules;
    accepted = λ x s. only_unread IsMemory c.from_residual.result _ c.from_residual.ensures.1 (c.in_err-value.ensures.answers.accepted x s.spelt tt);
    departs = λ x spelt. only_unread (ReportsItsDeparture (under c.args.rules c.args.tags.now) spelt.item) c.from_residual.result _ c.from_residual.ensures.1 (c.in_err-value.ensures.answers.accepted x spelt tt);
    every = λ v spelt. match_unread (λ e. WhereTotal g.T.Readable.total (ReportsItsDeparture (under c.args.rules c.args.tags.now) spelt.item e)) (g.T.Readable.reads from_slice_context spelt.item) c.from_residual.result _ c.from_residual.ensures.1 (c.in_err-value.ensures.answers.every v spelt tt);
    departed = search rules;
    first = only_unread (IfUnread (λ e. WhereTotal g.T.Readable.total (IsOutOfMemory e ⊎ ReportsFirst (limits_of None) c.args.slice.now e))) c.from_residual.result _ c.from_residual.ensures.1 c.in_err-value.ensures.answers.first;
    fault = only_unread (IfUnread (λ e. WhereTotal g.T.Readable.passes_over (IsOutOfMemory e ⊎ RefusesUnread (g.T.Readable.reads from_slice_context) None c.args.slice.now e))) c.from_residual.result _ c.from_residual.ensures.1 c.in_err-value.ensures.answers.fault;
    own_fault = let t = g.T.Readable in
        only_unread (IfUnread (ReportsOwn (reports_any t.passes_over t.total t.reports_faults) IsOutOfMemory None c.args.slice.now)) c.from_residual.result _ c.from_residual.ensures.1 c.in_err-value.ensures.answers.own_fault;
    form = only_unread (IfUnread (MayReport g.T.Readable.wrong_forms all_formats (start_of_slice c.args.slice.now None))) c.from_residual.result _ c.from_residual.ensures.1 c.in_err-value.ensures.form;
    memory = λ x spelt. only_unread (IfUnread (λ e. g.T.Readable.asks_memory from_slice_asks spelt.item ⊎ ((is_unique c.args.rules.keys ≡ true) × HasPair spelt.item))) c.from_residual.result _ c.from_residual.ensures.1 (inl (c.in_err-value.ensures.answers.memory x spelt tt (c.in_err-value.ensures.answers.accepted x spelt tt)));
  };
}

pub returns-in_err-departure : goal.returns-in_err-departure
returns-in_err-departure g c = record {
  answers = record {
    found = search rules;
    accepted = λ x s. search rules;
    departs = λ x spelt. search rules;
    every = λ v spelt. search rules;
    departed = search rules;
    first = search rules;
    fault = search rules;
    own_fault = let t = g.T.Readable in
        let reports = reports_any t.passes_over t.total t.reports_faults in
        only_unread (IfUnread (ReportsOwn reports IsOutOfMemory None c.args.slice.now)) c.from_residual-in_err-departure.result _ c.from_residual-in_err-departure.ensures.1 (where_any reports (λ is. inl c.in_err-departure.ensures.memory));
    form = search rules;
    memory = λ x spelt. let walked = c.in_err-departure.ensures in
        only_unread (IfUnread (λ e. g.T.Readable.asks_memory from_slice_asks spelt.item ⊎ ((is_unique c.args.rules.keys ≡ true) × HasPair spelt.item))) c.from_residual-in_err-departure.result _ c.from_residual-in_err-departure.ensures.1
        (inr (walked.unique, walked.key spelt.item spelt.acceptable.fits spelt.spelled));
  };
}
