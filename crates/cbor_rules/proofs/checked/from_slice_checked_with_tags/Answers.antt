use Rattle.std.proofs.Common.{◌⊎◌, inl, None, rules}
use Rattle.cbor_model.specs.Allowed.{limits_of}
use Rattle.cbor_model.specs.Formats.{all_formats}
use Rattle.cbor_io.specs.declared.error.Error.{Error}
use Rattle.cbor_io.specs.Error.{IsOutOfMemory}
use Rattle.cbor_read.specs.Source.{start_of_slice}
use Rattle.cbor_decode.specs.FirstRefusal.{ReportsFirst}
use Rattle.cbor_decode_as.specs.Takes.{WhereTotal}
use Rattle.cbor_de.specs.Forms.{MayReport}
use Rattle.cbor_de.specs.Calls.{reports_any}
use Rattle.cbor_de.specs.Whole.{RefusesUnread, ReportsOwn, from_slice_asks, from_slice_context}
use Rattle.cbor_rules.specs.Answers.{IfDeparts, IfUnread, IsMemory, ReportsItsDeparture, SpellsDeparting}
use Rattle.cbor_rules.specs.Checked.{AsksToCheck, ReportsFirstRefusal}
use Rattle.cbor_rules.specs.Rules.{under}
use Rattle.cbor_rules.proofs.CheckedFirst.{passed_on, passed_err, match_passed, read_any, any_by_rules, asks_to_check, asks_besides}
use Rattle.cbor_rules.proofs.CheckedFirst.{first_is_own, refused_first, unread_where, wanted_memory, no_form, none_departs, encode_one, read_by_rules}
use Rattle.cbor_rules.proofs.Reading.{where_any, only_unread, match_unread}
use Rattle.cbor_rules.proofs.checked.from_slice_checked_with_tags.Goals as goal

pub returns-in_err-from_slice_with_tags : goal.returns-in_err-from_slice_with_tags
returns-in_err-from_slice_with_tags g c = record {
  answers = record {
    found = search rules;
    accepted = λ x s. let first = c.in_err-from_slice_with_tags.ensures.answers in
        passed_on IsMemory c.from_residual.result _ c.from_residual.ensures.1
        (first.accepted (record {}) (any_by_rules (under c.args.rules c.args.tags.now) (g.T.Readable.reads from_slice_context) c.args.slice.now x s (record {})));
    every = λ v spelt. match_passed (λ e. WhereTotal g.T.Readable.total (ReportsItsDeparture (under c.args.rules c.args.tags.now) spelt.item e)) (g.T.Readable.reads from_slice_context spelt.item)
        c.from_residual.result _ c.from_residual.ensures.1 (where_any g.T.Readable.total (c.in_err-from_slice_with_tags.ensures.answers.every v spelt));
    departs = λ d departing. passed_err (ReportsItsDeparture (under c.args.rules c.args.tags.now) departing.spelt.item) c.from_residual.result _ c.from_residual.ensures.1
        (c.in_err-from_slice_with_tags.ensures.answers.every departing.tree departing.spelt);
    spared = λ d departing. passed_on (IfUnread (λ e. AsksToCheck c.args.rules departing.spelt.item)) c.from_residual.result _ c.from_residual.ensures.1
        (asks_to_check c.args.rules departing.spelt.item _ (c.in_err-from_slice_with_tags.ensures.answers.memory (record {}) (read_any c.args.slice.now departing.tree departing.spelt (record {}))));
    departed = passed_on (IfDeparts (SpellsDeparting (under c.args.rules c.args.tags.now) c.args.slice.now)) c.from_residual.result _ c.from_residual.ensures.1
        c.in_err-from_slice_with_tags.ensures.answers.departed;
    first = λ none. let first = c.in_err-from_slice_with_tags.ensures.answers in
        passed_err (ReportsFirstRefusal c.args.slice.now) c.from_residual.result _ c.from_residual.ensures.1
        (refused_first (under c.args.rules c.args.tags.now) c.args.slice.now _ none first.first first.departed);
    total_first = let reports = λ (e : Error). IsOutOfMemory e ⊎ ReportsFirst (limits_of None) c.args.slice.now e in
        passed_on (IfUnread (λ e. WhereTotal g.T.Readable.total (reports e))) c.from_residual.result _ c.from_residual.ensures.1
        (unread_where g.T.Readable.total reports _ c.in_err-from_slice_with_tags.ensures.answers.first);
    form = let s = start_of_slice c.args.slice.now None in
        passed_on (IfUnread (MayReport g.T.Readable.wrong_forms all_formats s)) c.from_residual.result _ c.from_residual.ensures.1
        (no_form g.T.Readable.wrong_forms s (limits_of None) c.args.slice.now _ c.in_err-from_slice_with_tags.ensures.answers.first);
    fault = λ v spelt. let unread = RefusesUnread (g.T.Readable.reads from_slice_context) None c.args.slice.now in
        passed_on (IfUnread (λ e. WhereTotal g.T.Readable.passes_over (IsOutOfMemory e ⊎ unread e))) c.from_residual.result _ c.from_residual.ensures.1
        (unread_where g.T.Readable.passes_over (λ e. IsOutOfMemory e ⊎ unread e) _
        (wanted_memory (under c.args.rules c.args.tags.now) spelt.item unread _ (c.in_err-from_slice_with_tags.ensures.answers.every v spelt)));
    own_fault = let t = g.T.Readable in
        let reports = reports_any t.passes_over t.total t.reports_faults in
        passed_on (IfUnread (ReportsOwn reports IsOutOfMemory None c.args.slice.now)) c.from_residual.result _ c.from_residual.ensures.1
        (first_is_own reports c.args.slice.now _ c.in_err-from_slice_with_tags.ensures.answers.first);
    memory = λ x kept. let any = any_by_rules (under c.args.rules c.args.tags.now) (g.T.Readable.reads from_slice_context) c.args.slice.now x kept (record {}) in
        passed_on (IfUnread (λ e. g.T.Readable.asks_memory from_slice_asks kept.spelt.item ⊎ AsksToCheck c.args.rules kept.spelt.item)) c.from_residual.result _ c.from_residual.ensures.1
        (asks_besides (g.T.Readable.asks_memory from_slice_asks kept.spelt.item) c.args.rules kept.spelt.item _ (asks_to_check c.args.rules kept.spelt.item _ (c.in_err-from_slice_with_tags.ensures.answers.memory (record {}) any.spelt)));
  };
}

pub returns-in_err-value : goal.returns-in_err-value
returns-in_err-value g c = record {
  answers = record {
    found = search rules;
    accepted = λ x s. only_unread IsMemory c.from_residual-in_err-value.result _ c.from_residual-in_err-value.ensures.1 (c.in_err-value.ensures.answers.accepted x s.spelt tt);
    every = λ v spelt. match_unread (λ e. WhereTotal g.T.Readable.total (ReportsItsDeparture (under c.args.rules c.args.tags.now) spelt.item e)) (g.T.Readable.reads from_slice_context spelt.item)
        c.from_residual-in_err-value.result _ c.from_residual-in_err-value.ensures.1 (c.in_err-value.ensures.answers.every v spelt tt);
    departs = λ d departing. absurd (none_departs (under c.args.rules c.args.tags.now) c.args.slice.now _ c.in_ok-from_slice_with_tags.ensures.answers.found d departing);
    spared = λ d departing. absurd (none_departs (under c.args.rules c.args.tags.now) c.args.slice.now _ c.in_ok-from_slice_with_tags.ensures.answers.found d departing);
    departed = search rules;
    first = λ none. absurd (encode_one (under c.args.rules c.args.tags.now) c.args.slice.now _ c.in_ok-from_slice_with_tags.ensures.answers.found none);
    total_first = only_unread (IfUnread (λ e. WhereTotal g.T.Readable.total (IsOutOfMemory e ⊎ ReportsFirst (limits_of None) c.args.slice.now e))) c.from_residual-in_err-value.result _ c.from_residual-in_err-value.ensures.1 c.in_err-value.ensures.answers.first;
    form = only_unread (IfUnread (MayReport g.T.Readable.wrong_forms all_formats (start_of_slice c.args.slice.now None))) c.from_residual-in_err-value.result _ c.from_residual-in_err-value.ensures.1 c.in_err-value.ensures.form;
    fault = λ v spelt. only_unread (IfUnread (λ e. WhereTotal g.T.Readable.passes_over (IsOutOfMemory e ⊎ RefusesUnread (g.T.Readable.reads from_slice_context) None c.args.slice.now e)))
        c.from_residual-in_err-value.result _ c.from_residual-in_err-value.ensures.1 c.in_err-value.ensures.answers.fault;
    own_fault = let t = g.T.Readable in
        only_unread (IfUnread (ReportsOwn (reports_any t.passes_over t.total t.reports_faults) IsOutOfMemory None c.args.slice.now)) c.from_residual-in_err-value.result _ c.from_residual-in_err-value.ensures.1 c.in_err-value.ensures.answers.own_fault;
    memory = λ x kept. only_unread (IfUnread (λ e. g.T.Readable.asks_memory from_slice_asks kept.spelt.item ⊎ AsksToCheck c.args.rules kept.spelt.item))
        c.from_residual-in_err-value.result _ c.from_residual-in_err-value.ensures.1 (inl (c.in_err-value.ensures.answers.memory x kept.spelt tt (c.in_err-value.ensures.answers.accepted x kept.spelt tt)));
  };
}

pub returns : goal.returns
returns g c = record {
  answers = record {
    found = read_by_rules (under c.args.rules c.args.tags.now) c.args.slice.now _ c.in_ok-from_slice_with_tags.ensures.answers.found (g.T.Readable.reads from_slice_context) c.in_ok-value.value c.in_ok-value.ensures.answers.found;
    accepted = λ x s. search rules;
    every = λ v spelt. c.in_ok-value.ensures.answers.every v spelt tt;
    departs = λ d departing. none_departs (under c.args.rules c.args.tags.now) c.args.slice.now _ c.in_ok-from_slice_with_tags.ensures.answers.found d departing;
    spared = λ d departing. search rules;
    departed = search rules;
    first = λ none. encode_one (under c.args.rules c.args.tags.now) c.args.slice.now _ c.in_ok-from_slice_with_tags.ensures.answers.found none;
    total_first = search rules;
    form = search rules;
    fault = λ v spelt. search rules;
    own_fault = search rules;
    memory = λ x kept. search rules;
  };
}
