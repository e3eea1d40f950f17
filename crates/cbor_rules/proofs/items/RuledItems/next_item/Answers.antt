use Rattle.std.proofs.Common.{◌≡◌, ◌⊎◌, inl, inr, true, refl, rules}
use Rattle.cbor_de.specs.Whole.{from_slice_asks, from_slice_context}
use Rattle.cbor_rules.specs.Answers.{IfUnread, IsMemory}
use Rattle.cbor_rules.specs.NextItem.{standing, ReportsDepartureFrom}
use Rattle.cbor_rules.specs.Rules.{is_unique}
use Rattle.cbor_rules.specs.Unique.{HasPair}
use Rattle.cbor_rules.proofs.ItemsTaken.{departing, departs_so, given, more_to_come, not_by_rules, of_item, on_err_always, read_as}
use Rattle.cbor_rules.proofs.Reading.{only_unread, where_any}
use Rattle.cbor_rules.proofs.items.RuledItems.next_item.Goals as goal

-- not read
pub returns-in_err-value : goal.returns-in_err-value
returns-in_err-value g c =
    let s = standing c.args.self.now in
    let asks = g.T.Readable.asks_memory from_slice_asks in
    let refused = c.in_err-value.ensures in
    record {
      answers = record {
        found = search rules;
        at_end = on_err_always c.from_residual.result (more_to_come s c.args.self.now.within c.if-self.false);
        stays = search rules;
        accepted = λ x rest front. only_unread IsMemory c.from_residual.result _ c.from_residual.ensures.1 (refused.accepted x rest front.read);
        departs = λ x rest front. only_unread (ReportsDepartureFrom s.taken s.terms front.item) c.from_residual.result _ c.from_residual.ensures.1 (refused.accepted x rest front);
        departed = search rules;
        every = λ item rest begins. search rules;
        first = search rules;
        form = search rules;
        fault = search rules;
        memory = λ x rest front.
            only_unread (IfUnread (λ e. asks front.item ⊎ ((is_unique s.terms.rules.keys ≡ true) × HasPair front.item))) c.from_residual.result _ c.from_residual.ensures.1 (inl (refused.memory x rest front));
      };
    }

-- read, and departs
pub returns-in-Some : goal.returns-in-Some
returns-in-Some g c =
    let s = standing c.args.self.now in
    let reads = g.T.Readable.reads from_slice_context in
    let read = c.in_ok-value in
    let walked = c.in_ok-departure in
    record {
      answers = record {
        found = search rules;
        at_end = more_to_come s c.args.self.now.within c.if-self.false;
        stays = search rules;
        accepted = λ x rest front. not_by_rules reads s read.value read.end read.ensures.found _ refl walked.field-0 walked.ensures.first c.in-Some.departure c.in-Some.is x rest front;
        departs = λ x rest front. departs_so reads s read.value read.end read.ensures.found _ refl walked.field-0 walked.ensures.first c.in-Some.departure c.in-Some.is front.item rest front.begins;
        departed = departing reads s read.value read.end read.ensures.found _ refl walked.field-0 walked.ensures.first c.in-Some.departure c.in-Some.is;
        every = λ item rest begins.
            where_any g.T.Readable.total (departs_so reads s read.value read.end read.ensures.found _ refl walked.field-0 walked.ensures.first c.in-Some.departure c.in-Some.is item rest begins);
        first = search rules;
        form = search rules;
        fault = search rules;
        memory = λ x rest front. search rules;
      };
    }

-- read, and departs nowhere
pub returns-in-None : goal.returns-in-None
returns-in-None g c =
    let s = standing c.args.self.now in
    let reads = g.T.Readable.reads from_slice_context in
    let read = c.in_ok-value in
    let walked = c.in_ok-departure in
    record {
      answers = record {
        found = given reads s read.value read.end read.ensures.found _ refl walked.field-0 walked.ensures.first _ refl c.in-None.is;
        at_end = search rules;
        stays = search rules;
        accepted = λ x rest front. search rules;
        departs = λ x rest front. search rules;
        departed = search rules;
        every = λ item rest begins. read_as reads s read.value read.end read.ensures.found _ refl item rest begins;
        first = search rules;
        form = search rules;
        fault = search rules;
        memory = λ x rest front. search rules;
      };
    }

-- read, and memory runs out
pub returns-in_err-departure : goal.returns-in_err-departure
returns-in_err-departure g c =
    let s = standing c.args.self.now in
    let reads = g.T.Readable.reads from_slice_context in
    let asks = g.T.Readable.asks_memory from_slice_asks in
    let read = c.in_ok-value in
    let walked = c.in_err-departure.ensures in
    record {
      answers = record {
        found = search rules;
        at_end = on_err_always c.from_residual-in_err-departure.result (more_to_come s c.args.self.now.within c.if-self.false);
        stays = search rules;
        accepted = λ x rest front. search rules;
        departs = λ x rest front. search rules;
        departed = search rules;
        every = λ item rest begins. search rules;
        first = search rules;
        form = search rules;
        fault = search rules;
        memory = λ x rest front.
            only_unread (IfUnread (λ e. asks front.item ⊎ ((is_unique s.terms.rules.keys ≡ true) × HasPair front.item))) c.from_residual-in_err-departure.result _ c.from_residual-in_err-departure.ensures.1
            (inr (walked.unique, of_item reads s read.value read.end read.ensures.found _ refl HasPair walked.key front.item rest front.begins));
      };
    }
