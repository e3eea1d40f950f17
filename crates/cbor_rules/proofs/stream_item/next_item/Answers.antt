use Rattle.std.proofs.Common.{inr, sym, subst, ℕ}
use Rattle.cbor_model.specs.Acceptable.{max_depth}
use Rattle.cbor_model.specs.Raw.{Raw}
use Rattle.cbor_io.specs.Error.{IsFurther}
use Rattle.cbor_de.specs.Whole.{from_reader_asks, from_reader_context}
use Rattle.cbor_rules.specs.RawByRules.{GathersByRules}
use Rattle.cbor_rules.specs.Rules.{under}
use Rattle.cbor_rules.specs.Streams.{RefusesAs}
use Rattle.cbor_rules.proofs.RawByRules.{none_taken}
use Rattle.cbor_rules.proofs.StreamsTaken.{is_read, item_is, refuses_taken, takes_item}
use Rattle.cbor_rules.proofs.stream_item.next_item.Goals as goal

pub returns-in-Ok-clause-answers : goal.returns-in-Ok-clause-answers
returns-in-Ok-clause-answers g c =
    let s = g.R.Source.source c.args.de.now.decoder.source in
    let t = g.R.Source.source c.next_raw_item_with_tags.new.de.decoder.source in
    let terms = under c.args.rules c.args.tags.now in
    let got = rw (c.in-Ok-Some.field-0-is, c.requires) at c.in-Ok-Some.ensures.answers.found in
    let taken = subst (GathersByRules terms max_depth s t) (sym c.into_bytes.ensures.bytes) got in
    let reads = g.T.Readable.reads from_reader_context in
    let bytes = c.into_bytes.result.items in
    let found = c.in-Ok.ensures.answers.found in
    record {
      found = takes_item terms s t bytes taken reads c.in-Ok.value found;
      every = λ bs item rest reports begins.
          subst (λ (r : Raw). reads r c.in-Ok.value) {x = taken.gathered.item.item} (item_is terms s t bytes taken g.R.Source.refusals bs item rest reports begins) (is_read terms s t bytes taken reads c.in-Ok.value found);
      departed = tt;
      unread = tt;
      at_end = λ reports. tt;
    }

pub returns-in-Err-from_vec-clause-answers : goal.returns-in-Err-from_vec-clause-answers
returns-in-Err-from_vec-clause-answers g c =
    let s = g.R.Source.source c.args.de.now.decoder.source in
    let t = g.R.Source.source c.next_raw_item_with_tags.new.de.decoder.source in
    let terms = under c.args.rules c.args.tags.now in
    let got = rw (c.in-Ok-Some.field-0-is, c.requires) at c.in-Ok-Some.ensures.answers.found in
    let taken = subst (GathersByRules terms max_depth s t) (sym c.into_bytes.ensures.bytes) got in
    let reads = g.T.Readable.reads from_reader_context in
    let asks = g.T.Readable.asks_memory from_reader_asks in
    let type = g.T.Readable in
    let bytes = c.into_bytes.result.items in
    let e = c.in-Err-from_vec in
    let further = subst (λ (n : ℕ). IsFurther n e.error c.further.result) c.offset-start.ensures c.further.ensures in
    let refused = refuses_taken terms s t bytes taken type.passes_over type.total type.reports_faults type.wrong_forms reads asks e.error c.further.result further e.ensures.answers e.ensures.form in
    record {
      found = tt;
      every = λ bs item rest reports begins.
          inr (subst (λ (r : Raw). RefusesAs type.passes_over type.total type.reports_faults type.wrong_forms reads asks s.offset r c.further.result) {x = taken.gathered.item.item} (item_is terms s t bytes taken g.R.Source.refusals bs item rest reports begins) refused);
      departed = tt;
      unread = inr (record { bytes = bytes; taken = taken; refused = refused });
      at_end = λ reports. absurd (none_taken terms max_depth s t bytes taken reports);
    }
