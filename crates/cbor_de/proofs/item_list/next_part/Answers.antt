use Rattle.std.proofs.Common.{◌∙◌, Ok}
use Rattle.cbor_decode.specs.declared.formats.Formats.{Formats}
use Rattle.cbor_decode_as.specs.Takes.{context}
use Rattle.cbor_de.proofs.parts.AtHand.{read_here, forms_here}
use Rattle.cbor_de.proofs.parts.ItemLists.{part_answer}
use Rattle.cbor_de.proofs.refusals.Forms.{later_err}
use Rattle.cbor_de.specs.ItemLists.{length_text}
use Rattle.cbor_de.proofs.parts.ItemLists.{short_later, short_told, short_unmore}
use Rattle.cbor_model.specs.Formats.{all_formats}
use Rattle.cbor_decode.specs.Heads.{remaining_of}
use Rattle.cbor_decode_as.specs.Accesses.{items_at}
use Rattle.cbor_decode_as.proofs.facts.Arrays.{comes}
use Rattle.cbor_decode_as.proofs.facts.Refusals.{always}
use Rattle.cbor_de.specs.Calls.{reports_any}
use Rattle.cbor_de.proofs.parts.ArrayFaults.{came_err, next_fault}
use Rattle.cbor_de.proofs.refusals.OwnFaults.{message_if_any}
use Rattle.cbor_de.proofs.item_list.next_part.Goals as goal

pub returns-in-Some-clause-read : goal.returns-in-Some-clause-read
returns-in-Some-clause-read g c =
    let old = c.args.de.now.decoder in
    let mid = c.more_items.new.decoder in
    part_answer (λ (f : Formats). g.T.Readable.reads (context f g.R.Source.lends)) old.formats mid.formats old.levels mid.levels c.more_items.ensures.settings.formats c.more_items.ensures.settings.levels
    (g.R.Source.source old.source) (g.R.Source.source mid.source) (g.R.Source.source c.at_hand.new.de.decoder.source) c.args.remaining.now c.more_items.new.remaining c.in-Ok-true.field-0 c.in-Ok-true.field-0-test g.R.Source.refusals
    c.in-Ok-true.ensures.read (Ok c.in-Some.item) c.in-Some.ensures.read

pub returns-in-None-clause-read : goal.returns-in-None-clause-read
returns-in-None-clause-read g c =
    let old = c.args.de.now.decoder in
    let mid = c.more_items.new.decoder in
    let same = c.at_hand.new.de.decoder in
    let t = g.R.Source.source c.read_gathered.new.de.decoder.source in
    let reads = λ (f : Formats). g.T.Readable.reads (context f g.R.Source.lends) in
    let read = read_here mid.formats same.formats c.in-None.ensures.settings.formats (g.R.Source.source mid.source) (g.R.Source.source same.source) c.in-None.ensures.read g.R.Source.refusals reads mid.levels same.levels c.in-None.ensures.settings.levels t c.read_gathered.result c.read_gathered.ensures.read in
    part_answer reads old.formats mid.formats old.levels mid.levels c.more_items.ensures.settings.formats c.more_items.ensures.settings.levels
    (g.R.Source.source old.source) (g.R.Source.source mid.source) t c.args.remaining.now c.more_items.new.remaining c.in-Ok-true.field-0 c.in-Ok-true.field-0-test g.R.Source.refusals
    c.in-Ok-true.ensures.read c.read_gathered.result read

pub returns-in-None-clause-form : goal.returns-in-None-clause-form
returns-in-None-clause-form g c =
    let mid = c.more_items.new.decoder in
    let same = c.at_hand.new.de.decoder in
    let form = forms_here mid.formats same.formats c.in-None.ensures.settings.formats (g.R.Source.source mid.source) (g.R.Source.source same.source) c.in-None.ensures.read g.T.Readable.wrong_forms c.read_gathered.result c.read_gathered.ensures.form in
    later_err g.T.Readable.wrong_forms c.args.de.now.decoder.formats mid.formats _ _ c.read_gathered.result c.more_items.ensures.settings.formats c.in-Ok-true.ensures.read.took form

-- ---- too few items

pub returns-in-None-clause-short : goal.returns-in-None-clause-short
returns-in-None-clause-short g c =
    let old = c.args.de.now.decoder in
    short_later g.R.Source.refusals (length_text c.args.before c.args.expected) c.args.remaining.now (g.R.Source.source old.source) (g.R.Source.source c.more_items.new.decoder.source) c.more_items.new.remaining c.in-Ok-true.field-0 c.read_gathered.result c.in-Ok-true.field-0-test c.in-Ok-true.ensures.read

pub returns-in-Ok-false-clause-short : goal.returns-in-Ok-false-clause-short
returns-in-Ok-false-clause-short g c =
    short_told g.R.Source.refusals (length_text c.args.before c.args.expected) c.args.remaining.now (g.R.Source.source c.args.de.now.decoder.source) c.invalid_length.result c.invalid_length.ensures.text c.invalid_length.ensures.offset

pub returns-in-Err-clause-short : goal.returns-in-Err-clause-short
returns-in-Err-clause-short g c =
    short_unmore g.R.Source.refusals (length_text c.args.before c.args.expected) c.args.remaining.now (g.R.Source.source c.args.de.now.decoder.source) c.in-Err.e c.in-Err.ensures.read

-- ---- the fault

pub returns-in-None-clause-fault : goal.returns-in-None-clause-fault
returns-in-None-clause-fault g c =
    let old = c.args.de.now.decoder in
    let mid = c.more_items.new.decoder in
    let same = c.at_hand.new.de.decoder in
    let t = g.T.Readable in
    let s = g.R.Source.source old.source in
    let m = g.R.Source.source mid.source in
    let r = c.args.remaining.now in
    let new = c.more_items.new.remaining in
    came_err g.R.Source.refusals old.levels r s (reports_any t.passes_over t.total t.reports_faults) new m (g.R.Source.source same.source) same.levels c.in-None.ensures.read (c.in-None.ensures.settings.levels ∙ c.more_items.ensures.settings.levels)
    (comes s m r new c.in-Ok-true.field-0 c.in-Ok-true.field-0-test c.in-Ok-true.ensures.read) c.read_gathered.result c.read_gathered.ensures.own_fault

pub returns-in-Ok-false-clause-fault : goal.returns-in-Ok-false-clause-fault
returns-in-Ok-false-clause-fault g c =
    let old = c.args.de.now.decoder in
    let t = g.T.Readable in
    always (reports_any t.passes_over t.total t.reports_faults) (message_if_any g.R.Source.refusals (g.R.Source.source old.source) c.invalid_length.result (λ l. items_at all_formats l old.levels (remaining_of c.args.remaining.now)) c.invalid_length.ensures.message)

pub returns-in-Err-clause-fault : goal.returns-in-Err-clause-fault
returns-in-Err-clause-fault g c =
    let old = c.args.de.now.decoder in
    let t = g.T.Readable in
    always (reports_any t.passes_over t.total t.reports_faults) (next_fault g.R.Source.refusals c.in-Err.e old.levels c.args.remaining.now (g.R.Source.source old.source) c.in-Err.ensures.fault)
