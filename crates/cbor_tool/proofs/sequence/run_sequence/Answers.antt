use Rattle.std.proofs.Common.{◌≡◌, ℕ, ◌∙◌, true, false, refl, subst}
use Rattle.cbor_model.specs.Acceptable.{max_depth}
use Rattle.cbor_model.specs.Formats.{Formats}
use Rattle.cbor_model.specs.Raw.{Raw}
use Rattle.cbor_model.specs.Readable.{Context}
use Rattle.cbor_model.specs.Value.{value}
use Rattle.cbor_value.specs.declared.Value.{Value}
use Rattle.serde_cbor.specs.Source.{reader_refusals}
use Rattle.serde_cbor.specs.Sources.{input_of_reader}
use Rattle.serde_cbor.specs.Streams.{standing}
use Rattle.serde_cbor.specs.Takes.{ReportsItem}
use Rattle.serde_cbor.specs.View.{view}
use Rattle.cbor_tool.proofs.StreamItems.{item_given}
use Rattle.cbor_tool.proofs.Sequences.{failed_behind, lends, one_more, refused_behind, storable_taken}
use Rattle.cbor_tool.proofs.sequence.run_sequence.Goals as goal

-- as which value an item is read
abbrev reads : Context → Raw → Value → Type 0
reads c r x = view x ≡ value r

pub returns-in-Err-clause-stopped : goal.returns-in-Err-clause-stopped
returns-in-Err-clause-stopped g c input gave =
    let before = c.items.invariant in
    let far = before.far input gave in
    let s = standing (input_of_reader g.R.Read.remaining) c.items.stream in
    let given = rw c.in-Err.is at c.in-Some.ensures.steps in
    let fault = subst (λ (f : Formats). ReportsItem false true reader_refusals f max_depth s.input c.in-Err.error) before.formats
    (subst (λ (n : ℕ). ReportsItem false true reader_refusals s.formats n s.input c.in-Err.error) before.levels given.fault) in
    refused_behind c.args.form input s.input (g.W.Write.contents c.args.writer.now) (g.W.Write.contents c.items.writer) far c.in-Err.error refl
    (c.item_refused_first.ensures reader_refusals max_depth s.input far.rest c.in-Err.error far.reports far.are_bytes fault)

pub returns-in-Err-answer_item-clause-stopped : goal.returns-in-Err-answer_item-clause-stopped
returns-in-Err-answer_item-clause-stopped g c input gave =
    let before = c.items.invariant in
    let far = before.far input gave in
    let s = standing (input_of_reader g.R.Read.remaining) c.items.stream in
    let t = standing (input_of_reader g.R.Read.remaining) c.next.new.self in
    let given = rw c.in-Ok.is at c.in-Some.ensures.steps in
    let took = item_given reads c.item_taken.ensures lends s t far.rest before.levels before.formats far.reports far.are_bytes c.in-Ok.item given in
    failed_behind c.args.form input s.input (g.W.Write.contents c.args.writer.now) (g.W.Write.contents c.items.writer) far t.input c.in-Ok.item took (g.W.Write.contents c.answer_item.new.writer)
    c.in-Err-answer_item.error (c.in-Err-answer_item.ensures.err (storable_taken s.input t.input far.rest c.in-Ok.item took))

pub items-preserved : goal.items-preserved
items-preserved g c =
    let before = c.items.invariant in
    let s = standing (input_of_reader g.R.Read.remaining) c.items.stream in
    let t = standing (input_of_reader g.R.Read.remaining) c.next.new.self in
    let given = rw c.in-Ok.is at c.in-Some.ensures.steps in
    record {
      far = λ input gave.
          let far = before.far input gave in
          let took = item_given reads c.item_taken.ensures lends s t far.rest before.levels before.formats far.reports far.are_bytes c.in-Ok.item given in
          one_more c.args.form input s.input (g.W.Write.contents c.args.writer.now) (g.W.Write.contents c.items.writer) far t.input c.in-Ok.item took (g.W.Write.contents c.answer_item.new.writer)
          c.in_default-answer_item.ensures.ok;
      levels = given.levels ∙ before.levels;
      formats = given.formats ∙ before.formats;
      going = given.done;
    }
