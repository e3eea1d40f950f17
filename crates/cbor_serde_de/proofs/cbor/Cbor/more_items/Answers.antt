use Rattle.std.proofs.Common.{◌≡◌, ◌∙◌, Ok, refl, subst}
use Rattle.cbor_model.specs.Refusal.{end_in_array}
use Rattle.cbor_model.specs.Reader.{next_at}
use Rattle.cbor_read.specs.Sources.{input_of_slice}
use Rattle.cbor_decode.specs.Cursor.{behind_next}
use Rattle.cbor_decode.specs.Gives.{Step}
use Rattle.cbor_decode.specs.Heads.{remaining_of}
use Rattle.cbor_serde_de.specs.Places.{input_of}
use Rattle.cbor_serde_de.proofs.Ends.{array_ends, closes}
use Rattle.cbor_serde_de.proofs.cbor.Cbor.more_items.Goals as goal

pub returns-in-Ok-true : goal.returns-in-Ok-true
returns-in-Ok-true c =
    let old = c.args.self.now in
    let source = c.more_items.new.decoder.source in
    let behind = c.more_items.new.remaining in
    record {
      comes = subst (λ more. Step (input_of old) (input_of_slice source) (λ l bs rest. next_at end_in_array (remaining_of old.innermost.remaining) bs ≡ Ok (behind_next behind more, rest))) c.in-Ok-true.field-0-test c.in-Ok-true.ensures.read;
      kept = record { around = refl; settings = c.in-Ok-true.ensures.settings };
    }

pub returns-in_ok-leave-in-Ok-false : goal.returns-in_ok-leave-in-Ok-false
returns-in_ok-leave-in-Ok-false c =
    let old = c.args.self.now in
    let source = c.more_items.new.decoder.source in
    let behind = c.more_items.new.remaining in
    let read = subst (λ more. Step (input_of old) (input_of_slice source) (λ l bs rest. next_at end_in_array (remaining_of old.innermost.remaining) bs ≡ Ok (behind_next behind more, rest))) c.in-Ok-false.field-0-test c.in-Ok-false.ensures.read in
    let left = c.in_ok-leave-in-Ok-false.ensures in
    closes end_in_array old c.leave.new.self source (array_ends (input_of old) (input_of_slice source) old.innermost.remaining behind read)
    left.source left.levels left.around
    (record { whole = left.same.whole; options = left.same.options; formats = left.same.formats ∙ c.in-Ok-false.ensures.settings.formats })
