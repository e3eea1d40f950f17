use Rattle.std.proofs.Common.{◌∙◌, refl, subst}
use Rattle.cbor_model.specs.Refusal.{end_in_map}
use Rattle.cbor_read.specs.Sources.{input_of_slice}
use Rattle.cbor_decode.specs.Gives.{Step}
use Rattle.cbor_decode.specs.Heads.{remaining_of}
use Rattle.cbor_decode_as.specs.MapAccesses.{Comes}
use Rattle.cbor_decode_as.specs.Takes.{formats_of}
use Rattle.cbor_serde_de.specs.Places.{input_of}
use Rattle.cbor_serde_de.proofs.Ends.{closes, key_comes, map_ends}
use Rattle.cbor_serde_de.proofs.cbor.Cbor.more.Goals as goal

pub returns-in-Ok-true : goal.returns-in-Ok-true
returns-in-Ok-true c =
    let old = c.args.self.now in
    let f = formats_of old.decoder.formats in
    let source = c.more_pairs.new.decoder.source in
    let behind = c.more_pairs.new.remaining in
    let read = subst (λ more. Step (input_of old) (input_of_slice source) (λ l bs rest. Comes f (remaining_of old.innermost.remaining) (remaining_of behind) more bs rest)) c.in-Ok-true.field-0-test c.in-Ok-true.ensures.read in
    record {
      comes = key_comes (input_of old) (input_of_slice source) f old.innermost.remaining behind read;
      kept = record { around = refl; settings = c.in-Ok-true.ensures.settings };
    }

pub returns-in_ok-leave-in-Ok-false : goal.returns-in_ok-leave-in-Ok-false
returns-in_ok-leave-in-Ok-false c =
    let old = c.args.self.now in
    let f = formats_of old.decoder.formats in
    let source = c.more_pairs.new.decoder.source in
    let behind = c.more_pairs.new.remaining in
    let read = subst (λ more. Step (input_of old) (input_of_slice source) (λ l bs rest. Comes f (remaining_of old.innermost.remaining) (remaining_of behind) more bs rest)) c.in-Ok-false.field-0-test c.in-Ok-false.ensures.read in
    let left = c.in_ok-leave-in-Ok-false.ensures in
    closes end_in_map old c.leave.new.self source (map_ends (input_of old) (input_of_slice source) f old.innermost.remaining behind read)
    left.source left.levels left.around
    (record { whole = left.same.whole; options = left.same.options; formats = left.same.formats ∙ c.in-Ok-false.ensures.settings.formats })
