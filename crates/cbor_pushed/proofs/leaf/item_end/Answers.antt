use Rattle.std.proofs.Common.{◌≡◌, ◌<◌, ◌^◌, ℕ, length, Ok, sym, subst, arith}
use Rattle.cbor_model.specs.Reader.{item_at}
use Rattle.cbor_read.specs.Source.{Input, slice_refusals}
use Rattle.cbor_read.specs.Sources.{input_of_slice}
use Rattle.cbor_decode.specs.Decoder.{formats_of}
use Rattle.cbor_decode.specs.Gives.{Advances, Step, Stopped, values}
use Rattle.cbor_decode.specs.Heads.{passed}
use Rattle.cbor_pushed.specs.Scanned.{EndsAt}
use Rattle.cbor_pushed.proofs.ItemsAtPlaces.{item_passed, item_refused}
use Rattle.cbor_pushed.proofs.leaf.item_end.Goals as goal

pub returns-in-Ok : goal.returns-in-Ok
returns-in-Ok c =
    let bytes = c.args.bytes.now in
    let short : length bytes < 2 ^ 64 = omega arith in
    let made = c.decoder_at-decoder.ensures in
    let f = formats_of c.decoder_at-decoder.result.formats in
    let t = input_of_slice c.skip.new.self.source in
    let levels = subst (λ (n : ℕ). Step (input_of_slice c.decoder_at-decoder.result.source) t (λ l bs rest. passed (item_at (values f l) n bs) ≡ Ok (tt, rest))) made.levels c.in-Ok.ensures.read in
    let step = subst (λ (s : Input). Step s t (λ l bs rest. passed (item_at (values f l) c.args.levels bs) ≡ Ok (tt, rest))) made.input levels in
    let further = subst (λ (s : Input). Advances s t) made.input c.in-Ok.ensures.taken in
    subst (λ (n : ℕ). EndsAt c.args.levels bytes c.args.at (Ok n)) (sym c.byte_offset.ensures)
    (item_passed bytes c.args.at c.args.levels c.requires short f t made.formats step further)

pub returns : goal.returns
returns c =
    let bytes = c.args.bytes.now in
    let short : length bytes < 2 ^ 64 = omega arith in
    let made = c.decoder_at-decoder.ensures in
    let f = formats_of c.decoder_at-decoder.result.formats in
    let t = input_of_slice c.skip.new.self.source in
    let levels = subst (λ (n : ℕ). Stopped slice_refusals (λ l bs. passed (item_at (values f l) n bs)) (input_of_slice c.decoder_at-decoder.result.source) t c.skip.new.self.refusal c.in-Err.refused) made.levels c.in-Err.ensures.read in
    let stopped = subst (λ (s : Input). Stopped slice_refusals (λ l bs. passed (item_at (values f l) c.args.levels bs)) s t c.skip.new.self.refusal c.in-Err.refused) made.input levels in
    item_refused bytes c.args.at c.args.levels c.requires short f t c.skip.new.self.refusal c.in-Err.refused c.error.result made.formats c.error.ensures.reports stopped
