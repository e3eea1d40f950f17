use Rattle.std.proofs.Common.{◌≡◌, ◌∙◌, ◌<◌, ◌^◌, length, Some, Ok, ap, sym, subst, arith}
use Rattle.cbor_model.specs.Raw.{AreBytes}
use Rattle.cbor_model.specs.Reader.{item_at}
use Rattle.cbor_read.specs.Source.{Input, fixed_refusals, start_of_slice}
use Rattle.cbor_read.specs.Sources.{input_of_slice_fixed}
use Rattle.cbor_decode.specs.Decoder.{formats_of}
use Rattle.cbor_decode.specs.Gives.{ReportsIo, Step, Stopped, values}
use Rattle.cbor_decode.specs.Heads.{passed}
use Rattle.cbor_decode_as.specs.RawItems.{StandsWithin}
use Rattle.cbor_decode_as.proofs.RawItems.{item_passed, none_passed}
use Rattle.cbor_decode_as.proofs.raw.end_with_scratch.Goals as goal

pub returns-in-Ok : goal.returns-in-Ok
returns-in-Ok c =
    let bytes = c.args.bytes.now in
    let fits : AreBytes bytes = λ i. omega (arith, c.type_inv.bytes i) in
    let short : length bytes < 2 ^ 64 = omega arith in
    let f = formats_of c.args.formats in
    let t = input_of_slice_fixed c.skip.new.self.source in
    let start : input_of_slice_fixed c.new-decoder.result.source ≡ start_of_slice bytes (Some (length c.args.scratch.now)) = ap input_of_slice_fixed c.new-decoder.ensures.source ∙ c.new.ensures in
    let step = subst (λ (s : Input). Step s t (λ l bs rest. passed (item_at (values f l) c.args.levels bs) ≡ Ok (tt, rest))) start c.in-Ok.ensures.read in
    subst (StandsWithin f c.args.levels (Some (length c.args.scratch.now)) bytes) (sym c.offset.ensures) (item_passed f c.args.levels (Some (length c.args.scratch.now)) bytes fits short t step)

no_device : ReportsIo fixed_refusals → ⊥
no_device device = absurd cc

pub returns-in-Err : goal.returns-in-Err
returns-in-Err c =
    let bytes = c.args.bytes.now in
    let fits : AreBytes bytes = λ i. omega (arith, c.type_inv.bytes i) in
    let short : length bytes < 2 ^ 64 = omega arith in
    let f = formats_of c.args.formats in
    let t = input_of_slice_fixed c.skip.new.self.source in
    let start : input_of_slice_fixed c.new-decoder.result.source ≡ start_of_slice bytes (Some (length c.args.scratch.now)) = ap input_of_slice_fixed c.new-decoder.ensures.source ∙ c.new.ensures in
    let stopped = subst (λ (s : Input). Stopped fixed_refusals (λ l bs. passed (item_at (values f l) c.args.levels bs)) s t c.skip.new.self.refusal c.in-Err.refused) start c.in-Err.ensures.read in
    none_passed f c.args.levels (Some (length c.args.scratch.now)) bytes fits short {t = t} fixed_refusals no_device c.skip.new.self.refusal c.in-Err.refused c.error.result c.error.ensures.reports stopped
