use Rattle.std.proofs.Common.{◌≡◌, ◌-◌, ◌^◌, ℕ, List, [], None, Result, Ok, Err, IfOk, MatchResult, ◌⊎◌, true, false, refl, subst, arith}
use Rattle.cbor_model.specs.Acceptable.{max_depth}
use Rattle.cbor_model.specs.Formats.{Formats, all_formats}
use Rattle.cbor_model.specs.Raw.{Raw, AreBytes}
use Rattle.cbor_model.specs.Readable.{PassesTags, IsFromZero}
use Rattle.serde_cbor.specs.Error.{code_of, offset_of}
use Rattle.serde_cbor.specs.Source.{Input, Lends, start_of_slice, slice_refusals}
use Rattle.serde_cbor.specs.Sources.{input_of_slice}
use Rattle.serde_cbor.specs.Gives.{ReportsIo, Reports}
use Rattle.serde_cbor.specs.Takes.{ExcusedBy, TakesItem, formats_of}
use Rattle.serde_cbor.specs.ItemTaken.{BeginsAs, BeginsAsNone, TookItem}
use Rattle.test_cbor.proofs.laws.first_number.Goals as goal

abbrev IsSmall : Raw → ℕ → Type 0
IsSmall = PassesTags (IsFromZero (2 ^ 8 - 1))

if_ok : {E : Type 0} (s t : Input) (bs : List ℕ) (Q : E → Type 0) (r : Result ℕ E) → MatchResult r (TookItem all_formats max_depth IsSmall s t bs) Q → IfOk r (λ n. (rest : List ℕ) × BeginsAs all_formats max_depth IsSmall bs n rest)
if_ok s t bs Q (Ok n) h = (h.rest, h.read)
if_ok s t bs Q (Err e) h = tt

pub returns : goal.returns
returns c =
    let bs = c.args.bytes.now in
    let s = start_of_slice bs None in
    let d = c.from_slice-de.result.decoder in
    let t = input_of_slice c.deserialize.new.de.decoder.source in
    let r = c.deserialize.result in
    let lends : Lends = record { whole = true; joined = false } in
    let reports : Reports s bs = record { is = refl; short = omega arith } in
    let bytes : AreBytes bs = λ i. omega (arith, c.type_inv.bytes i) in
    let made = c.from_slice-de.ensures in
    let here = subst (λ (x : Input). TakesItem slice_refusals (formats_of d.formats) IsSmall d.levels x t r) made.input c.deserialize.ensures.read in
    let deep = subst (λ (n : ℕ). TakesItem slice_refusals (formats_of d.formats) IsSmall n s t r) made.levels here in
    let read = subst (λ (f : Formats). TakesItem slice_refusals f IsSmall max_depth s t r) made.formats deep in
    if_ok s t bs (λ e. ExcusedBy (ReportsIo slice_refusals) (code_of e) (offset_of e) ⊎ BeginsAsNone all_formats max_depth IsSmall s bs) r
    (c.item_taken.ensures slice_refusals all_formats lends max_depth s t bs r reports bytes read)
