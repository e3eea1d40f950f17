-- What a call on the decoder read.
use Rattle.std.proofs.Common.{◌≡◌, ◌∙◌, ℕ, Ok, refl, sym}
use Rattle.cbor_model.specs.Formats.{Formats}
use Rattle.cbor_model.specs.Raw.{Raw}
use Rattle.cbor_model.specs.Readable.{PassesTags}
use Rattle.cbor_model.specs.Reader.{item_at}
use Rattle.cbor_read.specs.Source.{Input, Lends, slice_refusals}
use Rattle.cbor_read.specs.Sources.{input_of_slice}
use Rattle.cbor_read.specs.declared.EitherLifetime.{EitherLifetime}
use Rattle.cbor_read.specs.declared.slice_read.SliceRead.{SliceRead}
use Rattle.cbor_decode.specs.Decoder.{SameSettings}
use Rattle.cbor_decode.specs.Gives.{Step, values}
use Rattle.cbor_decode.specs.Heads.{passed}
use Rattle.cbor_decode.specs.declared.Decoder.{Decoder}
use Rattle.cbor_decode.proofs.facts.Readings.{value_seen}
use Rattle.cbor_decode.proofs.facts.Steps.{passed_was, step_map}
use Rattle.cbor_decode_as.specs.Strings.{IsLentString, IsLentText, LendsString, LendsText}
use Rattle.cbor_decode_as.specs.Takes.{IsRead, context, formats_of, raws}
use Rattle.cbor_decode_as.specs.declared.borrowed.EitherStr.{EitherStr}
use Rattle.cbor_decode_as.proofs.facts.Strings.{made_read}
use Rattle.cbor_serde_de.specs.Given.{IsAny, ReadsAs}
use Rattle.cbor_serde_de.specs.Places.{input_of}
use Rattle.cbor_serde_de.specs.declared.cbor.Cbor.{Cbor}
use Rattle.cbor_serde_de.proofs.Fronts.{seen_was}

-- what is read so is read as that, too
pub reads_also : {A B : Type 0} (reads : Raw → A → Type 0) (other : Raw → B → Type 0) (old new : Cbor) (x : A) (y : B) → ((r : Raw) → reads r x → other r y) → ReadsAs reads old x new → ReadsAs other old y new
reads_also reads other old new x y means h = record {
  taken = made_read slice_refusals other reads (λ l. item_at (raws (formats_of old.decoder.formats) l) old.decoder.levels) (input_of old) (input_of new) y x means h.taken;
  kept = h.kept;
}

-- an item that was passed over
pub any_passed : (f : Formats) (levels : ℕ) (s t : Input) → Step s t (λ l bs rest. passed (item_at (values f l) levels bs) ≡ Ok (tt, rest))
    → Step s t (λ l bs rest. IsRead (PassesTags IsAny) (item_at (raws f l) levels bs) tt rest)
any_passed f levels s t h =
    step_map s t (λ l bs rest. passed (item_at (values f l) levels bs) ≡ Ok (tt, rest)) (λ l bs rest. IsRead (PassesTags IsAny) (item_at (raws f l) levels bs) tt rest)
    (λ l bs rest is.
    let read = passed_was (item_at (values f l) levels bs) rest is in
    let spelt = seen_was (item_at (raws f l) levels bs) read.0 rest (sym (value_seen f l levels bs) ∙ read.1) in
    record { item = spelt.0; is = spelt.1; means = tt }) h

module _ (old : Cbor) (d : Decoder SliceRead) (settings : SameSettings old.decoder d) where
  -- what was lent
  pub text_lent : {B : Type 0} (other : Raw → B → Type 0) (l : Lends) (p : EitherStr) (y : B) → ((r : Raw) → IsLentText (context old.decoder.formats l) r p → other r y)
      → LendsText slice_refusals (context old.decoder.formats l) old.decoder.levels (input_of old) (input_of_slice d.source) (Ok p) → ReadsAs other old y (record old { decoder = d })
  text_lent other l p y means h = record {
    taken = made_read slice_refusals other (IsLentText (context old.decoder.formats l)) (λ l. item_at (raws (formats_of old.decoder.formats) l) old.decoder.levels) (input_of old) (input_of_slice d.source) y p means h;
    kept = record { around = refl; settings = settings };
  }

  pub string_lent : {B : Type 0} (other : Raw → B → Type 0) (l : Lends) (p : EitherLifetime) (y : B) → ((r : Raw) → IsLentString (context old.decoder.formats l) r p → other r y)
      → LendsString slice_refusals (context old.decoder.formats l) old.decoder.levels (input_of old) (input_of_slice d.source) (Ok p) → ReadsAs other old y (record old { decoder = d })
  string_lent other l p y means h = record {
    taken = made_read slice_refusals other (IsLentString (context old.decoder.formats l)) (λ l. item_at (raws (formats_of old.decoder.formats) l) old.decoder.levels) (input_of old) (input_of_slice d.source) y p means h;
    kept = record { around = refl; settings = settings };
  }
