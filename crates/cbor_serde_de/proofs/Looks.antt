-- What begins behind a look at the bytes at hand.
use Rattle.std.proofs.Common.{◌≡◌, ◌∙◌, ◌⊎◌, Result, Ok, Err, IfOk, inl, subst}
use Rattle.std.specs.Prelude.{Bool, true, false, Float}
use Rattle.cbor_read.specs.Sources.{input_of_slice}
use Rattle.cbor_read.specs.declared.slice_read.SliceRead.{SliceRead}
use Rattle.cbor_decode.specs.Gives.{Step}
use Rattle.cbor_decode.specs.declared.Decoder.{Decoder}
use Rattle.cbor_decode.specs.declared.cursor.Remaining.{Remaining}
use Rattle.cbor_decode.specs.declared.head.Head.{Head}
use Rattle.cbor_decode.specs.declared.head.Head.TheVariants as kind
use Rattle.cbor_decode_as.specs.Begins.{Begins}
use Rattle.cbor_decode_as.specs.Scalars.{IsFloatOf}
use Rattle.serde.specs.Event.{struct_begins}
use Rattle.cbor_serde_de.specs.Given.{Given, Looked, Opens, ReadsAs}
use Rattle.cbor_serde_de.specs.Numbers.{IsDouble}
use Rattle.cbor_serde_de.specs.Places.{input_of}
use Rattle.cbor_serde_de.specs.declared.cbor.Cbor.{Cbor}
use Rattle.cbor_serde_de.proofs.Decoded.{reads_also}

module _ (old : Cbor) (d : Decoder SliceRead) (new : Cbor) (source : input_of_slice d.source ≡ input_of old) (levels : d.levels ≡ old.decoder.levels) (formats : d.formats ≡ old.decoder.formats) where
  -- an array or a map
  pub opens_behind : (kind : Remaining → Head) → Opens kind (record old { decoder = d }) new → Opens kind old new
  opens_behind kind h = record {
    taken =
        subst (λ s. Step s (input_of new) (λ l bs rest. Begins kind old.decoder.levels new.decoder.levels new.innermost.remaining bs rest)) source
        (subst (λ n. Step (input_of_slice d.source) (input_of new) (λ l bs rest. Begins kind n new.decoder.levels new.innermost.remaining bs rest)) levels h.taken);
    outside = h.outside ∙ levels;
    around = h.around;
    same = record { whole = h.same.whole; options = h.same.options; formats = h.same.formats ∙ formats };
  }

  -- a struct, as an array or as a map
  pub struct_behind : (b : Bool) → Given (record old { decoder = d }) (struct_begins b) new → Given old (struct_begins b) new
  struct_behind true h = opens_behind kind.Array h
  struct_behind false h = opens_behind kind.Map h

  pub structs_behind : {E : Type 0} (r : Result Bool E) → IfOk r (λ b. Given (record old { decoder = d }) (struct_begins b) new)
      → IfOk r (λ b. Given old (struct_begins b) new ⊎ ((looked : Cbor) × Looked old looked × Given looked (struct_begins b) new))
  structs_behind (Ok b) h = inl (struct_behind b h)
  structs_behind (Err e) h = tt

-- a float is read as a double
pub doubles : {E : Type 0} (old new : Cbor) (r : Result Float E) → IfOk r (λ x. ReadsAs IsFloatOf old x new) → IfOk r (λ x. ReadsAs IsDouble old x new)
doubles old new (Ok x) h = reads_also IsFloatOf IsDouble old new x x (λ r is. inl is) h
doubles old new (Err e) h = tt
