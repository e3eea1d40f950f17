-- What a slice encodes whose only item a step read.
use Rattle.std.proofs.Common.{◌≡◌, ◌⊎◌, inl, inr, ◌∙◌, ℕ, ◌-◌, ◌^◌, ◌<◌, List, ◌++◌, length, pos, refl, sym, subst, append-nil, arith}
use Rattle.cbor_model.specs.Acceptable.{IsAcceptableWithin}
use Rattle.cbor_model.specs.Raw.{Raw, AreBytes}
use Rattle.cbor_model.specs.Readable.{IsBool, IsFromZero, IsInteger, IsSigned, IsText, IsUnit}
use Rattle.cbor_model.specs.Spelling.{spell}
use Rattle.cbor_model.proofs.facts.Reader.{item_found}
use Rattle.cbor_read.specs.Source.{Input}
use Rattle.cbor_decode.specs.Gives.{limits, Reports}
use Rattle.cbor_decode_as.specs.Strings.{IsByteString, IsCharacter}
use Rattle.cbor_decode_as.specs.Takes.{formats_of}
use Rattle.serde.specs.Event.{boolean, signed, unsigned, single, double, character, text, octets, nothing}
use Rattle.cbor_serde_options.specs.declared.options.Options.{Options}
use Rattle.cbor_serde_de.specs.Given.{ReadsAs}
use Rattle.cbor_serde_de.specs.Numbers.{IsDouble, IsSingle}
use Rattle.cbor_serde_de.specs.Places.{EndsSlice, Starts, input_of}
use Rattle.cbor_serde_de.specs.Whole.{EncodesAs, WholeItem}
use Rattle.cbor_serde_de.specs.declared.cbor.Cbor.{Cbor}

module _ (slice : List ℕ) (options : Options) (old new : Cbor) (fits : AreBytes slice) (short : length slice < 2 ^ 64) (starts : Starts slice options old) (ends : EndsSlice new) where
  -- the slice is what is to come
  reports : Reports (input_of old) slice
  reports =
      let P : Input → Type 0 = λ s. Reports s slice in
      subst P (sym starts.source) (record { is = refl; short = omega (arith, short) })

  encodes : {A : Type 0} (reads : Raw → A → Type 0) (x : A) → ReadsAs reads old x new → EncodesAs reads options.levels slice x
  encodes reads x read =
      let got = read.taken.reported slice reports in
      let l = limits (input_of old) slice in
      let found = item_found (formats_of old.decoder.formats) l.total l.room old.decoder.levels slice got.rest got.holds.item fits got.holds.is in
      let Spelled : List ℕ → Type 0 = λ rest. slice ≡ spell got.holds.item ++ rest in
      let Within : ℕ → Type 0 = λ levels. IsAcceptableWithin levels got.holds.item in
      record {
        item = got.holds.item;
        spelled = sym (subst Spelled (ends got.rest got.reports) found.0.spelled ∙ append-nil (spell got.holds.item));
        acceptable = subst Within starts.levels found.0.acceptable;
        means = got.holds.means;
      }

  -- what is read of an item in two ways
  either : {A B : Type 0} (one other : Raw → A → Type 0) (x : A) (goal : Raw → B → Type 0) (y : B)
      → ((r : Raw) → one r x → goal r y) → ((r : Raw) → other r x → goal r y)
      → ReadsAs one old x new ⊎ ReadsAs other old x new → EncodesAs goal options.levels slice y
  either one other x goal y first second (inl read) = let e = encodes one x read in record {
    item = e.item;
    spelled = e.spelled;
    acceptable = e.acceptable;
    means = first _ e.means;
  }
  either one other x goal y first second (inr read) = let e = encodes other x read in record {
    item = e.item;
    spelled = e.spelled;
    acceptable = e.acceptable;
    means = second _ e.means;
  }

pub whole_item : WholeItem
whole_item slice options old new (boolean b) fits short starts given ends = encodes slice options old new fits short starts ends IsBool b given
whole_item slice options old new (signed z) fits short starts given ends =
    either slice options old new fits short starts ends IsInteger (IsSigned (2 ^ 63 - 1)) z IsInteger z (λ r h. h) (λ r h. h.0) given
whole_item slice options old new (unsigned n) fits short starts given ends =
    either slice options old new fits short starts ends (IsFromZero (2 ^ 128 - 1)) (IsFromZero (2 ^ 64 - 1)) n IsInteger (pos n) (λ r h. h.0) (λ r h. h.0) given
whole_item slice options old new (single x) fits short starts given ends = encodes slice options old new fits short starts ends IsSingle x given
whole_item slice options old new (double x) fits short starts given ends = encodes slice options old new fits short starts ends IsDouble x given
whole_item slice options old new (character c) fits short starts given ends = encodes slice options old new fits short starts ends IsCharacter c given
whole_item slice options old new (text b) fits short starts given ends = encodes slice options old new fits short starts ends IsText b given
whole_item slice options old new (octets b) fits short starts given ends = encodes slice options old new fits short starts ends IsByteString b given
whole_item slice options old new nothing fits short starts given ends = encodes slice options old new fits short starts ends IsUnit tt given
whole_item slice options old new _ fits short starts given ends = tt
