-- What is taken of the bytes to come for the content of a variant, by the definitions.
use Rattle.std.specs.Prelude.{◌≡◌, ◌⊎◌, ℕ, ◌+◌, Bool, List, [], ◌∷◌, length, Result}
use Rattle.std.specs.Prelude.{MatchResult, refl}
use Rattle.cbor_model.specs.Acceptable.{FitsScratch}
use Rattle.cbor_model.specs.Formats.{Formats}
use Rattle.cbor_model.specs.Raw.{Raw, AreBytes}
use Rattle.cbor_model.specs.Readable.{Context, IsUnit, PassesTags}
use Rattle.cbor_io.specs.declared.error.Error.{Error}
use Rattle.cbor_io.specs.declared.read_error.ReadErrorCode.{ReadErrorCode}
use Rattle.cbor_io.specs.Error.{code_of, offset_of}
use Rattle.cbor_read.specs.Source.{Input, Lends}
use Rattle.cbor_decode.specs.Gives.{ReportsIo, Reports}
use Rattle.cbor_decode.specs.declared.cursor.Remaining.{Remaining}
use Rattle.cbor_decode.specs.declared.cursor.Remaining.TheVariants.{Counted}
use Rattle.cbor_decode_as.specs.Accesses.{TakesPart}
use Rattle.cbor_decode_as.specs.Enums.{IsNothing, IsPart}
use Rattle.cbor_decode_as.specs.Takes.{ExcusedBy, lending}
use Rattle.cbor_decode_as.specs.Variants.{TakesContent}
use Rattle.cbor_decode_as.specs.declared.variant.Form.{Form}
use Rattle.cbor_decode_as.specs.declared.variant.Form.TheVariants as form
use Rattle.cbor_de.specs.ItemTaken.{BeginsAs, BeginsAsNone, TookItem}
use Rattle.cbor_de.specs.PartTaken.{Comes, Ends}

-- ---- one part

-- One item is the content of an enum in this form: in an array it comes, and the array ends behind it;
-- in a map it is the value; and an identifier alone has no item.
abbrev pub IsWhole : Form → List ℕ → List ℕ → List ℕ → Type 0
IsWhole (form.Array remaining) bytes behind rest =
    (left : Remaining) × Comes remaining left bytes × Ends left behind rest
IsWhole form.Map bytes behind rest = behind ≡ rest
IsWhole form.Alone bytes behind rest = ⊥

-- The bytes are an item that is read as x, the whole content of an enum in this form, and the rest.
pub record BeginsOnly {A : Type 0} (f : Formats) (levels : ℕ) (reads : Raw → A → Type 0) (form : Form)
    (bytes : List ℕ) (x : A) (rest : List ℕ) : Type 0 where
  pub behind : List ℕ
  pub part : BeginsAs f levels reads bytes x behind
  pub whole : IsWhole form bytes behind rest

-- The source has just the rest to come, and counted the bytes of the content.
pub record TookOnly {A : Type 0} (f : Formats) (levels : ℕ) (reads : Raw → A → Type 0) (form : Form)
    (s t : Input) (bytes : List ℕ) (x : A) : Type 0 where
  pub rest : List ℕ
  pub begins : BeginsOnly f levels reads form bytes x rest
  pub reports : Reports t rest
  pub count : t.offset + length rest ≡ s.offset + length bytes

-- No such content is there whose chunks fit the buffer.
abbrev pub LacksOnly : {A : Type 0} → Formats → ℕ → (Raw → A → Type 0) → Form → Input → List ℕ → Type 0
LacksOnly {A} f levels reads form s bytes = (x : A) (rest : List ℕ)
    → (begins : BeginsOnly f levels reads form bytes x rest)
    → FitsScratch s.room begins.part.item → ⊥

-- Ok took the one part; of an Err none is there, or memory ran out, or the device has a fault.
abbrev pub NewtypeTaken : {A : Type 0} → (Context → Raw → A → Type 0) → Type 0
NewtypeTaken {A} reads = (refusals : ReadErrorCode → Bool) (f : Formats) (l : Lends) (levels : ℕ)
    (form : Form) (s t : Input) (bytes : List ℕ) (r : Result A Error)
    → Reports s bytes → AreBytes bytes
    → TakesContent refusals f (IsPart (reads (lending f l))) levels form s t r
    → MatchResult r (TookOnly f levels (reads (lending f l)) form s t bytes)
    (λ e. ExcusedBy (ReportsIo refusals) (code_of e) (offset_of e)
    ⊎ LacksOnly f levels (reads (lending f l)) form s bytes)

-- ---- no part

-- Nothing follows an identifier alone; in an array or a map null or undefined is the content (RFC 7049,
-- section 2.3).
abbrev pub BeginsNothing : Formats → ℕ → Form → List ℕ → List ℕ → Type 0
BeginsNothing f levels (form.Array remaining) bytes rest =
    BeginsOnly f levels (PassesTags IsUnit) (form.Array remaining) bytes tt rest
BeginsNothing f levels form.Map bytes rest =
    BeginsOnly f levels (PassesTags IsUnit) form.Map bytes tt rest
BeginsNothing f levels form.Alone bytes rest = bytes ≡ rest

-- The source has just the rest to come, and counted the bytes of the content.
pub record TookNothing (f : Formats) (levels : ℕ) (form : Form) (s t : Input) (bytes : List ℕ)
    : Type 0 where
  pub rest : List ℕ
  pub begins : BeginsNothing f levels form bytes rest
  pub reports : Reports t rest
  pub count : t.offset + length rest ≡ s.offset + length bytes

abbrev pub LacksNothing : Formats → ℕ → Form → List ℕ → Type 0
LacksNothing f levels form bytes = (rest : List ℕ) → BeginsNothing f levels form bytes rest → ⊥

-- Ok took it; of an Err no such content is there, or memory ran out, or the device has a fault.
abbrev pub UnitTaken : Type 0
UnitTaken = (refusals : ReadErrorCode → Bool) (f : Formats) (levels : ℕ) (form : Form) (s t : Input)
    (bytes : List ℕ) (r : Result (Unit {0}) Error)
    → Reports s bytes → AreBytes bytes → TakesContent refusals f IsNothing levels form s t r
    → MatchResult r (λ u. TookNothing f levels form s t bytes)
    (λ e. ExcusedBy (ReportsIo refusals) (code_of e) (offset_of e) ⊎ LacksNothing f levels form bytes)

-- ---- a part of several

-- Ok took the part that comes; of an Err none comes that is read as something, or memory ran out, or the
-- device has a fault.
abbrev pub PartTaken : {A : Type 0} → (Context → Raw → A → Type 0) → Type 0
PartTaken {A} reads = (refusals : ReadErrorCode → Bool) (f : Formats) (l : Lends) (levels : ℕ)
    (remaining behind : Remaining) (s t : Input) (bytes : List ℕ) (r : Result A Error)
    → Reports s bytes → AreBytes bytes
    → TakesPart refusals f (reads (lending f l)) levels remaining behind s t r
    → MatchResult r
    (λ x. Comes remaining behind bytes × TookItem f levels (reads (lending f l)) s t bytes x)
    (λ e. ExcusedBy (ReportsIo refusals) (code_of e) (offset_of e)
    ⊎ ((left : Remaining) → Comes remaining left bytes
    → BeginsAsNone f levels (reads (lending f l)) s bytes))

-- ---- examples

-- 05 is the whole content where one item remains of an array,
last_item : IsWhole (form.Array (Counted 1)) (0x05 ∷ []) [] []
last_item = (Counted 0, refl, (refl, refl))

-- or in a map.
value : IsWhole form.Map (0x05 ∷ []) [] []
value = refl
