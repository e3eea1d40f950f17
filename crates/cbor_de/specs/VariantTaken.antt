-- What the calls that read an enum take of the bytes to come, by the definitions.
use Rattle.std.specs.Prelude.{◌≡◌, ◌⊎◌, ℕ, ◌+◌, Bool, true, List, [], ◌∷◌, ◌++◌, length}
use Rattle.std.specs.Prelude.{Some, Result, MatchResult, refl}
use Rattle.std.proofs.Common.{lit<}
use Rattle.cbor_model.specs.Acceptable.{FitsScratch}
use Rattle.cbor_model.specs.Formats.{Formats, all_formats}
use Rattle.cbor_model.specs.Head.{HeadWidth, no_bytes, one_byte}
use Rattle.cbor_model.specs.Raw.{Raw, AreBytes}
use Rattle.cbor_io.specs.declared.error.Error.{Error}
use Rattle.cbor_io.specs.declared.read_error.ReadErrorCode.{ReadErrorCode}
use Rattle.cbor_io.specs.Error.{code_of, offset_of}
use Rattle.cbor_read.specs.Source.{Input}
use Rattle.cbor_decode.specs.Gives.{ReportsIo, Reports}
use Rattle.cbor_decode.specs.declared.cursor.Remaining.{Remaining}
use Rattle.cbor_decode.specs.declared.cursor.Remaining.TheVariants.{Counted}
use Rattle.cbor_decode_as.specs.BeginsEnum.{TakesPartsHead, TakesVariantHead}
use Rattle.cbor_decode_as.specs.Enums.{IsName, reads_names}
use Rattle.cbor_decode_as.specs.Identifiers.{IsIdentifier}
use Rattle.cbor_decode_as.specs.Takes.{ExcusedBy}
use Rattle.cbor_decode_as.specs.declared.variant.Form.{Form}
use Rattle.cbor_decode_as.specs.declared.variant.Form.TheVariants as form
use Rattle.cbor_de.specs.HeadsTaken.{BeginsBy, FitsHead, FitTags, parts_head, tag_heads}
use Rattle.cbor_de.specs.ItemTaken.{BeginsAs}
use Rattle.cbor_de.specs.PartTaken.{BeginsKey, Comes}

-- ---- an enum up to its identifier

-- The bytes are the heads of some tags, each a level further in, and what they are of: of so many
-- levels so many are left there.
pub record BeginsInTags (levels inner : ℕ) (bytes start : List ℕ) : Type 0 where
  pub tags : List (HeadWidth × ℕ)
  pub tags_fit : FitTags tags
  pub spelled : bytes ≡ tag_heads tags ++ start
  pub inside : levels ≡ length tags + inner

-- The head of an array (major type 4), of which an item comes; and so much remains behind it.
pub record OpensArray (inner left : ℕ) (remaining : Remaining) (start items : List ℕ) : Type 0 where
  pub width : HeadWidth
  pub all : Remaining
  pub fits : FitsHead width all
  pub spelled : start ≡ parts_head 4 width all ++ items
  pub level : inner ≡ left + 1
  pub comes : Comes all remaining items

-- What stands before the identifier in each form, if that form is read: an array's head; the head of
-- one byte of a map of one pair, whose key may begin so; or nothing.
abbrev pub OpensForm : Formats → Form → ℕ → ℕ → List ℕ → List ℕ → Type 0
OpensForm f (form.Array remaining) inner left start name =
    (f.legacy_enums ≡ true) × OpensArray inner left remaining start name
OpensForm f form.Map inner left start name =
    (f.standard_enums ≡ true) × (start ≡ 0xa1 ∷ name) × (inner ≡ left + 1) × BeginsKey f name
OpensForm f form.Alone inner left start name =
    (reads_names f ≡ true) × (start ≡ name) × (inner ≡ left)

-- The item is the identifier of the variant in this place. In an array or a map it may have tags of its
-- own; alone its tags are the enum's.
abbrev pub Identifies : List (List ℕ) → Form → Raw → ℕ → Type 0
Identifies names (form.Array remaining) r index = IsName names r index
Identifies names form.Map r index = IsName names r index
Identifies names form.Alone r index = IsIdentifier names r (Some index)

-- The bytes begin an enum in this form, up to the identifier of the variant in this place; the rest
-- follows it. Of so many levels so many are left.
pub record BeginsEnum (f : Formats) (names : List (List ℕ)) (levels left index : ℕ) (form : Form)
    (bytes rest : List ℕ) : Type 0 where
  pub inner : ℕ
  pub start : List ℕ
  pub tags : BeginsInTags levels inner bytes start
  pub name : List ℕ
  pub opens : OpensForm f form inner left start name
  pub identifier : BeginsAs f left (Identifies names form) name index rest

-- The source has just the rest to come, and counted the bytes before it.
pub record TookEnum (f : Formats) (names : List (List ℕ)) (levels left index : ℕ) (form : Form)
    (s t : Input) (bytes : List ℕ) : Type 0 where
  pub rest : List ℕ
  pub begins : BeginsEnum f names levels left index form bytes rest
  pub reports : Reports t rest
  pub count : t.offset + length rest ≡ s.offset + length bytes

-- No enum begins so, the chunks of whose identifier fit the buffer.
abbrev pub NoEnum : Formats → List (List ℕ) → ℕ → Input → List ℕ → Type 0
NoEnum f names levels s bytes = (left index : ℕ) (form : Form) (rest : List ℕ)
    → (begins : BeginsEnum f names levels left index form bytes rest)
    → FitsScratch s.room begins.identifier.item → ⊥

-- Ok took an enum up to its identifier; of an Err none is there, or memory ran out, or the device has
-- a fault.
abbrev pub VariantTaken : Type 0
VariantTaken = (refusals : ReadErrorCode → Bool) (f : Formats) (names : List (List ℕ))
    (levels left : ℕ) (s t : Input) (bytes : List ℕ) (r : Result (ℕ × Form) Error)
    → Reports s bytes → AreBytes bytes → TakesVariantHead refusals f names levels s t left r
    → MatchResult r (λ v. TookEnum f names levels left v.0 v.1 s t bytes)
    (λ e. ExcusedBy (ReportsIo refusals) (code_of e) (offset_of e) ⊎ NoEnum f names levels s bytes)

-- ---- the parts of a variant of several

-- The parts begin: those that remain of the enum's array; or, in a map, those of the array that is its
-- value, behind its tags and its head.
abbrev pub BeginsTuple : ℕ → ℕ → Form → Remaining → List ℕ → List ℕ → Type 0
BeginsTuple levels left (form.Array all) remaining bytes rest =
    (remaining ≡ all) × (left ≡ levels) × (bytes ≡ rest)
BeginsTuple levels left form.Map remaining bytes rest = BeginsBy 4 levels left remaining bytes rest
BeginsTuple levels left form.Alone remaining bytes rest = ⊥

-- The source has just the parts to come, and counted the bytes before them.
pub record TookTuple (levels left : ℕ) (form : Form) (s t : Input) (bytes : List ℕ)
    (remaining : Remaining) : Type 0 where
  pub rest : List ℕ
  pub begins : BeginsTuple levels left form remaining bytes rest
  pub reports : Reports t rest
  pub count : t.offset + length rest ≡ s.offset + length bytes

abbrev pub NoTuple : ℕ → Form → List ℕ → Type 0
NoTuple levels form bytes = (left : ℕ) (remaining : Remaining) (rest : List ℕ)
    → BeginsTuple levels left form remaining bytes rest → ⊥

-- Ok took what stands before the parts; of an Err none begin, or memory ran out, or the device has a
-- fault.
abbrev pub TupleTaken : Type 0
TupleTaken = (refusals : ReadErrorCode → Bool) (levels left : ℕ) (form : Form) (s t : Input)
    (bytes : List ℕ) (r : Result Remaining Error)
    → Reports s bytes → AreBytes bytes → TakesPartsHead refusals levels form s t left r
    → MatchResult r (TookTuple levels left form s t bytes)
    (λ e. ExcusedBy (ReportsIo refusals) (code_of e) (offset_of e) ⊎ NoTuple levels form bytes)

-- ---- examples

-- 82 01: the identifier 1 is the first of two items
first_of_two : OpensForm all_formats (form.Array (Counted 1)) 127 126 (0x82 ∷ 0x01 ∷ []) (0x01 ∷ [])
first_of_two = (
  refl,
  record {
    width = no_bytes;
    all = Counted 2;
    fits = lit< tt;
    spelled = refl;
    level = refl;
    comes = refl;
  },
)

-- a1 01: the identifier 1 is the key of one pair
key_of_one : OpensForm all_formats form.Map 127 126 (0xa1 ∷ 0x01 ∷ []) (0x01 ∷ [])
key_of_one = (refl, refl, refl, refl)

-- an array with a longer head is an enum too
longer_head : OpensForm all_formats (form.Array (Counted 1)) 127 126 (0x98 ∷ 0x02 ∷ 0x01 ∷ []) (0x01 ∷ [])
longer_head = (
  refl,
  record {
    width = one_byte;
    all = Counted 2;
    fits = lit< tt;
    spelled = refl;
    level = refl;
    comes = refl;
  },
)
