-- The beginning of an enum up to its identifier, whatever follows it.
use Rattle.std.specs.Prelude.{◌≡◌, ◌≢◌, ℕ, ◌+◌, Bool, true, List, [], ◌∷◌, length, Some, Result, Ok, Err, refl}
use Rattle.std.proofs.Common.{lit<}
use Rattle.cbor_model.specs.Formats.{Formats, all_formats}
use Rattle.cbor_model.specs.Head.{no_bytes}
use Rattle.cbor_model.specs.Raw as raw
use Rattle.cbor_model.specs.Raw.{Raw}
use Rattle.cbor_model.specs.Refusal.{end_in_array}
use Rattle.cbor_model.specs.Reader.{byte_at, next_at, item_at, item_by, after_first, content_at}
use Rattle.cbor_model.specs.Reader.{number_behind}
use Rattle.cbor_model.specs.Reader as reader
use Rattle.cbor_io.specs.declared.error.Error.{Error}
use Rattle.cbor_io.specs.declared.error.ErrorCode.TheVariants.{OutOfMemory}
use Rattle.cbor_io.specs.declared.read_error.ReadErrorCode.{ReadErrorCode}
use Rattle.cbor_io.specs.Error.{code_of, offset_of}
use Rattle.cbor_read.specs.Source.{Input}
use Rattle.cbor_decode.specs.Gives.{Limits, limits, Reports, ReportsIo, Step}
use Rattle.cbor_decode.specs.Heads.{remaining_of, head_at, head_of}
use Rattle.cbor_decode.specs.declared.cursor.Remaining.{Remaining}
use Rattle.cbor_decode.specs.declared.cursor.Remaining.TheVariants.{Counted, ToBreak}
use Rattle.cbor_decode.specs.declared.head.Head.TheVariants.{Array, Break}
use Rattle.cbor_decode_as.specs.TaggedHeads.{HasHead, opened_at}
use Rattle.cbor_decode_as.specs.Tags.{passed_at}
use Rattle.cbor_decode_as.specs.Takes.{raws, FaultIfAny, IsRead, Refuses, any_item}
use Rattle.cbor_decode_as.specs.Begins.{Begins}
use Rattle.cbor_decode_as.specs.Cases.{BehindTags}
use Rattle.cbor_decode_as.specs.Enums.{IsName, reads_names}
use Rattle.cbor_decode_as.specs.Variants.{HasShape, pair_head_at, shape_of}
use Rattle.cbor_decode_as.specs.declared.variant.Form.{Form}
use Rattle.cbor_decode_as.specs.declared.variant.Form.TheVariants as form
use Rattle.cbor_decode_as.specs.declared.variant.Shape.{Shape}
use Rattle.cbor_decode_as.specs.declared.variant.Shape.TheVariants as shape

-- An array, whose first item names this place among the names.
pub record BeginsInArray (f : Formats) (names : List (List ℕ)) (l : Limits) (levels left index : ℕ)
    (remaining : Remaining) (bs rest : List ℕ) : Type 0 where
  pub read : f.legacy_enums ≡ true
  pub shape : HasShape shape.Array bs
  pub all : Remaining
  pub items : List ℕ
  pub head : Begins Array levels left all bs items
  pub first : List ℕ
  pub next : next_at end_in_array (remaining_of all) items
      ≡ Ok (Some (remaining_of remaining), first)
  pub name : IsRead (IsName names) (item_at (raws f l) left first) index rest

-- A map of one pair, whose key names it.
pub record BeginsInMap (f : Formats) (names : List (List ℕ)) (l : Limits) (levels left index : ℕ)
    (bs rest : List ℕ) : Type 0 where
  pub read : f.standard_enums ≡ true
  pub shape : HasShape shape.Map bs
  pub level : levels ≡ left + 1
  pub key : List ℕ
  pub head : pair_head_at f levels bs ≡ Ok (tt, key)
  pub name : IsRead (IsName names) (item_at (raws f l) left key) index rest

-- An item that names it alone.
pub record BeginsAlone (f : Formats) (names : List (List ℕ)) (l : Limits) (levels left index : ℕ)
    (bs rest : List ℕ) : Type 0 where
  pub read : reads_names f ≡ true
  pub shape : HasShape shape.Alone bs
  pub level : left ≡ levels
  pub name : IsRead (IsName names) (item_at (raws f l) levels bs) index rest

-- An enum that has no tag begins in this form, which is that of the first byte.
abbrev pub BeginsForm : Formats → List (List ℕ) → Limits → ℕ → ℕ → ℕ → Form → List ℕ → List ℕ
    → Type 0
BeginsForm f names l levels left index (form.Array remaining) bs rest =
    BeginsInArray f names l levels left index remaining bs rest
BeginsForm f names l levels left index form.Map bs rest =
    BeginsInMap f names l levels left index bs rest
BeginsForm f names l levels left index form.Alone bs rest =
    BeginsAlone f names l levels left index bs rest

-- After all tags, each a level further in, an enum begins in this form, with the identifier of the
-- variant in this place; the rest follows it. Of so many levels so many are left.
pub record BeginsVariant (f : Formats) (names : List (List ℕ)) (l : Limits) (levels left index : ℕ)
    (form : Form) (bs rest : List ℕ) : Type 0 where
  pub inner : ℕ
  pub start : List ℕ
  pub tags : passed_at levels bs ≡ Ok (inner, start)
  pub begins : BeginsForm f names l inner left index form start rest

-- no variant begins at the front
abbrev pub NoVariant : Formats → List (List ℕ) → Limits → ℕ → List ℕ → Type 0
NoVariant f names l levels bs = (left index : ℕ) (form : Form) (rest : List ℕ)
    → BeginsVariant f names l levels left index form bs rest → ⊥

abbrev pub RefusesVariantHead : (ReadErrorCode → Bool) → Formats → List (List ℕ) → ℕ → Input → Input
    → Error → Type 0
RefusesVariantHead refusals f names levels s t e =
    Refuses refusals s t (code_of e) (offset_of e) (λ l bs. NoVariant f names l levels bs)

-- An enum was taken up to its identifier; or none begins there.
abbrev pub TakesVariantHead : (ReadErrorCode → Bool) → Formats → List (List ℕ) → ℕ → Input → Input
    → ℕ → Result (ℕ × Form) Error → Type 0
TakesVariantHead refusals f names levels s t left (Ok v) =
    Step s t (λ l bs rest. BeginsVariant f names l levels left v.0 v.1 bs rest)
TakesVariantHead refusals f names levels s t left (Err e) =
    RefusesVariantHead refusals f names levels s t e

-- ---- memory

-- Another item comes of an array of which so much remains, and P holds where it stands.
pub record ItemComes (remaining : Remaining) (P : List ℕ → Type 0) (bs : List ℕ) : Type 0 where
  pub behind : reader.Remaining
  pub start : List ℕ
  pub next : next_at end_in_array (remaining_of remaining) bs ≡ Ok (Some behind, start)
  pub holds : P start

-- An array begins at the front, and P holds where its first item stands, within so many levels.
pub record NamedInArray (P : ℕ → List ℕ → Type 0) (levels : ℕ) (bs : List ℕ) : Type 0 where
  pub left : ℕ
  pub all : Remaining
  pub items : List ℕ
  pub head : Begins Array levels left all bs items
  pub first : ItemComes all (P left) items

-- A map of one pair begins there, and P holds where its key stands, which may begin as it does.
pub record NamedInMap (f : Formats) (P : ℕ → List ℕ → Type 0) (levels : ℕ) (bs : List ℕ) : Type 0 where
  pub left : ℕ
  pub level : levels ≡ left + 1
  pub key : List ℕ
  pub head : pair_head_at f levels bs ≡ Ok (tt, key)
  pub holds : P left key

-- P holds where the identifier stands of an enum of this shape: the first item of its array, the key of
-- its map of one pair, or the enum itself.
abbrev pub NamedIn : Shape → Formats → (ℕ → List ℕ → Type 0) → ℕ → List ℕ → Type 0
NamedIn shape.Array f P levels bs = NamedInArray P levels bs
NamedIn shape.Map f P levels bs = NamedInMap f P levels bs
NamedIn shape.Alone f P levels bs = P levels bs
NamedIn shape.Unassigned f P levels bs = ⊥

-- the shape of an enum that has no tag is that of its first byte
abbrev pub AtIdentifier : Formats → (ℕ → List ℕ → Type 0) → ℕ → List ℕ → Type 0
AtIdentifier f P levels [] = ⊥
AtIdentifier f P levels (b ∷ bs) = NamedIn (shape_of b) f P levels (b ∷ bs)

-- For what stands at the front memory may be asked, or for a message on it: a head stands there that is
-- no break, and an item that is one of the names is one for which memory may be asked.
pub record AsksForIdentifier (asks : Raw → Type 0) (f : Formats) (names : List (List ℕ)) (l : Limits)
    (levels : ℕ) (bs : List ℕ) : Type 0 where
  pub head : HasHead (λ h. h ≢ Break) levels bs
  pub asked : (index : ℕ) (rest : List ℕ)
      → (got : IsRead (IsName names) (item_at (raws f l) levels bs) index rest) → asks got.item

-- Where memory ran out, it was asked for the identifier, or for a message on what stands there.
abbrev pub MemoryForIdentifier : (Raw → Type 0) → Formats → List (List ℕ) → ℕ → Input → Error → Type 0
MemoryForIdentifier asks f names levels s e = code_of e ≡ OutOfMemory → (bs : List ℕ)
    → Reports s bs → AsksForIdentifier asks f names (limits s bs) levels bs

-- the same of the identifier of an enum, behind its tags
abbrev pub MemoryForVariant : (Raw → Type 0) → Formats → List (List ℕ) → ℕ → Input → Error → Type 0
MemoryForVariant asks f names levels s e = code_of e ≡ OutOfMemory → (bs : List ℕ) → Reports s bs
    → BehindTags levels bs (AtIdentifier f (AsksForIdentifier asks f names (limits s bs)))

-- ---- the parts of a variant

-- After the identifier the parts begin: those that remain of the enum's array, or an array's in its
-- map.
abbrev pub BeginsParts : ℕ → Form → ℕ → Remaining → List ℕ → List ℕ → Type 0
BeginsParts levels (form.Array all) left remaining bs rest =
    (remaining ≡ all) × (left ≡ levels) × (rest ≡ bs)
BeginsParts levels form.Map left remaining bs rest = Begins Array levels left remaining bs rest
BeginsParts levels form.Alone left remaining bs rest = ⊥

abbrev pub NoParts : ℕ → Form → List ℕ → Type 0
NoParts levels form bs = (left : ℕ) (remaining : Remaining) (rest : List ℕ)
    → BeginsParts levels form left remaining bs rest → ⊥

-- no parts begin there
abbrev pub RefusesPartsHead : (ReadErrorCode → Bool) → ℕ → Form → Input → Input → Error → Type 0
RefusesPartsHead refusals levels form s t e =
    Refuses refusals s t (code_of e) (offset_of e) (λ l bs. NoParts levels form bs)

-- The content was taken up to its parts; or none begin there.
abbrev pub TakesPartsHead : (ReadErrorCode → Bool) → ℕ → Form → Input → Input → ℕ
    → Result Remaining Error → Type 0
TakesPartsHead refusals levels form s t left (Ok remaining) =
    Step s t (λ l bs rest. BeginsParts levels form left remaining bs rest)
TakesPartsHead refusals levels form s t left (Err e) = RefusesPartsHead refusals levels form s t e

-- ---- steps

abbrev pub NoForm : Formats → List (List ℕ) → Limits → ℕ → List ℕ → Type 0
NoForm f names l levels bs = (left index : ℕ) (form : Form) (rest : List ℕ)
    → BeginsForm f names l levels left index form bs rest → ⊥

-- the same of an enum that has no tag
abbrev pub TakesForm : (ReadErrorCode → Bool) → Formats → List (List ℕ) → ℕ → Input → Input → ℕ
    → Result (ℕ × Form) Error → Type 0
TakesForm refusals f names levels s t left (Ok v) =
    Step s t (λ l bs rest. BeginsForm f names l levels left v.0 v.1 bs rest)
TakesForm refusals f names levels s t left (Err e) =
    Refuses refusals s t (code_of e) (offset_of e) (λ l bs. NoForm f names l levels bs)

-- where the first byte is of this shape
abbrev pub TakesFormOf : Shape → (ReadErrorCode → Bool) → Formats → List (List ℕ) → ℕ → Input
    → Input → ℕ → Result (ℕ × Form) Error → Type 0
TakesFormOf x refusals f names levels s t left (Ok v) =
    Step s t (λ l bs rest. HasShape x bs → BeginsForm f names l levels left v.0 v.1 bs rest)
TakesFormOf x refusals f names levels s t left (Err e) =
    Refuses refusals s t (code_of e) (offset_of e)
    (λ l bs. HasShape x bs → NoForm f names l levels bs)

-- of an enum that has no tag
abbrev pub MemoryForForm : (Raw → Type 0) → Formats → List (List ℕ) → ℕ → Input → Error → Type 0
MemoryForForm asks f names levels s e = code_of e ≡ OutOfMemory → (bs : List ℕ) → Reports s bs
    → AtIdentifier f (AsksForIdentifier asks f names (limits s bs)) levels bs

abbrev pub MemoryForFormOf : Shape → (Raw → Type 0) → Formats → List (List ℕ) → ℕ → Input → Error
    → Type 0
MemoryForFormOf x asks f names levels s e = code_of e ≡ OutOfMemory → (bs : List ℕ) → Reports s bs
    → HasShape x bs → NamedIn x f (AsksForIdentifier asks f names (limits s bs)) levels bs

-- Where the first byte is of this shape, a refusal reports the fault of the item at the front, if it
-- reports one.
abbrev pub FaultOfForm : Shape → (ReadErrorCode → Bool) → ℕ → Input → Error → Type 0
FaultOfForm x refusals levels s e = (bs : List ℕ) → Reports s bs → HasShape x bs
    → FaultIfAny (ReportsIo refusals) (code_of e) (s.offset + length bs) (offset_of e) (any_item levels (limits s bs) bs)

-- ---- examples

-- 82 01: the second of two variants, of whose array one item remains, though it isn't there
cut_off : (l : Limits)
    → BeginsVariant all_formats ((0x61 ∷ []) ∷ (0x62 ∷ []) ∷ []) l 127 126 1
    (form.Array (Counted 1)) (0x82 ∷ 0x01 ∷ []) []
unfolding passed_at opened_at byte_at head_at head_of number_behind next_at item_at item_by after_first content_at
cut_off l = record {
  inner = 127;
  start = 0x82 ∷ 0x01 ∷ [];
  tags = refl;
  begins = record {
    read = refl;
    shape = (refl, lit< tt);
    all = Counted 2;
    items = 0x01 ∷ [];
    head = refl;
    first = 0x01 ∷ [];
    next = refl;
    name = record { item = raw.unsigned no_bytes 1; is = refl; means = refl };
  };
}

-- 9f: behind the head no item comes
nothing_comes : {P : List ℕ → Type 0} → ItemComes ToBreak P [] → ⊥
unfolding next_at
nothing_comes comes = absurd (let next = comes.next in cc)
