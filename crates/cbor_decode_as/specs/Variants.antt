-- What the calls take of their source that read an enum.
use Rattle.std.specs.Prelude.{◌≡◌, ◌≤◌, ◌<◌, ℕ, zero, suc, Bool, true, false, List, [], ◌∷◌, Some, None, Result, Ok, Err}
use Rattle.std.specs.Prelude.{nat_lt, ◌==◌, if◌then◌else◌, codes, ◌++◌}
use Rattle.cbor_model.specs.Formats.{Formats}
use Rattle.cbor_model.specs.Raw.{Raw, Raws}
use Rattle.cbor_model.specs.Readable.{PassesTags}
use Rattle.cbor_model.specs.Refusal.{too_deep, end_in_array, unassigned_code}
use Rattle.cbor_model.specs.Reader.{Reads, ◌>>=◌, before, byte_at, item_at, next_at}
use Rattle.cbor_model.specs.Reader as reader
use Rattle.cbor_io.specs.declared.error.Error.{Error}
use Rattle.cbor_io.specs.declared.read_error.ReadError.{ReadError}
use Rattle.cbor_io.specs.declared.read_error.ReadErrorCode.{ReadErrorCode}
use Rattle.cbor_io.specs.Error.{code_of, offset_of, IsMessageOf}
use Rattle.cbor_read.specs.Source.{Input}
use Rattle.cbor_decode.specs.Gives.{Limits, Step, Stopped}
use Rattle.cbor_decode.specs.Heads.{remaining_of}
use Rattle.cbor_decode.specs.declared.cursor.Remaining.{Remaining}
use Rattle.cbor_decode.specs.declared.refusal.Refused.{Refused}
use Rattle.cbor_decode_as.specs.Accesses.{items_at}
use Rattle.cbor_decode_as.specs.Enums.{Content, alone, one, parts, IsVariant, AreParts, reads_names}
use Rattle.cbor_decode_as.specs.MapAccesses.{key_front}
use Rattle.cbor_decode_as.specs.Tags.{tag_first_at}
use Rattle.cbor_decode_as.specs.Takes.{raws, IsNotRead, Refuses}
use Rattle.cbor_decode_as.specs.declared.variant.Form.{Form}
use Rattle.cbor_decode_as.specs.declared.variant.Form.TheVariants as form
use Rattle.cbor_decode_as.specs.declared.variant.Shape.{Shape}
use Rattle.cbor_decode_as.specs.declared.variant.Shape.TheVariants as shape

-- ---- the identifier

-- the content of an enum of this form, after its identifier, where so many levels are left
abbrev pub content_at : Formats → Limits → ℕ → Form → List ℕ → Reads Content
content_at f l left (form.Array remaining) bs =
    items_at f l left (remaining_of remaining) bs >>= (λ rs. Ok (parts rs.0, rs.1))
content_at f l left form.Map bs = item_at (raws f l) left bs >>= (λ r. Ok (one r.0, r.1))
content_at f l left form.Alone bs = Ok (alone, bs)

-- The item that is read is the variant in this place. Its content is what is read of the rest, with
-- which it is whole.
pub record IsVariantHead (f : Formats) (names : List (List ℕ)) (l : Limits) (read : Reads Raw) (left index : ℕ) (form : Form) (rest : List ℕ) : Type 0 where
  pub whole : Content → Raw
  pub is : read ≡ (content_at f l left form rest >>= (λ c. Ok (whole c.0, c.1)))
  pub variant : (c : Content) (after : List ℕ) → content_at f l left form rest ≡ Ok (c, after)
      → PassesTags (IsVariant f names) (whole c) (index, c)

-- no variant is at the front
abbrev pub RefusesVariant : (ReadErrorCode → Bool) → Formats → List (List ℕ) → ℕ → Input → Input
    → Error → Type 0
RefusesVariant refusals f names levels s t e = Refuses refusals s t (code_of e) (offset_of e)
    (λ l bs. IsNotRead (PassesTags (IsVariant f names)) (item_at (raws f l) levels bs))

-- An enum was taken up to its identifier; or no variant is there.
abbrev pub TakesVariant : (ReadErrorCode → Bool) → Formats → List (List ℕ) → ℕ → Input → Input → ℕ
    → Result (ℕ × Form) Error → Type 0
TakesVariant refusals f names levels s t left (Ok v) = Step s t
    (λ l bs rest. IsVariantHead f names l (item_at (raws f l) levels bs) left v.0 v.1 rest)
TakesVariant refusals f names levels s t left (Err e) = RefusesVariant refusals f names levels s t e

-- the levels that are left of so many, where an array or a map was entered
abbrev pub IsInside : Form → ℕ → ℕ → Type 0
IsInside form.Alone left outer = left ≤ outer
IsInside (form.Array remaining) left outer = left < outer
IsInside form.Map left outer = left < outer

-- The levels that are left, of so many, for the items of a content: the array of an enum was entered
-- before, and another is now.
abbrev pub IsEntered : Form → ℕ → ℕ → Type 0
IsEntered form.Alone left inner = ⊥
IsEntered (form.Array remaining) left inner = inner ≡ left
IsEntered form.Map left inner = inner < left

-- ---- the content

-- The content that is read means x, and the rest follows it.
pub record IsContent {A : Type 0} (means : Content → A → Type 0) (read : Reads Content) (x : A) (rest : List ℕ) : Type 0 where
  pub content : Content
  pub is : read ≡ Ok (content, rest)
  pub meaning : means content x

-- no content that means something is at the front
abbrev pub IsNoContent : {A : Type 0} → (Content → A → Type 0) → Reads Content → Type 0
IsNoContent {A} means read = (x : A) (rest : List ℕ) → IsContent means read x rest → ⊥

-- What the content of this form at the front means; or that no such content is there.
abbrev pub TakesContent : {A : Type 0} → (ReadErrorCode → Bool) → Formats → (Content → A → Type 0)
    → ℕ → Form → Input → Input → Result A Error → Type 0
TakesContent refusals f means left form s t (Ok x) = Step s t
    (λ l bs rest. IsContent means (content_at f l left form bs) x rest)
TakesContent refusals f means left form s t (Err e) =
    Refuses refusals s t (code_of e) (offset_of e)
    (λ l bs. IsNoContent means (content_at f l left form bs))

-- the items of a content
abbrev pub IsItemsOf : Content → Raws → Type 0
IsItemsOf = AreParts (λ rs items. rs ≡ items)

-- The content that is read has the items that remain, for each of which so many levels are left.
pub record IsPartsHead (f : Formats) (l : Limits) (read : Reads Content) (left : ℕ) (remaining : Remaining) (rest : List ℕ) : Type 0 where
  pub whole : Raws → Content
  pub is : read ≡ (items_at f l left (remaining_of remaining) rest >>= (λ rs. Ok (whole rs.0, rs.1)))
  pub items : (rs : Raws) → IsItemsOf (whole rs) rs

-- no content of items is at the front
abbrev pub RefusesParts : (ReadErrorCode → Bool) → Formats → ℕ → Form → Input → Input → Error → Type 0
RefusesParts refusals f left form s t e = Refuses refusals s t (code_of e) (offset_of e)
    (λ l bs. IsNoContent IsItemsOf (content_at f l left form bs))

-- The content was taken up to its items; or it has none.
abbrev pub TakesParts : (ReadErrorCode → Bool) → Formats → ℕ → Form → Input → Input → ℕ
    → Result Remaining Error → Type 0
TakesParts refusals f left form s t inner (Ok remaining) = Step s t
    (λ l bs rest. IsPartsHead f l (content_at f l left form bs) inner remaining rest)
TakesParts refusals f left form s t inner (Err e) = RefusesParts refusals f left form s t e

-- the text of the error of an identifier alone, where the variant has content of this kind
abbrev pub alone_text : List ℕ → List ℕ
alone_text kind = codes "invalid type: unit variant, expected " ++ kind ++ codes " variant"

-- of an identifier alone the error is reported by this text, and has no place
abbrev pub ReportsAlone : List ℕ → Form → Error → Type 0
ReportsAlone text form.Alone e = IsMessageOf (Some text) (code_of e) × (offset_of e ≡ 0)
ReportsAlone text _ e = Unit {0}

-- ---- steps

-- How an enum is spelled that begins with this byte: 80 to 9b and 9f begin an array, 9c to 9e no item,
-- and a1 a map of one pair.
abbrev pub shape_of : ℕ → Shape
shape_of b =
    if nat_lt b 0x80 then shape.Alone
    else (if nat_lt b 0x9c then shape.Array
    else (if nat_lt b 0x9f then shape.Unassigned
    else (if b == 0x9f then shape.Array
    else (if b == 0xa1 then shape.Map
    else shape.Alone))))

-- Whether enums of this shape are read; no switch decides where no item begins so.
abbrev pub reads_shape : Formats → Shape → Bool
reads_shape f shape.Array = f.legacy_enums
reads_shape f shape.Map = f.standard_enums
reads_shape f shape.Alone = reads_names f
reads_shape f shape.Unassigned = true

-- a first byte that begins no item
abbrev pub unassigned_at : List ℕ → Reads (Unit {0})
unassigned_at bs = byte_at bs >>= (λ b. Err (before unassigned_code b.1))

-- the first byte is that of an enum of this shape
abbrev pub HasShape : Shape → List ℕ → Type 0
HasShape s [] = ⊥
HasShape s (b ∷ bs) = (shape_of b ≡ s) × (b < 256)

-- the bytes begin an enum of this shape, and nothing of them is taken
abbrev pub IsShaped : Shape → List ℕ → List ℕ → Type 0
IsShaped s bs rest = HasShape s bs × (rest ≡ bs)

-- no enum is at the front of a shape that is read
abbrev pub HasNoShape : Formats → List ℕ → Type 0
HasNoShape f [] = Unit {0}
HasNoShape f (b ∷ bs) = reads_shape f (shape_of b) ≡ true → ⊥

-- the shape of the enum at the front, which is read; or that no shape is there that is read
abbrev pub TakesShape : (ReadErrorCode → Bool) → Formats → Input → Input → Result Shape Error → Type 0
TakesShape refusals f s t (Ok x) = Step s t (λ l bs rest. IsShaped x bs rest) × (reads_shape f x ≡ true)
TakesShape refusals f s t (Err e) = Refuses refusals s t (code_of e) (offset_of e)
    (λ l bs. HasNoShape f bs)

-- Where the bytes at the front are of this shape, no variant is there.
abbrev pub RefusesShaped : (List ℕ → Type 0) → (ReadErrorCode → Bool) → Formats → List (List ℕ) → ℕ
    → Input → Input → Error → Type 0
RefusesShaped Where refusals f names levels s t e = Refuses refusals s t (code_of e) (offset_of e)
    (λ l bs. Where bs → IsNotRead (PassesTags (IsVariant f names)) (item_at (raws f l) levels bs))

-- What is taken of an enum at any place, where the bytes at the front are such.
abbrev pub TakesShaped : (List ℕ → Type 0) → (ReadErrorCode → Bool) → Formats → List (List ℕ) → ℕ
    → Input → Input → ℕ → Result (ℕ × Form) Error → Type 0
TakesShaped Where refusals f names levels s t left (Ok v) = Step s t
    (λ l bs rest. Where bs → IsVariantHead f names l (item_at (raws f l) levels bs) left v.0 v.1 rest)
TakesShaped Where refusals f names levels s t left (Err e) =
    RefusesShaped Where refusals f names levels s t e

-- no tag is at the front
abbrev pub HasNoTag : List ℕ → Type 0
HasNoTag bs = tag_first_at bs ≡ Ok (None, bs)

-- an enum that is its identifier alone is at the front
abbrev pub IsAlone : List ℕ → Type 0
IsAlone bs = HasNoTag bs × HasShape shape.Alone bs

-- Another item comes of an array of which so much remains, or none; nothing is taken.
abbrev pub Coming : reader.Remaining → reader.Remaining → Bool → List ℕ → List ℕ → Type 0
Coming remaining behind true bs rest = next_at end_in_array remaining bs ≡ Ok (Some behind, rest)
Coming remaining behind false bs rest =
    (after : List ℕ) × (next_at end_in_array remaining bs ≡ Ok (None, after))

-- whether another item comes, or the fault in its place
abbrev pub TakesComing : (ReadErrorCode → Bool) → Remaining → Remaining → Input → Input
    → ReadError → Result Bool Refused → Type 0
TakesComing refusals remaining behind s t kept (Ok comes) = Step s t
    (λ l bs rest. Coming (remaining_of remaining) (remaining_of behind) comes bs rest)
TakesComing refusals remaining behind s t kept (Err r) =
    Stopped refusals (λ l. next_at end_in_array (remaining_of remaining)) s t kept r

-- Another item comes; or that none does.
abbrev pub ExpectsItem : (ReadErrorCode → Bool) → Remaining → Remaining → Input → Input
    → Result (Unit {0}) Error → Type 0
ExpectsItem refusals remaining behind s t (Ok u) = Step s t
    (λ l bs rest. next_at end_in_array (remaining_of remaining) bs ≡ Ok (Some (remaining_of behind), rest))
ExpectsItem refusals remaining behind s t (Err e) = Refuses refusals s t (code_of e) (offset_of e)
    (λ l bs. (after : reader.Remaining) (rest : List ℕ)
    → next_at end_in_array (remaining_of remaining) bs ≡ Ok (Some after, rest) → ⊥)

-- after a head of one byte, one level further in
abbrev pub one_in : ℕ → List ℕ → Reads (Unit {0})
one_in zero bs = Err (before too_deep bs)
one_in (suc left) bs = Ok (tt, bs)

-- the head of a map of one pair, up to its key
abbrev pub pair_head_at : Formats → ℕ → List ℕ → Reads (Unit {0})
pair_head_at f levels bs = byte_at bs >>= (λ b. one_in levels b.1 >>= (λ u. key_front f u.1))
