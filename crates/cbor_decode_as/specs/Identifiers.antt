-- What names a field of a struct, or a variant of an enum.
use Rattle.std.specs.Prelude.{⊤, true, ◌≡◌, ◌≢◌, ◌⊎◌, ◌<◌, ◌+◌, ◌-◌, ℕ, ℤ, pos, negsuc, Bool, zero, suc, List, [], ◌∷◌, length, Option, Some, None}
use Rattle.std.specs.Prelude.{nat_lt, Result, Ok, Err, if◌then◌else◌, refl, codes}
use Rattle.std.specs.Prelude as prelude
use Rattle.std.specs.Borrow.{Bor}
use Rattle.std.specs.Str.{IsUtf8}
use Rattle.std.specs.Str.Lossy.{utf8_valid_len}
use Rattle.cbor_model.specs.Head.{no_bytes, one_byte}
use Rattle.cbor_model.specs.Raw as raw
use Rattle.cbor_model.specs.Raw.{Raw}
use Rattle.cbor_model.specs.Plain.{Val}
use Rattle.cbor_model.specs.Readable.{IsString}
use Rattle.cbor_model.specs.Reader.{Reads}
use Rattle.cbor_io.specs.declared.error.Error.{Error}
use Rattle.cbor_io.specs.declared.read_error.ReadError.{ReadError}
use Rattle.cbor_io.specs.declared.read_error.ReadErrorCode.{ReadErrorCode}
use Rattle.cbor_io.specs.declared.read_error.ReadErrorCode.TheVariants as reading
use Rattle.cbor_io.specs.Error.{code_of, offset_of}
use Rattle.cbor_read.specs.Source.{Asks, Input}
use Rattle.cbor_decode.specs.Gives.{IsAt, IsErrorOf, Limits, ReportsNoKey, ReportsWhy, Step}
use Rattle.cbor_decode.specs.Memory.{MemoryOnly}
use Rattle.cbor_decode.specs.declared.head.Head.{Head}
use Rattle.cbor_decode.specs.declared.head.Head.TheVariants as head
use Rattle.cbor_decode.specs.declared.refusal.Refused as kept
use Rattle.cbor_decode.specs.declared.refusal.Refused.TheVariants as refused
use Rattle.cbor_decode_as.specs.Strings.{asks_head, content_at}
use Rattle.cbor_decode_as.specs.TaggedHeads.{AtHead}
use Rattle.cbor_decode_as.specs.Takes.{IsMessage, Refuses, RefusesWhole, ReportsFault, any_item}
use Rattle.cbor_decode_as.specs.declared.borrowed.Unread.{Unread}
use Rattle.cbor_decode_as.specs.declared.borrowed.Unread.TheVariants as unread
use Rattle.cbor_decode_as.specs.declared.identifier.Why.{Why}
use Rattle.cbor_decode_as.specs.declared.identifier.Why.TheVariants.{Refused, Other}

-- the texts that references lead to
abbrev pub texts : List (Bor (List ℕ)) → List (List ℕ)
texts names = prelude.map (λ n. n.now) names

-- the first of the names, or labels, that is this one
abbrev pub IsFirst : {A : Type 0} → List A → A → ℕ → Type 0
IsFirst [] b i = ⊥
IsFirst (n ∷ ns) b zero = n ≡ b
IsFirst (n ∷ ns) b (suc i) = (n ≢ b) × IsFirst ns b i

-- the place of the first that is this one, if one is
abbrev pub IsPlace : {A : Type 0} → List A → A → Option ℕ → Type 0
IsPlace names b (Some i) = IsFirst names b i
IsPlace names b None = (i : ℕ) → IsFirst names b i → ⊥

-- the place that a number is, if there is a name
abbrev pub place_of : List (List ℕ) → ℕ → Option ℕ
place_of names n = if nat_lt n (length names) then Some n else None

-- The place that an item means: an integer by what integers mean (`numbered`), and a text or byte
-- string as one of these names.
abbrev pub MeansPlace : (ℤ → Option ℕ → Type 0) → List (List ℕ) → Raw → Option ℕ → Type 0
MeansPlace numbered names (raw.unsigned w n) place = numbered (pos n) place
MeansPlace numbered names (raw.negative w n) place = numbered (negsuc n) place
MeansPlace numbered names r place = (b : List ℕ) × IsString r b × IsPlace names b place

-- a number from 0 is the place of a name itself
abbrev pub IsPlaceNumber : List (List ℕ) → ℤ → Option ℕ → Type 0
IsPlaceNumber names (pos n) place = place ≡ place_of names n
IsPlaceNumber names (negsuc n) place = ⊥

-- The place that an item names: a number from 0 is the place itself, and a text or byte string is a
-- name. None where nothing is at that place, or has that name.
abbrev pub IsIdentifier : List (List ℕ) → Raw → Option ℕ → Type 0
IsIdentifier names = MeansPlace (IsPlaceNumber names) names

-- The place of the label that an item is: an integer. None where it is no label, as each text and
-- each byte string.
abbrev pub IsLabel : List ℤ → Raw → Option ℕ → Type 0
IsLabel labels = MeansPlace (IsPlace labels) []

-- These bytes name this place, by one byte and what it counts: a number below 24, or the text of a name
-- of up to 23 bytes.
abbrev pub IsShortName : List (List ℕ) → List ℕ → ℕ → Type 0
IsShortName names [] i = ⊥
IsShortName names (b ∷ bs) i =
    ((b < 24) × (bs ≡ []) × (place_of names b ≡ Some i))
    ⊎ ((b ≡ 0x60 + length bs) × (length bs < 24) × IsUtf8 bs × IsFirst names bs i)

-- ---- calls

-- the error that is made of why nothing was named, by what the decoder keeps
abbrev pub IsMadeBy : ReadError → Why → Error → Type 0
IsMadeBy kept (Refused r) e = IsErrorOf kept r e
IsMadeBy kept Other e = IsMessage e

-- the error that is made of why nothing was named is one of the item at the front
abbrev pub NamesWhole : (ReadErrorCode → Bool) → ℕ → Input → ReadError → Why → Type 0
NamesWhole refusals levels s kept w = (e : Error) → IsMadeBy kept w e → RefusesWhole refusals levels s e

-- what is kept of why nothing was named isn't the key rule's
abbrev pub NamesNoKey : ReadError → Why → Type 0
NamesNoKey kept (Refused r) = ReportsNoKey kept r
NamesNoKey kept Other = ⊤

-- The place of the name that these bytes are as a text; or how many of them stand from the first on that
-- isn't UTF-8.
abbrev pub NamesText : List (List ℕ) → List ℕ → Result (Option ℕ) ℕ → Type 0
NamesText names b (Ok place) = IsUtf8 b × IsPlace names b place
NamesText names b (Err back) = (IsUtf8 b → ⊥) × (back ≡ length b - utf8_valid_len b)

-- A string of these bytes was taken after its head.
abbrev pub Content : Head → Input → Input → List ℕ → Type 0
Content h s t b = Step s t (λ l bs rest. content_at l h bs ≡ Ok (b, rest))

-- The name that a text is was taken after its head; or no text is there.
abbrev pub TakesName : (ReadErrorCode → Bool) → List (List ℕ) → Head → Input → Input
    → ReadError → Result (Option ℕ) kept.Refused → Type 0
TakesName refusals names h s t kept (Ok place) =
    (b : List ℕ) × IsUtf8 b × IsPlace names b place × Content h s t b
TakesName refusals names h s t kept (Err r) = (e : Error) → IsErrorOf kept r e
    → Refuses refusals s t (code_of e) (offset_of e)
    (λ l bs. (b rest : List ℕ) → content_at l h bs ≡ Ok (b, rest) → IsUtf8 b → ⊥)

-- The name that a byte string is was taken after its head; or none is there.
abbrev pub TakesBytesName : (ReadErrorCode → Bool) → List (List ℕ) → Head → Input → Input
    → ReadError → Result (Option ℕ) Why → Type 0
TakesBytesName refusals names h s t kept (Ok place) =
    (b : List ℕ) × IsPlace names b place × Content h s t b
TakesBytesName refusals names h s t kept (Err why) = (e : Error) → IsMadeBy kept why e
    → Refuses refusals s t (code_of e) (offset_of e)
    (λ l bs. (b rest : List ℕ) → content_at l h bs ≡ Ok (b, rest) → ⊥)

-- why no string was lent, as why nothing was named
abbrev pub IsWhyOf : Unread → ReadError → Why → Type 0
IsWhyOf (unread.Stopped q) kept why = (why ≡ Refused refused.Kept) × (kept ≡ q)
IsWhyOf unread.Other kept why = why ≡ Other

-- the same of an item of another kind, by its head, behind which this offset is
abbrev pub IsWhyOfHead : Head → ℕ → ReadError → Why → Type 0
IsWhyOfHead head.Break at kept why =
    (why ≡ Refused refused.Kept) × IsAt reading.UnexpectedCode at kept
IsWhyOfHead h at kept why = why ≡ Other

-- ---- the fault that is reported

-- What is kept of why nothing was named reports the fault of a reading; or an item of another kind is
-- there, and P holds.
abbrev pub NamesFault : Type 0 → (ReadErrorCode → Bool) → (Limits → List ℕ → Reads Val) → Input
    → ReadError → Why → Type 0
NamesFault P refusals read s kept (Refused r) = ReportsWhy refusals read s kept r
NamesFault P refusals read s kept Other = P

-- The fault of the item at the front; or P holds of its head.
abbrev pub NamesFront : (Head → Type 0) → (ReadErrorCode → Bool) → ℕ → Input → ReadError → Why → Type 0
NamesFront P refusals levels s kept why =
    NamesFault (AtHead P levels s) refusals (any_item levels) s kept why

-- the head of what names nothing: of no number from 0, no string, and no break
abbrev pub IsNoName : Head → Type 0
IsNoName (head.Unsigned n) = ⊥
IsNoName (head.Bytes n) = ⊥
IsNoName (head.Text n) = ⊥
IsNoName head.Break = ⊥
IsNoName h = ⊤

-- the head of what is no label: of no integer, no string, and no break
abbrev pub IsNoLabel : Head → Type 0
IsNoLabel (head.Unsigned n) = ⊥
IsNoLabel (head.Negative n) = ⊥
IsNoLabel (head.Bytes n) = ⊥
IsNoLabel (head.Text n) = ⊥
IsNoLabel head.Break = ⊥
IsNoLabel h = ⊤

-- A refusal reports the fault of the item at the front; or it is a message, and P holds of its head.
abbrev pub RefusesName : (Head → Type 0) → (ReadErrorCode → Bool) → ℕ → Input → Error → Type 0
RefusesName P refusals levels s e =
    ReportsFault refusals (any_item levels) s e ⊎ (IsMessage e × AtHead P levels s)

-- ---- memory

-- Where memory ran out, P holds.
abbrev pub NamesOnly : Type 0 → ReadError → Why → Type 0
NamesOnly P kept (Refused r) = MemoryOnly P kept r
NamesOnly P kept Other = ⊤

-- the head of a string for which memory may be asked
abbrev pub AsksAtHead : Asks → Head → Type 0
AsksAtHead a (head.Bytes n) = asks_head a (head.Bytes n) ≡ true
AsksAtHead a (head.Text n) = asks_head a (head.Text n) ≡ true
AsksAtHead a h = ⊥

-- It may ask for memory for the name at the front: a string for which it may.
pub record AsksForName (a : Asks) (levels : ℕ) (s : Input) : Type 0 where
  pub asks : (a.whole ≡ true) ⊎ (a.joined ≡ true)
  pub string : AtHead (AsksAtHead a) levels s

-- ---- examples

-- "a" and "ab"
abbrev two_names : List (List ℕ)
two_names = (0x61 ∷ []) ∷ (0x61 ∷ 0x62 ∷ []) ∷ []

-- 1, with a longer head, is the second place, and 2 is none
number_is_place : IsIdentifier two_names (raw.unsigned one_byte 1) (Some 1)
number_is_place = refl

number_beyond : IsIdentifier two_names (raw.unsigned no_bytes 2) None
number_beyond = refl

-- the byte string of "ab" is the second name
byte_string_is_name : IsIdentifier two_names
    (raw.bytes (record { width = no_bytes; bytes = 0x61 ∷ 0x62 ∷ [] })) (Some 1)
byte_string_is_name = (0x61 ∷ 0x62 ∷ [], refl, ((λ e. cc), refl))

-- -1, of COSE's labels of a key, is in the third place, and "kty" in none
label_is_place : IsLabel (pos 1 ∷ pos 3 ∷ negsuc 0 ∷ []) (raw.negative no_bytes 0) (Some 2)
label_is_place = ((λ e. cc), ((λ e. cc), refl))

text_is_none : IsLabel (pos 1 ∷ []) (raw.text (record { width = no_bytes; bytes = codes "kty" })) None
text_is_none = (codes "kty", refl, (λ i first. first))
