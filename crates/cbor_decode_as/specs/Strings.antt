-- Strings after their heads.
use Rattle.std.specs.Prelude.{⊤, ◌≡◌, ◌≢◌, ℕ, ◌+◌, ◌-◌, ◌^◌, Bool, true, false, List, length, Option, Some}
use Rattle.std.specs.Prelude.{None, Result}
use Rattle.std.specs.Prelude.{Ok, Err, nat_lt, if◌then◌else◌}
use Rattle.std.specs.Char.{IsScalar, encode_utf8}
use Rattle.std.specs.Str.{IsUtf8}
use Rattle.std.specs.Str.Lossy.{utf8_valid_len}
use Rattle.cbor_model.specs.Formats as model
use Rattle.cbor_model.specs.Plain.{Val}
use Rattle.cbor_model.specs.Raw as raw
use Rattle.cbor_model.specs.Raw.{Raw, joined}
use Rattle.cbor_model.specs.Readable.{Context, PassesTags, IsString, IsText, is_lent, untagged}
use Rattle.cbor_model.specs.Refusal.{length_out_of_range, unexpected_code}
use Rattle.cbor_model.specs.Reader.{Reads, before, bytes_at, chunks_at, exceeds_most, item_at}
use Rattle.cbor_io.specs.declared.error.Error.{Error}
use Rattle.cbor_io.specs.declared.error.ErrorCode.TheVariants.{InvalidUtf8}
use Rattle.cbor_io.specs.Error.{code_of, offset_of}
use Rattle.cbor_read.specs.Source.{Input, Lends, Asks, part_bytes, is_long}
use Rattle.cbor_read.specs.declared.EitherLifetime.{EitherLifetime}
use Rattle.cbor_io.specs.declared.read_error.ReadErrorCode.{ReadErrorCode}
use Rattle.cbor_decode.specs.Gives.{Limits, Step, Stops, IsErrorOf}
use Rattle.cbor_decode.specs.Heads.{joined_of}
use Rattle.cbor_decode.specs.HasChunks.{AsksWhere, HasChunks}
use Rattle.cbor_io.specs.ReadError.{why, place, error_code, IsMemory}
use Rattle.cbor_io.specs.declared.error.ErrorCode.{ErrorCode}
use Rattle.cbor_io.specs.declared.read_error.ReadError.{ReadError}
use Rattle.cbor_io.specs.declared.read_error.ReadErrorCode.TheVariants as reading
use Rattle.cbor_decode.specs.declared.refusal.Refused.{Refused}
use Rattle.cbor_decode.specs.declared.refusal.Refused.TheVariants as refused
use Rattle.cbor_decode.specs.declared.head.Head.{Head}
use Rattle.cbor_decode.specs.declared.head.Head.TheVariants.{Bytes, Text}
use Rattle.cbor_decode_as.specs.TaggedHeads.{StandsBehind, behind_any}
use Rattle.cbor_decode_as.specs.Takes.{raws, IsRead, IsNotRead, Refuses, RefusesWhole}
use Rattle.cbor_decode_as.specs.Takes.{IsMessage, OfItem, HasItem, ReportsFault, any_item}
use Rattle.cbor_decode_as.specs.declared.head.HeadAt.{HeadAt}
use Rattle.cbor_decode_as.specs.declared.borrowed.EitherStr.{EitherStr}
use Rattle.cbor_decode_as.specs.declared.borrowed.EitherStr.TheVariants.{Short, Long}
use Rattle.cbor_decode_as.specs.declared.borrowed.Unread.{Unread}
use Rattle.cbor_decode_as.specs.declared.borrowed.Unread.TheVariants.{Stopped, Other}

-- the bytes of a string after its head, whatever they are
abbrev pub content_at : Limits → Head → List ℕ → Reads (List ℕ)
content_at l (Bytes (Some n)) bs = bytes_at n bs
content_at l (Bytes None) bs = joined_of (chunks_at (exceeds_most l.room) 0 2 bs)
content_at l (Text (Some n)) bs =
    if nat_lt (l.total - length bs + n) (2 ^ 64) then bytes_at n bs
    else Err (before length_out_of_range bs)
content_at l (Text None) bs = joined_of (chunks_at (exceeds_most l.room) 0 3 bs)
content_at l _ bs = Err (before unexpected_code bs)

-- whether a string with this head is lent
abbrev pub is_lent_head : Context → Head → Bool
is_lent_head c (Bytes None) = c.lends_joined
is_lent_head c (Text None) = c.lends_joined
is_lent_head c h = c.lends_definite

-- The error stands at the first of these bytes that isn't UTF-8, where they end at this offset.
pub record IsNotUtf8 (b : List ℕ) (end : ℕ) (e : Error) : Type 0 where
  pub bad : IsUtf8 b → ⊥
  pub code : code_of e ≡ InvalidUtf8
  pub place : offset_of e + (length b - utf8_valid_len b) ≡ end

-- The text of these bytes, which end at this offset; or where they aren't UTF-8, as the error says
-- that is made of the refusal that is kept.
abbrev pub KeepsTextOf : {X : Type 0} → (X → List ℕ) → List ℕ → ℕ → ReadError → Result X Refused
    → Type 0
KeepsTextOf view b end kept (Ok x) = (view x ≡ b) × IsUtf8 b
KeepsTextOf view b end kept (Err r) = (e : Error) → IsErrorOf kept r e → IsNotUtf8 b end e

-- The text was taken after its head; or none is there, as the error says that is made of the
-- refusal that is kept.
abbrev pub TakesText : {X : Type 0} → (ReadErrorCode → Bool) → (X → List ℕ) → Head → Input → Input
    → ReadError → Result X Refused → Type 0
TakesText refusals view h s t kept (Ok x) =
    Step s t (λ l bs rest. content_at l h bs ≡ Ok (view x, rest)) × IsUtf8 (view x)
TakesText refusals view h s t kept (Err r) = (e : Error) → IsErrorOf kept r e
    → Refuses refusals s t (code_of e) (offset_of e)
    (λ l bs. (b rest : List ℕ) → content_at l h bs ≡ Ok (b, rest) → IsUtf8 b → ⊥)

-- What was sought at the front, where so many levels are left: it was taken; an item of another kind
-- is there, of which some bytes were taken; or reading stopped, as the error says that is made of the
-- refusal that is kept.
abbrev pub SeeksItem : {A : Type 0} → (ReadErrorCode → Bool) → model.Formats → (Raw → A → Type 0) → ℕ
    → Input → Input → ReadError → Result (Option A) Refused → Type 0
SeeksItem refusals f reads levels s t kept (Ok (Some x)) =
    Step s t (λ l bs rest. IsRead reads (item_at (raws f l) levels bs) x rest)
SeeksItem refusals f reads levels s t kept (Ok None) =
    Step s t (λ l bs rest. IsNotRead reads (item_at (raws f l) levels bs))
SeeksItem refusals f reads levels s t kept (Err r) = (e : Error) → IsErrorOf kept r e → Refuses refusals s t (code_of e) (offset_of e) (λ l bs. IsNotRead reads (item_at (raws f l) levels bs))

-- Where nothing was found of what was sought, an item of another kind stands at the front, or the error
-- that is made of the refusal that is kept is one of what stands there.
abbrev pub SeeksWhole : {A : Type 0} → (ReadErrorCode → Bool) → ℕ → Input → ReadError
    → Result (Option A) Refused → Type 0
SeeksWhole refusals levels s kept (Ok (Some x)) = Unit {0}
SeeksWhole refusals levels s kept (Ok None) = HasItem levels s
SeeksWhole refusals levels s kept (Err r) = (e : Error) → IsErrorOf kept r e → RefusesWhole refusals levels s e

-- ---- the fault of a string

-- what follows the head of a string, which holds no levels
abbrev pub behind_string : Head → Limits → List ℕ → Reads Val
behind_string = behind_any 0

-- The error that is made of the refusal that is kept reports the fault of what follows the head.
abbrev pub ReportsString : (ReadErrorCode → Bool) → Head → Input → ReadError → Refused → Type 0
ReportsString refusals h s kept r = (e : Error) → IsErrorOf kept r e → ReportsFault refusals (behind_string h) s e

-- ---- what is lent

abbrev pub text_bytes : EitherStr → List ℕ
text_bytes (Short s) = s.now
text_bytes (Long s) = s.now

abbrev pub is_long_text : EitherStr → Bool
is_long_text (Short s) = false
is_long_text (Long s) = true

-- a string of these bytes, lent as the source lends it
abbrev pub IsLentString : Context → Raw → EitherLifetime → Type 0
IsLentString c r p = IsString r (part_bytes p) × (is_long p ≡ is_lent c r)

abbrev pub IsLentText : Context → Raw → EitherStr → Type 0
IsLentText c r p = IsText r (text_bytes p) × (is_long_text p ≡ is_lent c r)

-- whether a source lends a string with this head
abbrev pub lends_head : Lends → Head → Bool
lends_head l (Bytes None) = l.joined
lends_head l (Text None) = l.joined
lends_head l h = l.whole

-- the refusal that is made of one that was kept
abbrev pub IsKept : ReadError → Refused → ReadError → Type 0
IsKept kept refused.OutOfMemory e = IsMemory e
IsKept kept refused.Kept e = e ≡ kept

-- Why nothing was lent that N says isn't there. Where it is an item of another kind, each error says
-- so. Some bytes were taken.
abbrev pub Lacks : (ReadErrorCode → Bool) → Input → Input → (Limits → List ℕ → Type 0) → Unread
    → Type 0
Lacks refusals s t N (Stopped e) = Refuses refusals s t (error_code (why e)) (place e) N
Lacks refusals s t N Other = (code : ErrorCode) (at : ℕ) → Refuses refusals s t code at N

-- The bytes of a string were taken after its head; or none are there.
abbrev pub Lent : (ReadErrorCode → Bool) → Lends → Head → Input → Input
    → Result EitherLifetime Unread → Type 0
Lent refusals l h s t (Ok p) =
    Step s t (λ limits bs rest. content_at limits h bs ≡ Ok (part_bytes p, rest))
    × (is_long p ≡ lends_head l h)
Lent refusals l h s t (Err u) =
    Lacks refusals s t (λ limits bs. (b rest : List ℕ) → content_at limits h bs ≡ Ok (b, rest) → ⊥) u

-- What is lent of a string whose bytes are UTF-8.
abbrev pub LentText : (ReadErrorCode → Bool) → Lends → Head → Input → Input
    → Result EitherStr Unread → Type 0
LentText refusals l h s t (Ok p) =
    Step s t (λ limits bs rest. content_at limits h bs ≡ Ok (text_bytes p, rest))
    × IsUtf8 (text_bytes p) × (is_long_text p ≡ lends_head l h)
LentText refusals l h s t (Err u) =
    Lacks refusals s t (λ limits bs.
    (b rest : List ℕ) → content_at limits h bs ≡ Ok (b, rest) → IsUtf8 b → ⊥) u

-- The text at the front was taken, where so many levels are left; or none is there.
abbrev pub LendsText : (ReadErrorCode → Bool) → Context → ℕ → Input → Input
    → Result EitherStr Unread → Type 0
LendsText refusals c levels s t (Ok p) =
    Step s t (λ l bs rest.
    IsRead (PassesTags (IsLentText c)) (item_at (raws c.formats l) levels bs) p rest)
LendsText refusals c levels s t (Err u) =
    Lacks refusals s t (λ l bs. IsNotRead (PassesTags IsText) (item_at (raws c.formats l) levels bs)) u

-- The string at the front was taken, where so many levels are left; or none is there.
abbrev pub LendsString : (ReadErrorCode → Bool) → Context → ℕ → Input → Input
    → Result EitherLifetime Unread → Type 0
LendsString refusals c levels s t (Ok p) =
    Step s t (λ l bs rest.
    IsRead (PassesTags (IsLentString c)) (item_at (raws c.formats l) levels bs) p rest)
LendsString refusals c levels s t (Err u) =
    Lacks refusals s t (λ l bs. IsNotRead (PassesTags IsString) (item_at (raws c.formats l) levels bs)) u

-- A refusal reports the fault of this reading, and there is no item of another kind.
abbrev pub UnreadBy : (ReadErrorCode → Bool) → (Limits → List ℕ → Reads Val) → Input → Unread → Type 0
UnreadBy refusals read s (Stopped q) = Stops refusals read s q
UnreadBy refusals read s Other = ⊥

-- A refusal after a head reports the fault of what follows it; or an item of another kind is whole.
abbrev pub UnreadBehind : (ReadErrorCode → Bool) → HeadAt → Input → Unread → Type 0
UnreadBehind refusals found s (Stopped q) = Stops refusals (behind_any found.levels found.head) s q
UnreadBehind refusals found s Other = StandsBehind found s

-- A refusal reports the fault of the item at the front; or an item of another kind stands there.
abbrev pub UnreadWhole : (ReadErrorCode → Bool) → ℕ → Input → Unread → Type 0
UnreadWhole refusals levels s (Stopped q) = Stops refusals (any_item levels) s q
UnreadWhole refusals levels s Other = HasItem levels s

-- an item stands at the front, or nothing was lent of what stands there
abbrev pub LendsWhole : {A : Type 0} → (ReadErrorCode → Bool) → ℕ → Input → Result A Unread → Type 0
LendsWhole refusals levels s (Ok p) = HasItem levels s
LendsWhole refusals levels s (Err u) = UnreadWhole refusals levels s u

-- Where memory ran out, P holds.
abbrev pub UnreadOnly : Type 0 → Unread → Type 0
UnreadOnly P (Stopped q) = why q ≡ reading.OutOfMemory → P
UnreadOnly P Other = ⊤

-- whether a source may ask for memory to lend a string, or one with this head
abbrev pub asks_string : Asks → Raw → Bool
asks_string a (raw.bytes_chunks cs) = a.joined
asks_string a (raw.text_chunks cs) = a.joined
asks_string a r = a.whole

abbrev pub asks_head : Asks → Head → Bool
asks_head a (Bytes None) = a.joined
asks_head a (Text None) = a.joined
asks_head a h = a.whole

-- The item is a string, within tags, for which it may ask for memory.
pub record IsAskedString (a : Asks) (r : Raw) : Type 0 where
  pub bytes : List ℕ
  pub string : IsString (untagged r) bytes
  pub asks : asks_string a (untagged r) ≡ true

-- Where a string is within these tags, it may ask for memory to lend it.
abbrev pub AsksForString : Asks → Raw → Type 0
AsksForString a r = (b : List ℕ) → IsString (untagged r) b → asks_string a (untagged r) ≡ true

-- It may ask for memory as P says of the item at the front, where that is read in these formats; and of
-- an item of any kind, whatever formats its keys are of, only as it may be passed over: for whole parts,
-- or where it has a string in chunks.
abbrev pub AsksToLend : (Asks → Raw → Type 0) → Asks → model.Formats → ℕ → Input → Type 0
AsksToLend P a f levels s =
    OfItem (P a) f levels s × OfItem (λ r. AsksWhere a (HasChunks r)) model.all_formats levels s

-- a refusal that isn't the key rule's
abbrev pub IsNoKey : Unread → Type 0
IsNoKey (Stopped q) = why q ≢ reading.WrongStructFormat
IsNoKey Other = ⊤

-- the error that is made of a refusal
abbrev pub IsMadeOf : Unread → Error → Type 0
IsMadeOf (Stopped q) e = (code_of e ≡ error_code (why q)) × (offset_of e ≡ place q)
IsMadeOf Other e = IsMessage e

-- a part as text, if it is UTF-8
abbrev pub Utf8Of : EitherLifetime → Result EitherStr Unread → Type 0
Utf8Of p (Ok t) =
    (text_bytes t ≡ part_bytes p) × IsUtf8 (part_bytes p) × (is_long_text t ≡ is_long p)
Utf8Of p (Err u) = (IsUtf8 (part_bytes p) → ⊥) × (u ≡ Other)

-- The refusal of these bytes, which aren't UTF-8 and end at this offset.
abbrev pub IsBad : List ℕ → ℕ → Unread → Type 0
IsBad b end (Stopped e) =
    (IsUtf8 b → ⊥) × (why e ≡ reading.InvalidUtf8)
    × (place e + (length b - utf8_valid_len b) ≡ end)
IsBad b end Other = ⊥

-- a part as text, lent alike
abbrev pub PartText : EitherLifetime → ℕ → Result EitherStr Unread → Type 0
PartText p end (Ok t) =
    (text_bytes t ≡ part_bytes p) × IsUtf8 (part_bytes p) × (is_long_text t ≡ is_long p)
PartText p end (Err u) = IsBad (part_bytes p) end u

-- the refusal of a text that isn't UTF-8, so many bytes before this offset
abbrev pub IsBadAt : ℕ → ℕ → Unread → Type 0
IsBadAt end back (Stopped e) = (why e ≡ reading.InvalidUtf8) × (place e + back ≡ end)
IsBadAt end back Other = ⊥

-- the bytes of a text, lent alike
abbrev pub BytesOf : EitherStr → Result EitherLifetime Unread → Type 0
BytesOf t (Ok p) = (part_bytes p ≡ text_bytes t) × (is_long p ≡ is_long_text t)
BytesOf t (Err u) = ⊥

-- a text of these bytes that is lent
abbrev pub IsBorrowedText : Context → Raw → List ℕ → Type 0
IsBorrowedText c r b = IsText r b × (is_lent c r ≡ true)

-- a string of these bytes that is lent
abbrev pub IsBorrowedString : Context → Raw → List ℕ → Type 0
IsBorrowedString c r b = IsString r b × (is_lent c r ≡ true)

-- ---- byte strings alone

-- a byte string of these bytes, definite or in chunks
abbrev pub IsByteString : Raw → List ℕ → Type 0
IsByteString (raw.bytes c) b = c.bytes ≡ b
IsByteString (raw.bytes_chunks cs) b = joined cs ≡ b
IsByteString _ b = ⊥

-- It may ask for memory to lend the byte string within these tags, where one is.
abbrev pub AsksForBytes : Asks → Raw → Type 0
AsksForBytes a r = (b : List ℕ) → IsByteString (untagged r) b → asks_string a (untagged r) ≡ true

-- a byte string of exactly n bytes
abbrev pub IsByteArray : ℕ → Raw → List ℕ → Type 0
IsByteArray n r b = IsByteString r b × (length b ≡ n)

-- a byte string of these bytes, lent as the source lends it
abbrev pub IsLentBytes : Context → Raw → EitherLifetime → Type 0
IsLentBytes c r p = IsByteString r (part_bytes p) × (is_long p ≡ is_lent c r)

-- a byte string of these bytes that is lent
abbrev pub IsBorrowedBytes : Context → Raw → List ℕ → Type 0
IsBorrowedBytes c r b = IsByteString r b × (is_lent c r ≡ true)

-- The byte string at the front was taken, where so many levels are left; or none is there.
abbrev pub LendsBytes : (ReadErrorCode → Bool) → Context → ℕ → Input → Input
    → Result EitherLifetime Unread → Type 0
LendsBytes refusals c levels s t (Ok p) =
    Step s t (λ l bs rest.
    IsRead (PassesTags (IsLentBytes c)) (item_at (raws c.formats l) levels bs) p rest)
LendsBytes refusals c levels s t (Err u) =
    Lacks refusals s t (λ l bs.
    IsNotRead (PassesTags IsByteString) (item_at (raws c.formats l) levels bs)) u

-- ---- characters

-- the text is this one character
abbrev pub IsOneCharacter : List ℕ → ℕ → Type 0
IsOneCharacter b c = IsScalar c × (b ≡ encode_utf8 c)

-- the one character that the text is, or that it is none
abbrev pub IsOneOf : List ℕ → Result ℕ Error → Type 0
IsOneOf b (Ok c) = IsOneCharacter b c
IsOneOf b (Err e) = (c : ℕ) → IsOneCharacter b c → ⊥

-- a text, or a byte string that is UTF-8, of this one character
abbrev pub IsCharacter : Raw → ℕ → Type 0
IsCharacter r c = IsScalar c × IsText r (encode_utf8 c)
