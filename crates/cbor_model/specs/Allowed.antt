-- Which refusals the bytes of an input allow, and which of them is the first: RFC 7049's items, as
-- far as the bytes spell them, and what stands where the next one is wanted. No reader and no index
-- is among the definitions.
use Rattle.std.specs.Prelude.{◌≡◌, ◌≢◌, ◌⊎◌, ℕ, ◌+◌, ◌-◌, ◌*◌, ◌^◌, ◌<◌, ◌≤◌, List, [], ◌∷◌}
use Rattle.std.specs.Prelude.{◌++◌, length, flat_map, Option, Some, None, refl}
use Rattle.std.specs.List.{AllByRecursion}
use Rattle.std.specs.Str.{IsValidUpTo}
use Rattle.cbor_model.specs.Head.{HeadWidth, no_bytes, limit, head}
use Rattle.cbor_model.specs.Raw as raw
use Rattle.cbor_model.specs.Raw.{Raw, Chunk, IsChunk, joined, IsWellFormed}
use Rattle.cbor_model.specs.Spelling.{spell, chunk, BeginsSpelling}
use Rattle.cbor_model.specs.Acceptable.{IsAcceptableWithin, max_depth}
use Rattle.cbor_model.specs.Wanted.{Opening, opening, IsOpening, IsWanted}
use Rattle.cbor_model.specs.Wanted.{StandsInIndefiniteArray, StandsInIndefiniteMap}
use Rattle.cbor_model.specs.Refusal.{Refusal, end_in_value, end_in_array, end_in_map}
use Rattle.cbor_model.specs.Refusal.{length_out_of_range, invalid_utf8, unassigned_code}
use Rattle.cbor_model.specs.Refusal.{unexpected_code, trailing_data, too_deep, scratch_too_small}
use Rattle.cbor_model.specs.Refusal.{wrong_struct_format}

-- ---- bytes

-- The first j of the bytes are these.
pub record AreFirst (j : ℕ) (bytes front : List ℕ) : Type 0 where
  pub rest : List ℕ
  pub parts : bytes ≡ front ++ rest
  pub long : length front ≡ j

-- Where an item is wanted stand these bytes, of which the j-th is the last.
pub record StandsAt (bytes : List ℕ) (j : ℕ) (here : List ℕ) : Type 0 where
  pub levels : ℕ
  pub before : List ℕ
  pub wanted : IsWanted levels before
  pub first : AreFirst j bytes (before ++ here)

-- The bytes begin a well-formed item's spelling, and aren't the whole of it.
pub record IsProperBeginning (bytes : List ℕ) : Type 0 where
  pub begins : BeginsSpelling bytes
  pub more : begins.more ≢ []

abbrev pub IsBetween : ℕ → ℕ → ℕ → Type 0
IsBetween least most b = (least ≤ b) × (b ≤ most)

-- The first bytes that begin no item, but the break: those of additional information 28 to 30
-- (section 2), of 31 where no length can be indefinite (section 2.2), and of simple values other than
-- false, true, null and undefined (section 2.3).
abbrev pub IsUnassigned : ℕ → Type 0
IsUnassigned b =
    IsBetween 0x1c 0x1f b
    ⊎ IsBetween 0x3c 0x3f b
    ⊎ IsBetween 0x5c 0x5e b
    ⊎ IsBetween 0x7c 0x7e b
    ⊎ IsBetween 0x9c 0x9e b
    ⊎ IsBetween 0xbc 0xbe b
    ⊎ IsBetween 0xdc 0xdf b
    ⊎ IsBetween 0xe0 0xf3 b
    ⊎ (b ≡ 0xf8)
    ⊎ IsBetween 0xfc 0xfe b

-- the major types of strings: 2, byte strings, and 3, texts (section 2.1)
abbrev pub IsOfStrings : ℕ → Type 0
IsOfStrings major = (major ≡ 2) ⊎ (major ≡ 3)

-- the first bytes of definite strings of the major type, which alone are chunks (section 2.2.2)
abbrev pub BeginsChunk : ℕ → ℕ → Type 0
BeginsChunk major b = IsBetween (32 * major) (32 * major + 27) b

-- a string in chunks, as far as these: 5f or 7f, and the chunks (section 2.2.2)
abbrev pub chunks_begun : ℕ → List Chunk → List ℕ
chunks_begun major cs = (32 * major + 31) ∷ flat_map (chunk major) cs

-- the bytes of a text, those of its chunks joined
abbrev pub IsTextOf : Raw → List ℕ → Type 0
IsTextOf (raw.text c) b = c.bytes ≡ b
IsTextOf (raw.text_chunks cs) b = joined cs ≡ b
IsTextOf _ b = ⊥

-- ---- the refusals, one by one

-- What bounds the reading: the offset of the first byte, the levels of nesting that are read, and
-- how many bytes of chunks can be joined, where there is a scratch.
pub record Limits : Type 0 where
  pub start : ℕ
  pub levels : ℕ
  pub scratch : Option ℕ

-- the limits of a whole input, with a scratch of this length or none
abbrev pub limits_of : Option ℕ → Limits
limits_of scratch = record { start = 0; levels = max_depth; scratch = scratch }

-- more than the scratch holds
abbrev pub IsOver : Option ℕ → ℕ → Type 0
IsOver None n = ⊥
IsOver (Some most) n = most < n

-- The bytes end before their item does.
pub record Ends (bytes : List ℕ) (j : ℕ) : Type 0 where
  pub whole : j ≡ length bytes
  pub begins : IsProperBeginning bytes

-- `EOF while parsing an array`: the end, where an item or the break of an array of indefinite
-- length is wanted (section 2.2.1).
pub record EndsInArray (bytes : List ℕ) (j : ℕ) : Type 0 where
  pub ends : Ends bytes j
  pub stands : StandsInIndefiniteArray bytes

-- `EOF while parsing a map`: the end, where a key or the break of a map of indefinite length is
-- wanted (section 2.2.1).
pub record EndsInMap (bytes : List ℕ) (j : ℕ) : Type 0 where
  pub ends : Ends bytes j
  pub stands : StandsInIndefiniteMap bytes

-- `EOF while parsing a value`: the end, anywhere else.
pub record EndsInValue (bytes : List ℕ) (j : ℕ) : Type 0 where
  pub ends : Ends bytes j
  pub no_array : ¬ (StandsInIndefiniteArray bytes)
  pub no_map : ¬ (StandsInIndefiniteMap bytes)

-- `length out of range`: the head of a definite text (section 2.1, major type 3), whose argument
-- fits its width; the text would end at 2^64 or beyond. The head of a chunk stands in no item's
-- place.
pub record IsLengthOutOfRange (start : ℕ) (bytes : List ℕ) (j : ℕ) : Type 0 where
  pub width : HeadWidth
  pub n : ℕ
  pub fits : n < limit width
  pub at : StandsAt bytes j (head 3 width n)
  pub open at use *
  pub far : 2 ^ 64 ≤ start + j + n

-- `invalid UTF-8`: a whole text (section 2.1, major type 3), well formed, so that each length fits
-- its width, and its joined bytes aren't UTF-8. Its place is its end. The offset lies before that
-- by as many bytes as follow the longest front of the joined bytes that is UTF-8.
pub record IsInvalidUtf8 (bytes : List ℕ) (j offset : ℕ) : Type 0 where
  pub item : Raw
  pub text : List ℕ
  pub valid : ℕ
  pub fits : IsWellFormed item
  pub text_is : IsTextOf item text
  pub longest : IsValidUpTo text valid
  pub at : StandsAt bytes j (spell item)
  pub open at use *
  pub offset_is : offset + (length text - valid) ≡ j

-- `unassigned type`: a byte that begins no item.
pub record IsUnassignedCode (bytes : List ℕ) (j : ℕ) : Type 0 where
  pub byte : ℕ
  pub unassigned : IsUnassigned byte
  pub at : StandsAt bytes j (byte ∷ [])
  pub open at use *

-- `unexpected code`: a break, where nothing of indefinite length stands that it could end (section
-- 2.2.1).
pub record IsStrayBreak (bytes : List ℕ) (j : ℕ) : Type 0 where
  pub at : StandsAt bytes j (0xff ∷ [])
  pub open at use *
  pub no_array : ¬ (StandsInIndefiniteArray at.before)
  pub no_map : ¬ (StandsInIndefiniteMap at.before)

-- `unexpected code` too: a string of indefinite length, as far as a byte after well-formed chunks
-- that is neither the break nor the first byte of a chunk (section 2.2.2).
pub record IsNoChunk (bytes : List ℕ) (j : ℕ) : Type 0 where
  pub major : ℕ
  pub chunks : List Chunk
  pub byte : ℕ
  pub of_strings : IsOfStrings major
  pub fits : AllByRecursion IsChunk chunks
  pub no_break : byte ≢ 0xff
  pub no_chunk : ¬ (BeginsChunk major byte)
  pub at : StandsAt bytes j (chunks_begun major chunks ++ (byte ∷ []))
  pub open at use *

-- `trailing data`: an acceptable item's spelling, and a byte after it.
pub record IsTrailingData (levels : ℕ) (bytes : List ℕ) (j : ℕ) : Type 0 where
  pub item : Raw
  pub byte : ℕ
  pub acceptable : IsAcceptableWithin levels item
  pub first : AreFirst j bytes (spell item ++ (byte ∷ []))

-- `recursion limit exceeded`: an opening, where the levels of nesting that are read are used up.
pub record IsTooDeep (most : ℕ) (bytes : List ℕ) (j : ℕ) : Type 0 where
  pub opens : Opening
  pub fits : IsOpening opens
  pub at : StandsAt bytes j (opening opens)
  pub open at use *
  pub deep : most ≤ at.levels

-- `Scratch buffer too small`: a string of indefinite length, as far as the head of a chunk that is
-- whole and well formed, and more than the scratch holds with those before it.
pub record IsOverScratch (scratch : Option ℕ) (bytes : List ℕ) (j : ℕ) : Type 0 where
  pub major : ℕ
  pub chunks : List Chunk
  pub next : Chunk
  pub rest : List ℕ
  pub of_strings : IsOfStrings major
  pub fits : AllByRecursion IsChunk chunks
  pub next_fits : IsChunk next
  pub over : IsOver scratch (length (joined chunks) + length next.bytes)
  pub at : StandsAt bytes j (chunks_begun major chunks ++ head major next.width (length next.bytes))
  pub open at use *
  pub whole : at.first.rest ≡ next.bytes ++ rest

-- The bytes allow the refusal, at this place, and this offset is reported; both are counted from the
-- first byte. They are one number, but where a text isn't UTF-8. A key's format is no matter of a
-- value's.
abbrev pub IsAllowed : Limits → List ℕ → Refusal → ℕ → ℕ → Type 0
IsAllowed l bytes end_in_value place offset = EndsInValue bytes place × (offset ≡ place)
IsAllowed l bytes end_in_array place offset = EndsInArray bytes place × (offset ≡ place)
IsAllowed l bytes end_in_map place offset = EndsInMap bytes place × (offset ≡ place)
IsAllowed l bytes length_out_of_range place offset =
    IsLengthOutOfRange l.start bytes place × (offset ≡ place)
IsAllowed l bytes invalid_utf8 place offset = IsInvalidUtf8 bytes place offset
IsAllowed l bytes unassigned_code place offset = IsUnassignedCode bytes place × (offset ≡ place)
IsAllowed l bytes unexpected_code place offset =
    (IsStrayBreak bytes place ⊎ IsNoChunk bytes place) × (offset ≡ place)
IsAllowed l bytes trailing_data place offset =
    IsTrailingData l.levels bytes place × (offset ≡ place)
IsAllowed l bytes too_deep place offset = IsTooDeep l.levels bytes place × (offset ≡ place)
IsAllowed l bytes scratch_too_small place offset =
    IsOverScratch l.scratch bytes place × (offset ≡ place)
IsAllowed l bytes wrong_struct_format place offset = ⊥

-- ---- the first of them

-- the ends of input
abbrev pub IsEnd : Refusal → Type 0
IsEnd end_in_value = Unit {0}
IsEnd end_in_array = Unit {0}
IsEnd end_in_map = Unit {0}
IsEnd _ = ⊥

-- A refusal comes before another: its place is less, or at one place only the other is an end.
abbrev pub IsBefore : Refusal → ℕ → Refusal → ℕ → Type 0
IsBefore why place why' place' =
    (place < place') ⊎ ((place ≡ place') × (¬ (IsEnd why)) × IsEnd why')

-- The refusal is allowed, and comes before each other one that is.
pub record IsFirstRefusal (l : Limits) (bytes : List ℕ) (why : Refusal) (offset : ℕ) : Type 0 where
  pub place : ℕ
  pub allowed : IsAllowed l bytes why place offset
  pub first : (why' : Refusal) (place' offset' : ℕ) → IsAllowed l bytes why' place' offset'
      → ((why' ≡ why) × (place' ≡ place) × (offset' ≡ offset)) ⊎ IsBefore why place why' place'

-- ---- examples; those of each refusal stand in proofs/RefusalExamples

-- 7f 61 61: a text in chunks, as far as its first chunk, "a"
one_chunk : chunks_begun 3 (record { width = no_bytes; bytes = 0x61 ∷ [] } ∷ [])
    ≡ 0x7f ∷ 0x61 ∷ 0x61 ∷ []
one_chunk = refl

-- a text of c3, and the same in a chunk
text_of_c3 : IsTextOf (raw.text (record { width = no_bytes; bytes = 0xc3 ∷ [] })) (0xc3 ∷ [])
text_of_c3 = refl

joined_c3 : IsTextOf
    (raw.text_chunks (record { width = no_bytes; bytes = 0xc3 ∷ [] } ∷ []))
    (0xc3 ∷ [])
joined_c3 = refl
