-- The laws, each of which is the contract of a public function.
use Rattle.std.specs.Prelude.{◌≡◌, ◌⊎◌, ◌↔◌, ℕ, ◌+◌, ◌^◌, ◌<◌, ◌≤◌, List, [], ◌++◌, length, reverse}
use Rattle.std.specs.Prelude.{Bool, Result, Ok, Err}
use Rattle.std.specs.Prelude.{IsErrAnd, Option, Some, None}
use Rattle.std.specs.FinMap as finmap
use Rattle.std.specs.FinMap.{find}
use Rattle.cbor_model.specs.Raw.{Raw, RawPairs, AreBytes, IsWellFormed, depth, longest_joined}
use Rattle.cbor_model.specs.Spelling.{spell}
use Rattle.cbor_model.specs.Acceptable.{IsAcceptable, IsAcceptableWithin, FitsScratch, max_depth}
use Rattle.cbor_model.specs.Plain.{Val, no_pairs}
use Rattle.cbor_model.specs.Value.{value, pairs}
use Rattle.cbor_model.specs.FiniteMap.{finite_map, listed_pairs}
use Rattle.cbor_model.specs.Canonical.{IsStorable, IsOrdered, canonical, canon}
use Rattle.cbor_model.specs.Order.{lex, flat}
use Rattle.cbor_model.specs.Order.{val_cmp}
use Rattle.cbor_model.specs.InRange.{IsInRange}
use Rattle.cbor_model.specs.InMemory.{IsInMemory}
use Rattle.cbor_model.specs.Document.{Doc, raw_of, document_bytes, IsStorableDocument}
use Rattle.cbor_model.specs.Document.{IsDocumentInRange}
use Rattle.cbor_model.specs.Parts.{parts, part_bytes}
use Rattle.cbor_model.specs.Formats.{Formats, all_formats, HasAllowedKeys}
use Rattle.cbor_model.specs.RawReader.{raws_in, Begins}
use Rattle.cbor_model.specs.SliceWrites.{held, whole}
use Rattle.cbor_model.specs.Unstored.{StandsBefore}
use Rattle.cbor_model.specs.Definite.{IsDefinite}
use Rattle.std.specs.Cmp.{IsTotalOrder}
use Rattle.cbor_model.specs.Refusal.{Refusal, scratch_too_small}
use Rattle.cbor_model.specs.Reader.{Fault, read_value, read_value_in, item_at}
use Rattle.cbor_model.specs.Allowed.{Limits, limits_of, IsAllowed, IsFirstRefusal}

-- the bytes spell one acceptable item, and v is its value
pub record SpellsValue (bytes : List ℕ) (v : Val) : Type 0 where
  pub item : Raw
  pub acceptable : IsAcceptable item
  pub spelled : spell item ≡ bytes
  pub valued : v ≡ value item

-- What the reference reader reads, with a scratch of some length or none, is spelled so.
abbrev pub ReaderFinds : Type 0
ReaderFinds = (room : Option ℕ) (bytes : List ℕ) (v : Val)
    → AreBytes bytes → read_value_in room bytes ≡ Ok v → SpellsValue bytes v

-- What is spelled so, the reference reader reads, with a scratch that its chunks fit.
abbrev pub ReaderAccepts : Type 0
ReaderAccepts = (room : Option ℕ) (bytes : List ℕ) (v : Val)
    → length bytes < 2 ^ 64 → (spelt : SpellsValue bytes v)
    → FitsScratch room spelt.item → read_value_in room bytes ≡ Ok v

-- refused because chunks don't fit the scratch
abbrev pub IsScratchTooSmall : {A : Type 0} → Result A Fault → Type 0
IsScratchTooSmall read = IsErrAnd read (λ f. f.why ≡ scratch_too_small)

-- With a scratch the reference reader answers as it does without one, or that the scratch is too
-- small.
abbrev pub SameWithScratch : Type 0
SameWithScratch = (room : ℕ) (bytes : List ℕ)
    → (read_value_in (Some room) bytes ≡ read_value bytes)
    ⊎ IsScratchTooSmall (read_value_in (Some room) bytes)

-- The scratch's need is exact: an acceptable item is read where the scratch is at least as long as
-- the longest of its strings in chunks, and where it is shorter the scratch is too small.
abbrev pub ScratchNeed : Type 0
ScratchNeed = (room : ℕ) (bytes : List ℕ) (v : Val)
    → length bytes < 2 ^ 64 → (spelt : SpellsValue bytes v)
    → (longest_joined spelt.item ≤ room → read_value_in (Some room) bytes ≡ Ok v)
    × (room < longest_joined spelt.item → IsScratchTooSmall (read_value_in (Some room) bytes))

-- No well-formed item's spelling begins another's, and equal spellings are equal items.
abbrev pub OneSpelling : Type 0
OneSpelling = (r s : Raw) (more : List ℕ)
    → IsWellFormed r → IsWellFormed s → spell r ++ more ≡ spell s → (r ≡ s) × (more ≡ [])

-- The value of a well-formed item is storable.
abbrev pub ValueIsStorable : Type 0
ValueIsStorable = (r : Raw) → IsWellFormed r → IsStorable (value r)

-- The value of an acceptable item, of which the bytes are fewer than 2^64, is storable and ordered,
-- and its canonical item is acceptable.
abbrev pub ValueIsCanonical : Type 0
ValueIsCanonical = (levels : ℕ) (r : Raw) → IsAcceptableWithin levels r → length (spell r) < 2 ^ 64
    → IsStorable (value r) × IsOrdered (value r) × IsAcceptableWithin levels (canonical (value r))

-- The canonical item of an ordered value has that value.
abbrev pub CanonicalReadsBack : Type 0
CanonicalReadsBack = (v : Val) → IsOrdered v → value (canonical v) ≡ v

-- The order of values is total.
abbrev pub OrderIsTotal : Type 0
OrderIsTotal = IsTotalOrder val_cmp

-- Values with equal lists are equal.
abbrev pub OneFlat : Type 0
OneFlat = (a b : Val) → flat a ≡ flat b → a ≡ b

-- Of what is read, the canonical spelling is read as the same value again.
abbrev pub NormalisedOnce : Type 0
NormalisedOnce = (bytes : List ℕ) (v : Val)
    → length bytes < 2 ^ 64 → SpellsValue bytes v → SpellsValue (canon v) v

-- Storable values in range with equal canonical spellings are equal.
abbrev pub EqualBytes : Type 0
EqualBytes = (a b : Val)
    → IsStorable a → IsStorable b → IsInRange a → IsInRange b → canon a ≡ canon b → a ≡ b

-- The order of storable values in range is the byte order of their canonical spellings.
abbrev pub ByteOrder : Type 0
ByteOrder = (a b : Val)
    → IsStorable a → IsStorable b → IsInRange a → IsInRange b
    → val_cmp a b ≡ lex (canon a) (canon b)

-- No well-formed item of definite lengths is spelled shorter than its value's canonical item.
abbrev pub LeastSpelling : Type 0
LeastSpelling = (v : Val) (r : Raw)
    → IsWellFormed r → IsDefinite r → v ≡ value r → length (canon v) ≤ length (spell r)

-- The value of a well-formed item, of which the bytes are fewer than 2^64, is in range.
abbrev pub ValueIsInRange : Type 0
ValueIsInRange = (r : Raw) → IsWellFormed r → length (spell r) < 2 ^ 64 → IsInRange (value r)

-- What the reference reader refuses, with a scratch of some length or none, it refuses by the first
-- refusal that the bytes allow: by that code, at that offset.
abbrev pub FirstRefusal : Type 0
FirstRefusal = (room : Option ℕ) (bytes : List ℕ) (f : Fault)
    → AreBytes bytes → read_value_in room bytes ≡ Err f
    → (offset : ℕ) × (offset + f.left ≡ length bytes)
    × IsFirstRefusal (limits_of room) bytes f.why offset

-- Where the reference reader reads a value, the bytes allow no refusal.
abbrev pub NoneAllowed : Type 0
NoneAllowed = (room : Option ℕ) (bytes : List ℕ) (v : Val)
    → AreBytes bytes → read_value_in room bytes ≡ Ok v
    → (why : Refusal) (place offset : ℕ) → ¬ (IsAllowed (limits_of room) bytes why place offset)

-- Where the bytes spell an acceptable item, whose chunks fit the scratch, they allow no refusal.
abbrev pub SpelledAllowsNone : Type 0
SpelledAllowsNone = (room : Option ℕ) (bytes : List ℕ) (v : Val)
    → length bytes < 2 ^ 64 → (spelt : SpellsValue bytes v) → FitsScratch room spelt.item
    → (why : Refusal) (place offset : ℕ) → ¬ (IsAllowed (limits_of room) bytes why place offset)

-- Bytes have one first refusal at the most, whatever the limits.
abbrev pub OneFirstRefusal : Type 0
OneFirstRefusal = (l : Limits) (bytes : List ℕ) (why why' : Refusal) (offset offset' : ℕ)
    → IsFirstRefusal l bytes why offset → IsFirstRefusal l bytes why' offset'
    → (why ≡ why') × (offset ≡ offset')

-- With a scratch the first refusal is that the scratch is too small, or the first without one.
abbrev pub SameFirstRefusal : Type 0
SameFirstRefusal = (room : ℕ) (bytes : List ℕ) (why : Refusal) (offset : ℕ) → AreBytes bytes
    → IsFirstRefusal (limits_of (Some room)) bytes why offset
    → (why ≡ scratch_too_small) ⊎ IsFirstRefusal (limits_of None) bytes why offset

-- Each input spells one acceptable item, whose chunks fit the scratch, or has a first refusal.
abbrev pub ReadOrRefused : Type 0
ReadOrRefused = (room : Option ℕ) (bytes : List ℕ) → AreBytes bytes
    → ((v : Val) × (spelt : SpellsValue bytes v) × FitsScratch room spelt.item)
    ⊎ ((why : Refusal) × (offset : ℕ) × IsFirstRefusal (limits_of room) bytes why offset)

-- What a program's value stands for is in range.
abbrev pub InMemoryIsInRange : Type 0
InMemoryIsInRange = (v : Val) → IsInMemory v → IsInRange v

-- The canonical item of a storable value in memory is acceptable within the levels that it nests.
abbrev pub CanonicalIsAcceptable : Type 0
CanonicalIsAcceptable = (levels : ℕ) (v : Val)
    → IsStorable v → IsInMemory v → depth (canonical v) ≤ levels
    → IsAcceptableWithin levels (canonical v)

-- The canonical spelling of a storable ordered value in memory, which nests at most 127 levels, is
-- read as that value.
abbrev pub WrittenReadsBack : Type 0
WrittenReadsBack = (v : Val)
    → IsStorable v → IsOrdered v → IsInMemory v → depth (canonical v) ≤ max_depth
    → SpellsValue (canon v) v

-- The item of a storable document in range is acceptable within as many levels as it nests.
abbrev pub DocumentIsAcceptable : Type 0
DocumentIsAcceptable = (levels : ℕ) (d : Doc) (packed legacy : Bool)
    → IsStorableDocument d → IsDocumentInRange d → depth (raw_of d packed legacy) ≤ levels
    → IsAcceptableWithin levels (raw_of d packed legacy)

-- What is written of it, nested at most 127 levels, is read as its item's value.
abbrev pub DocumentReadsBack : Type 0
DocumentReadsBack = (d : Doc) (packed legacy : Bool)
    → IsStorableDocument d → IsDocumentInRange d → depth (raw_of d packed legacy) ≤ max_depth
    → SpellsValue (document_bytes d packed legacy) (value (raw_of d packed legacy))

-- In the value of a map each key has the value of the last pair with that key.
abbrev pub LastPairStays : Type 0
LastPairStays = (k : Val) (ps : RawPairs)
    → finmap.get (finite_map (pairs ps no_pairs)) k ≡ find val_cmp k (reverse (listed_pairs ps))

-- The bytes of a document's parts are the document's.
abbrev pub PartsBytes : Type 0
PartsBytes = (d : Doc) (packed legacy : Bool)
    → part_bytes (parts d) packed legacy ≡ document_bytes d packed legacy

-- The reference reader, where some formats of keys are read, reads the acceptable items whose keys
-- are all of these formats, and no others.
abbrev pub KeyRule : Type 0
KeyRule = (f : Formats) (levels : ℕ) (bytes rest : List ℕ) (r : Raw)
    → AreBytes bytes → length bytes < 2 ^ 64
    → (item_at (raws_in f (length bytes) None) levels bytes ≡ Ok (r, rest))
    ↔ (Begins levels bytes r rest × HasAllowedKeys f r)

-- What follows an item is left unread.
abbrev pub FollowingIsUnread : Type 0
FollowingIsUnread = (levels : ℕ) (r : Raw) (rest : List ℕ)
    → IsAcceptableWithin levels r → length (spell r ++ rest) < 2 ^ 64
    → item_at (raws_in all_formats (length (spell r ++ rest)) None) levels (spell r ++ rest)
    ≡ Ok (r, rest)

-- A slice that takes whole pieces, up to the first that doesn't fit, holds a prefix of them all.
abbrev pub RefusedHoldsBeginning : Type 0
RefusedHoldsBeginning = (room : ℕ) (pieces : List (List ℕ))
    → (rest : List ℕ) × (held room pieces ++ rest ≡ whole pieces)

-- Where all pieces fit, it holds them all.
abbrev pub AllThatFitIsHeld : Type 0
AllThatFitIsHeld = (room : ℕ) (pieces : List (List ℕ))
    → length (whole pieces) ≤ room → held room pieces ≡ whole pieces

-- A document is storable, or has a first number that isn't stored.
abbrev pub StoredOrStops : Type 0
StoredOrStops = (packed legacy : Bool) (d : Doc)
    → IsStorableDocument d ⊎ ((front : List ℕ) × StandsBefore d packed legacy front)

-- Where all its numbers are stored, it has none.
abbrev pub AllIsStored : Type 0
AllIsStored = (d : Doc) (packed legacy : Bool) (front : List ℕ)
    → IsStorableDocument d → ¬ (StandsBefore d packed legacy front)
