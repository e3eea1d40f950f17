-- What the accesses to an array and a map take of the bytes to come, by the definitions.
use Rattle.std.specs.Prelude.{◌≡◌, ◌≢◌, ◌⊎◌, ℕ, ◌+◌, Bool, true, List, [], ◌∷◌, length, Option, Some}
use Rattle.std.specs.Prelude.{None, Result, MatchResult}
use Rattle.cbor_model.specs.Formats.{Formats, may_begin_key}
use Rattle.cbor_model.specs.Raw.{Raw, AreBytes}
use Rattle.cbor_model.specs.Readable.{Context}
use Rattle.cbor_io.specs.declared.error.Error.{Error}
use Rattle.cbor_io.specs.declared.read_error.ReadErrorCode.{ReadErrorCode}
use Rattle.cbor_io.specs.Error.{code_of, offset_of}
use Rattle.cbor_read.specs.Source.{Input, Lends}
use Rattle.cbor_decode.specs.Gives.{ReportsIo, Reports}
use Rattle.cbor_decode.specs.declared.cursor.Remaining.{Remaining}
use Rattle.cbor_decode.specs.declared.cursor.Remaining.TheVariants.{Counted, ToBreak}
use Rattle.cbor_decode_as.specs.Accesses.{TakesNext}
use Rattle.cbor_decode_as.specs.Collections.{TakesEndOf}
use Rattle.cbor_decode_as.specs.MapAccesses.{TakesKey}
use Rattle.cbor_decode_as.specs.Takes.{ExcusedBy, lending}
use Rattle.cbor_de.specs.ItemTaken.{BeginsAsNone, TookItem}
use Rattle.cbor_decode.specs.declared.cursor.Collection.TheVariants as collection

-- ---- the end

-- No more parts remain: of a count none are left, and in an indefinite length the break (RFC 7049,
-- section 2.2.1) stands here, which the rest follows.
abbrev pub Ends : Remaining → List ℕ → List ℕ → Type 0
Ends (Counted n) bytes rest = (n ≡ 0) × (bytes ≡ rest)
Ends ToBreak bytes rest = bytes ≡ 0xff ∷ rest

-- The source has just the rest to come, and counted the break, if there is one.
pub record TookEnd (remaining : Remaining) (s t : Input) (bytes : List ℕ) : Type 0 where
  pub rest : List ℕ
  pub ends : Ends remaining bytes rest
  pub reports : Reports t rest
  pub count : t.offset + length rest ≡ s.offset + length bytes

abbrev pub NoEnd : Remaining → List ℕ → Type 0
NoEnd remaining bytes = (rest : List ℕ) → Ends remaining bytes rest → ⊥

-- Ok took the end; of an Err none is here, or memory ran out, or the device has a fault.
abbrev pub IsEndTaken : (ReadErrorCode → Bool) → Remaining → Input → Input → List ℕ
    → Result (Unit {0}) Error → Type 0
IsEndTaken refusals remaining s t bytes r = MatchResult r (λ u. TookEnd remaining s t bytes)
    (λ e. ExcusedBy (ReportsIo refusals) (code_of e) (offset_of e) ⊎ NoEnd remaining bytes)

abbrev pub ArrayEndTaken : Type 0
ArrayEndTaken = (refusals : ReadErrorCode → Bool) (remaining : Remaining) (s t : Input)
    (bytes : List ℕ) (r : Result (Unit {0}) Error)
    → Reports s bytes → TakesEndOf collection.Array refusals remaining s t r
    → IsEndTaken refusals remaining s t bytes r

abbrev pub MapEndTaken : Type 0
MapEndTaken = (refusals : ReadErrorCode → Bool) (remaining : Remaining) (s t : Input)
    (bytes : List ℕ) (r : Result (Unit {0}) Error)
    → Reports s bytes → TakesEndOf collection.Map refusals remaining s t r
    → IsEndTaken refusals remaining s t bytes r

-- ---- the next item of an array

-- Another part comes: of a count one fewer is left behind it, and in an indefinite length a byte
-- stands here that isn't the break.
abbrev pub Comes : Remaining → Remaining → List ℕ → Type 0
Comes (Counted n) (Counted m) bytes = n ≡ m + 1
Comes ToBreak ToBreak (b ∷ bytes) = b ≢ 0xff
Comes _ _ _ = ⊥

-- Another item comes, and was taken as x; or the array's end was.
abbrev pub TookNext : {A : Type 0} → Formats → ℕ → (Raw → A → Type 0) → Remaining → Remaining
    → Input → Input → List ℕ → Option A → Type 0
TookNext f levels reads remaining behind s t bytes (Some x) =
    Comes remaining behind bytes × TookItem f levels reads s t bytes x
TookNext f levels reads remaining behind s t bytes None = TookEnd remaining s t bytes

-- Neither the end is here, nor an item that is read as something.
pub record LacksNext {A : Type 0} (f : Formats) (levels : ℕ) (reads : Raw → A → Type 0) (remaining : Remaining) (s : Input) (bytes : List ℕ) : Type 0 where
  pub no_end : NoEnd remaining bytes
  pub no_item : (behind : Remaining) → Comes remaining behind bytes
      → BeginsAsNone f levels reads s bytes

-- Ok took the next item or the end; of an Err neither is here, or memory ran out, or the device has
-- a fault.
abbrev pub ElementTaken : {A : Type 0} → (Context → Raw → A → Type 0) → Type 0
ElementTaken {A} reads = (refusals : ReadErrorCode → Bool) (f : Formats) (l : Lends) (levels : ℕ)
    (remaining behind : Remaining) (s t : Input) (bytes : List ℕ) (r : Result (Option A) Error)
    → Reports s bytes → AreBytes bytes
    → TakesNext refusals f (reads (lending f l)) levels remaining behind s t r
    → MatchResult r (TookNext f levels (reads (lending f l)) remaining behind s t bytes)
    (λ e. ExcusedBy (ReportsIo refusals) (code_of e) (offset_of e)
    ⊎ LacksNext f levels (reads (lending f l)) remaining s bytes)

-- ---- the next key of a map

-- The first byte is one that a key of the formats that are read may begin with.
abbrev pub BeginsKey : Formats → List ℕ → Type 0
BeginsKey f [] = ⊥
BeginsKey f (b ∷ bytes) = may_begin_key f b ≡ true

-- Another key comes, of a format that is read, and was taken as k; or the map's end was.
abbrev pub TookKey : {K : Type 0} → Formats → ℕ → (Raw → K → Type 0) → Remaining → Remaining
    → Input → Input → List ℕ → Option K → Type 0
TookKey f levels reads remaining behind s t bytes (Some k) =
    Comes remaining behind bytes × BeginsKey f bytes × TookItem f levels reads s t bytes k
TookKey f levels reads remaining behind s t bytes None = TookEnd remaining s t bytes

-- Neither the end is here, nor a key of a format that is read, which is read as something.
pub record LacksKey {K : Type 0} (f : Formats) (levels : ℕ) (reads : Raw → K → Type 0) (remaining : Remaining) (s : Input) (bytes : List ℕ) : Type 0 where
  pub no_end : NoEnd remaining bytes
  pub no_key : (behind : Remaining) → Comes remaining behind bytes → BeginsKey f bytes
      → BeginsAsNone f levels reads s bytes

-- Ok took the next key or the end; of an Err neither is here, or memory ran out, or the device has
-- a fault.
abbrev pub KeyTaken : {K : Type 0} → (Context → Raw → K → Type 0) → Type 0
KeyTaken {K} reads = (refusals : ReadErrorCode → Bool) (f : Formats) (l : Lends) (levels : ℕ)
    (remaining behind : Remaining) (s t : Input) (bytes : List ℕ) (r : Result (Option K) Error)
    → Reports s bytes → AreBytes bytes
    → TakesKey refusals f (reads (lending f l)) levels remaining behind s t r
    → MatchResult r (TookKey f levels (reads (lending f l)) remaining behind s t bytes)
    (λ e. ExcusedBy (ReportsIo refusals) (code_of e) (offset_of e)
    ⊎ LacksKey f levels (reads (lending f l)) remaining s bytes)
