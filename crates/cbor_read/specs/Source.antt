-- What a source of bytes means, and what each of its calls takes.
use Rattle.std.specs.Prelude.{◌≡◌, ◌≢◌, ⊤, ℕ, ◌+◌, ◌^◌, ◌-◌, ◌<◌, ◌≤◌, Bool, true, false, List, []}
use Rattle.std.specs.Prelude.{◌∷◌, ◌++◌, length, drop, Option, Some, None, Result, Ok, Err, IfSome}
use Rattle.std.specs.Prelude.{MatchResult, MatchOption}
use Rattle.std.specs.Io.KnownBytes.{Consumes, Keeps, prepend_known}
use Rattle.std.specs.Str.Lossy.{utf8_valid_len}
use Rattle.cbor_io.specs.ReadError.{why, place, HasNoPlace}
use Rattle.cbor_io.specs.declared.read_error.ReadError.{ReadError}
use Rattle.cbor_io.specs.declared.read_error.ReadErrorCode.{ReadErrorCode}
use Rattle.cbor_io.specs.declared.read_error.ReadErrorCode.TheVariants.{Io, ScratchTooSmall}
use Rattle.cbor_io.specs.declared.read_error.ReadErrorCode.TheVariants.{EofWhileParsingValue}
use Rattle.cbor_io.specs.declared.read_error.ReadErrorCode.TheVariants.{LengthOutOfRange}
use Rattle.cbor_io.specs.declared.read_error.ReadErrorCode.TheVariants.{OutOfMemory}
use Rattle.cbor_read.specs.declared.EitherLifetime.{EitherLifetime}
use Rattle.cbor_read.specs.declared.EitherLifetime.TheVariants.{Short, Long}

-- A source is the bytes to come (None where it doesn't report them), the buffer, how many bytes it
-- handed out, and the most that the buffer holds (None where it grows).
pub record Input : Type 0 where
  pub to_come : Option (List ℕ)
  pub buffer : List ℕ
  pub offset : ℕ
  pub room : Option ℕ

-- What a source lends for the input's whole life: what `read` takes, and what was joined in the
-- buffer.
pub record Lends : Type 0 where
  pub whole : Bool
  pub joined : Bool

-- For what a source may ask for memory: to hand out or skip the next bytes, and to join some in its
-- buffer.
pub record Asks : Type 0 where
  pub whole : Bool
  pub joined : Bool

-- ---- parts of the input

abbrev pub part_bytes : EitherLifetime → List ℕ
part_bytes (Short s) = s.now
part_bytes (Long s) = s.now

abbrev pub is_long : EitherLifetime → Bool
is_long (Short s) = false
is_long (Long s) = true

-- the first byte, if there is one
abbrev pub first_of : List ℕ → Option ℕ
first_of [] = None
first_of (b ∷ bs) = Some b

-- ---- what a call takes

-- these bytes were taken, and counted
pub record Took (s t : Input) (bs : List ℕ) : Type 0 where
  pub bytes : Consumes s.to_come t.to_come bs
  pub count : t.offset ≡ s.offset + length bs
  pub room : t.room ≡ s.room

-- these bytes were taken and counted, and the buffer stays
pub record TookKept (s t : Input) (bs : List ℕ) : Type 0 where
  pub bytes : Consumes s.to_come t.to_come bs
  pub count : t.offset ≡ s.offset + length bs
  pub room : t.room ≡ s.room
  pub kept : t.buffer ≡ s.buffer

-- some bytes were taken, and counted
pub record TookSome (s t : Input) : Type 0 where
  pub some : List ℕ
  pub bytes : Consumes s.to_come t.to_come some
  pub count : t.offset ≡ s.offset + length some
  pub room : t.room ≡ s.room

-- nothing was taken, and the buffer stays
pub record Stays (s t : Input) : Type 0 where
  pub bytes : Keeps s.to_come t.to_come
  pub count : t.offset ≡ s.offset
  pub room : t.room ≡ s.room
  pub kept : t.buffer ≡ s.buffer

-- nothing was taken
pub record KeepsBytes (s t : Input) : Type 0 where
  pub bytes : Keeps s.to_come t.to_come
  pub count : t.offset ≡ s.offset
  pub room : t.room ≡ s.room

-- the next n bytes went to the buffer's end
pub record Buffered (s t : Input) (n : ℕ) : Type 0 where
  pub some : List ℕ
  pub len : length some ≡ n
  pub bytes : Consumes s.to_come t.to_come some
  pub count : t.offset ≡ s.offset + n
  pub room : t.room ≡ s.room
  pub buffered : t.buffer ≡ s.buffer ++ some

-- the next n bytes went after these
pub record TookBehind (s t : Input) (n : ℕ) (old new : List ℕ) : Type 0 where
  pub some : List ℕ
  pub len : length some ≡ n
  pub bytes : Consumes s.to_come t.to_come some
  pub count : t.offset ≡ s.offset + n
  pub room : t.room ≡ s.room
  pub kept : t.buffer ≡ s.buffer
  pub behind : new ≡ old ++ some

-- the buffer is no longer than the most that it holds
abbrev pub FitsRoom : Input → Type 0
FitsRoom s = MatchOption s.room ⊤ (λ most. length s.buffer ≤ most)

-- the next n bytes were taken
pub record Skipped (s t : Input) (n : ℕ) : Type 0 where
  pub some : List ℕ
  pub len : length some ≡ n
  pub bytes : Consumes s.to_come t.to_come some
  pub count : t.offset ≡ s.offset + n
  pub room : t.room ≡ s.room

-- the next n bytes were taken, of which so many, from the front, are UTF-8
pub record SkippedText (s t : Input) (n valid : ℕ) : Type 0 where
  pub some : List ℕ
  pub len : length some ≡ n
  pub utf8 : valid ≡ utf8_valid_len some
  pub bytes : Consumes s.to_come t.to_come some
  pub count : t.offset ≡ s.offset + n
  pub room : t.room ≡ s.room

-- ---- refusals

-- fewer than n bytes are to come, and at is where they end
abbrev pub TooFew : Input → ℕ → ℕ → Type 0
TooFew s n at = IfSome s.to_come (λ bs. (length bs < n) × (at ≡ s.offset + length bs))

-- the offset is the last there is, and another byte is there
abbrev pub AtLimit : Input → ℕ → Type 0
AtLimit t at = (at ≡ 2 ^ 64 - 1) × (t.offset ≡ 2 ^ 64 - 1) × IfSome t.to_come (λ bs. bs ≢ [])

-- the codes that a source has
abbrev pub IsOfSource : ReadErrorCode → Type 0
IsOfSource (Io fault) = ⊤
IsOfSource OutOfMemory = ⊤
IsOfSource ScratchTooSmall = ⊤
IsOfSource EofWhileParsingValue = ⊤
IsOfSource LengthOutOfRange = ⊤
IsOfSource _ = ⊥

-- How a call that wanted n bytes of s was refused, and left t: by one of the codes allowed, with
-- a prefix of the bytes gone.
pub record RefusedCall (allowed : ReadErrorCode → Bool) (s t : Input) (n : ℕ) (e : ReadError)
    : Type 0 where
  pub code : allowed (why e) ≡ true
  pub kind : IsOfSource (why e)
  pub moved : TookSome s t
  pub nowhere : HasNoPlace (why e) → place e ≡ 0
  pub ended : why e ≡ EofWhileParsingValue → TooFew s n (place e)
  pub limit : why e ≡ LengthOutOfRange → AtLimit t (place e)

-- the buffer has no room for n bytes more, which are there
abbrev pub NoRoom : Input → ℕ → Type 0
NoRoom s n =
    MatchOption s.room ⊥ (λ most. most < length s.buffer + n)
    × IfSome s.to_come (λ bs. n ≤ length bs)

-- How a call that appends to the buffer was refused. Where there is no room, nothing has changed.
pub record RefusedToBuffer (allowed : ReadErrorCode → Bool) (s t : Input) (n : ℕ) (e : ReadError)
    : Type 0 where
  pub refused : RefusedCall allowed s t n e
  pub small : why e ≡ ScratchTooSmall → Stays s t × (place e ≡ s.offset) × NoRoom s n

-- Some bytes were taken, and counted. What stood here stays, followed by a prefix of them; the
-- others are lost.
pub record Lengthened (s t : Input) (old new : List ℕ) : Type 0 where
  pub some : List ℕ
  pub lost : List ℕ
  pub bytes : Consumes s.to_come t.to_come (some ++ lost)
  pub count : t.offset ≡ s.offset + length (some ++ lost)
  pub behind : new ≡ old ++ some

-- these codes, and that an allocation failed
abbrev pub or_memory : (ReadErrorCode → Bool) → ReadErrorCode → Bool
or_memory allowed OutOfMemory = true
or_memory allowed code = allowed code

-- how a call that leaves the buffer alone was refused
pub record RefusedInto (allowed : ReadErrorCode → Bool) (s t : Input) (n : ℕ) (e : ReadError)
    : Type 0 where
  pub refused : RefusedCall allowed s t n e
  pub kept : t.buffer ≡ s.buffer
  pub room : why e ≢ ScratchTooSmall

-- How `next` or `peek` was refused: nothing was taken, and no memory asked for. An end isn't refused.
pub record RefusedByte (allowed : ReadErrorCode → Bool) (s t : Input) (e : ReadError) : Type 0 where
  pub refused : RefusedCall allowed s t 0 e
  pub stays : Stays s t
  pub room : why e ≢ ScratchTooSmall
  pub ended : why e ≢ EofWhileParsingValue
  pub memory : why e ≢ OutOfMemory

-- how a call that hands on n bytes, or skips them, was refused
abbrev pub RefusedPart : (ReadErrorCode → Bool) → Input → Input → ℕ → ReadError → Type 0
RefusedPart allowed s t n e = RefusedCall allowed s t n e × (why e ≢ ScratchTooSmall)

-- what `next` does: a byte was taken, or the end was met
abbrev pub NextDoes : (ReadErrorCode → Bool) → Input → Input → Result (Option ℕ) ReadError → Type 0
NextDoes allowed s t (Ok (Some b)) = TookKept s t (b ∷ [])
NextDoes allowed s t (Ok None) = Stays s t × IfSome s.to_come (λ bs. bs ≡ [])
NextDoes allowed s t (Err e) = RefusedByte allowed s t e

-- what `read` leaves
abbrev pub ReadLeaves : (ReadErrorCode → Bool) → Input → Input → ℕ → Result EitherLifetime ReadError
    → Type 0
ReadLeaves allowed s t n r =
    MatchResult r (λ p. Took s t (part_bytes p))
    (RefusedPart allowed s t n)

-- ---- memory

abbrev pub asks_part : Bool → Bool → Bool
asks_part refuses true = false
asks_part refuses false = refuses

-- none is asked for what is lent for the input's life, nor by a source that has no such refusal
abbrev pub asks_for : (ReadErrorCode → Bool) → Lends → Asks
asks_for refusals lends =
    record {
      whole = asks_part (refusals OutOfMemory) lends.whole;
      joined = asks_part (refusals OutOfMemory) lends.joined;
    }

-- memory ran out only where it may be asked for
abbrev pub MemoryWhere : Bool → ReadError → Type 0
MemoryWhere asked e = why e ≡ OutOfMemory → asked ≡ true

-- ---- the sources

-- a slice of which the first bytes were taken
abbrev pub slice_input : List ℕ → ℕ → List ℕ → Option ℕ → Input
slice_input bs taken buffer room =
    record { to_come = Some (drop taken bs); buffer = buffer; offset = taken; room = room }

-- a slice of which nothing was taken, where so many bytes of chunks can be joined
abbrev pub start_of_slice : List ℕ → Option ℕ → Input
start_of_slice bs room = slice_input bs 0 [] room

-- the bytes that a reader has left, after the byte that was peeked
abbrev pub with_peeked : Option ℕ → Option (List ℕ) → Option (List ℕ)
with_peeked None remaining = remaining
with_peeked (Some b) remaining = prepend_known (b ∷ []) remaining

-- a reader, of which offset bytes were handed out
abbrev pub reader_input : Option ℕ → Option (List ℕ) → List ℕ → ℕ → Input
reader_input peeked remaining buffer offset =
    record {
      to_come = with_peeked peeked remaining;
      buffer = buffer;
      offset = offset;
      room = None;
    }

-- a reader of which nothing was taken
abbrev pub start_of_reader : Option (List ℕ) → Input
start_of_reader remaining = reader_input None remaining [] 0

-- which codes each source may answer
abbrev pub slice_refusals : ReadErrorCode → Bool
slice_refusals EofWhileParsingValue = true
slice_refusals OutOfMemory = true
slice_refusals _ = false

abbrev pub fixed_refusals : ReadErrorCode → Bool
fixed_refusals EofWhileParsingValue = true
fixed_refusals ScratchTooSmall = true
fixed_refusals _ = false

abbrev pub mut_refusals : ReadErrorCode → Bool
mut_refusals EofWhileParsingValue = true
mut_refusals _ = false

abbrev pub reader_refusals : ReadErrorCode → Bool
reader_refusals EofWhileParsingValue = true
reader_refusals LengthOutOfRange = true
reader_refusals (Io fault) = true
reader_refusals OutOfMemory = true
reader_refusals _ = false
