-- What a step of a decoder answers, beside what the reference reader answers. `Gives` is the word for
-- steps, which keep why they were refused; for calls, which return an error, it is `Takes`
-- (`cbor_decode_as`).
use Rattle.std.specs.Prelude.{⊤, ◌≡◌, ◌≢◌, ◌+◌, ◌^◌, ◌<◌, ℕ, Bool, true, List, [], ◌∷◌, length}
use Rattle.std.specs.Prelude.{Option, Some, Result, Ok, Err}
use Rattle.cbor_model.specs.Refusal.{Refusal, end_in_value, end_in_array, end_in_map}
use Rattle.cbor_model.specs.Refusal.{length_out_of_range, invalid_utf8, unassigned_code}
use Rattle.cbor_model.specs.Refusal.{unexpected_code, trailing_data, too_deep, scratch_too_small}
use Rattle.cbor_model.specs.Refusal.{wrong_struct_format}
use Rattle.cbor_model.specs.Formats.{Formats}
use Rattle.cbor_model.specs.Raw.{AreBytes}
use Rattle.cbor_model.specs.Plain.{Val, Vals, Pairs}
use Rattle.cbor_model.specs.Reader.{Fault, Reads, Reading, ◌>>=◌, values_of, item_at}
use Rattle.cbor_io.specs.declared.error.ErrorCode.{ErrorCode}
use Rattle.cbor_io.specs.declared.error.ErrorCode.TheVariants.{Io, ScratchTooSmall}
use Rattle.cbor_io.specs.declared.error.ErrorCode.TheVariants.{EofWhileParsingValue}
use Rattle.cbor_io.specs.declared.error.ErrorCode.TheVariants.{EofWhileParsingArray}
use Rattle.cbor_io.specs.declared.error.ErrorCode.TheVariants.{EofWhileParsingMap, LengthOutOfRange}
use Rattle.cbor_io.specs.declared.error.ErrorCode.TheVariants.{InvalidUtf8, UnassignedCode}
use Rattle.cbor_io.specs.declared.error.ErrorCode.TheVariants.{UnexpectedCode, TrailingData}
use Rattle.cbor_io.specs.declared.error.ErrorCode.TheVariants.{RecursionLimitExceeded}
use Rattle.cbor_io.specs.declared.error.ErrorCode.TheVariants.{WrongEnumFormat, WrongStructFormat}
use Rattle.cbor_io.specs.declared.error.ErrorCode.TheVariants.{NotCanonical}
use Rattle.cbor_io.specs.declared.error.ErrorCode.TheVariants.{OutOfMemory}
use Rattle.cbor_io.specs.declared.error.ErrorCode.TheVariants.{ArrayTooShort, ArrayTooLong}
use Rattle.cbor_io.specs.declared.error.Error.{Error}
use Rattle.cbor_io.specs.Error.{code_of, offset_of, IsOutOfMemory}
use Rattle.cbor_io.specs.declared.read_error.ReadError.{ReadError}
use Rattle.cbor_io.specs.declared.read_error.ReadErrorCode.{ReadErrorCode}
use Rattle.cbor_io.specs.declared.read_error.ReadErrorCode.TheVariants as reading
use Rattle.cbor_io.specs.ReadError.{why, place, error_code}
use Rattle.cbor_read.specs.Source.{Input, TookSome}
use Rattle.cbor_decode.specs.declared.refusal.Refused.{Refused}
use Rattle.cbor_decode.specs.declared.refusal.Refused.TheVariants as refused

-- ---- refusals

-- reading meets this fault, at the offset in an input of that length
abbrev pub FailsAs : {A : Type 0} → Refusal → ℕ → ℕ → Result A Fault → Type 0
FailsAs why end offset read =
    (left : ℕ) × (offset + left ≡ end) × (read ≡ Err (record { why = why; left = left }))

-- The code and the offset report the fault; or that memory ran out, or a fault of the device, where
-- there can be one.
abbrev pub FailsBy : {A : Type 0} → Type 0 → ErrorCode → ℕ → ℕ → Result A Fault → Type 0
FailsBy Device EofWhileParsingValue end offset read = FailsAs end_in_value end offset read
FailsBy Device EofWhileParsingArray end offset read = FailsAs end_in_array end offset read
FailsBy Device EofWhileParsingMap end offset read = FailsAs end_in_map end offset read
FailsBy Device LengthOutOfRange end offset read = FailsAs length_out_of_range end offset read
FailsBy Device InvalidUtf8 end offset read = FailsAs invalid_utf8 end offset read
FailsBy Device UnassignedCode end offset read = FailsAs unassigned_code end offset read
FailsBy Device UnexpectedCode end offset read = FailsAs unexpected_code end offset read
FailsBy Device TrailingData end offset read = FailsAs trailing_data end offset read
FailsBy Device RecursionLimitExceeded end offset read = FailsAs too_deep end offset read
FailsBy Device ScratchTooSmall end offset read = FailsAs scratch_too_small end offset read
FailsBy Device WrongStructFormat end offset read = FailsAs wrong_struct_format end offset read
FailsBy Device (Io fault) end offset read = Device × (offset ≡ 0)
FailsBy Device OutOfMemory end offset read = offset ≡ 0
FailsBy Device _ end offset read = ⊥

-- The error reports the fault, or that memory ran out.
abbrev pub Fails : {A : Type 0} → ℕ → Error → Result A Fault → Type 0
Fails end e read = FailsBy ⊥ (code_of e) end (offset_of e) read

-- The error reports the fault, or that memory ran out, or a fault of the reader.
abbrev pub FailsOrFaults : {A : Type 0} → ℕ → Error → Result A Fault → Type 0
FailsOrFaults end e read = FailsBy ⊤ (code_of e) end (offset_of e) read

abbrev pub IsMemoryOrFaultBy : ErrorCode → Type 0
IsMemoryOrFaultBy OutOfMemory = ⊤
IsMemoryOrFaultBy (Io fault) = ⊤
IsMemoryOrFaultBy _ = ⊥

-- memory ran out, or a reader reported a fault
abbrev pub IsMemoryOrFault : Error → Type 0
IsMemoryOrFault e = IsMemoryOrFaultBy (code_of e) × (offset_of e ≡ 0)

abbrev pub IsScratchOrMemoryBy : ErrorCode → Type 0
IsScratchOrMemoryBy ScratchTooSmall = ⊤
IsScratchOrMemoryBy OutOfMemory = ⊤
IsScratchOrMemoryBy _ = ⊥

-- the scratch is too small, or memory ran out
abbrev pub IsScratchOrMemory : Error → Type 0
IsScratchOrMemory e = IsScratchOrMemoryBy (code_of e)

-- A reader reports that these bytes are to come from it.
pub record Gave (remaining : Option (List ℕ)) (bytes : List ℕ) : Type 0 where
  pub reported : remaining ≡ Some bytes
  pub are_bytes : AreBytes bytes
  pub short : length bytes < 2 ^ 64

-- ---- sources

-- The bytes that a source reports, where its whole input is shorter than 2^64.
pub record Reports (s : Input) (bs : List ℕ) : Type 0 where
  pub is : s.to_come ≡ Some bs
  pub short : s.offset + length bs < 2 ^ 64

-- What an input sets: its length, and how many bytes of chunks can be joined.
pub record Limits : Type 0 where
  pub total : ℕ
  pub room : Option ℕ

abbrev pub limits : Input → List ℕ → Limits
limits s bs = record { total = s.offset + length bs; room = s.room }

-- the reading of values of these formats within these limits
abbrev pub values : Formats → Limits → Reading Val Vals (Pairs → Pairs)
values f l = values_of f l.total l.room

-- what a step from s, which reports bs, leaves in t
pub record Leaves (s t : Input) (bs : List ℕ) (P : List ℕ → Type 0) : Type 0 where
  pub rest : List ℕ
  pub reports : Reports t rest
  pub total : t.offset + length rest ≡ s.offset + length bs
  pub holds : P rest

-- A step from s to t took some bytes, and P holds of it: of the limits, the bytes before and those
-- after.
pub record Step (s t : Input) (P : Limits → List ℕ → List ℕ → Type 0) : Type 0 where
  pub took : TookSome s t
  pub reported : (bs : List ℕ) → Reports s bs → Leaves s t bs (P (limits s bs) bs)

-- whether a source can report a fault of a device
abbrev pub ReportsIo : (ReadErrorCode → Bool) → Type 0
ReportsIo refusals = (fault : _) × (refusals (reading.Io fault) ≡ true)

-- The error reports the fault of a reading from s.
pub record Stops {A : Type 0} (refusals : ReadErrorCode → Bool) (read : Limits → List ℕ → Reads A) (s : Input) (e : ReadError) : Type 0 where
  pub reported : (bs : List ℕ) → Reports s bs → FailsBy (ReportsIo refusals) (error_code (why e)) (s.offset + length bs) (place e) (read (limits s bs) bs)

-- What the decoder keeps reports the fault of a reading from s; or memory ran out.
abbrev pub ReportsWhy : {A : Type 0} → (ReadErrorCode → Bool) → (Limits → List ℕ → Reads A) → Input
    → ReadError → Refused → Type 0
ReportsWhy refusals read s kept refused.OutOfMemory = ⊤
ReportsWhy refusals read s kept refused.Kept = Stops refusals read s kept

-- A step from s was refused, and left t: some bytes were taken, and what is kept says why.
pub record Stopped {A : Type 0} (refusals : ReadErrorCode → Bool) (read : Limits → List ℕ → Reads A) (s t : Input) (kept : ReadError) (r : Refused) : Type 0 where
  pub took : TookSome s t
  pub reported : ReportsWhy refusals read s kept r

-- What was read, seen by view, and the bytes to come after it; or why not, and some bytes were taken.
abbrev pub Gives : {X A : Type 0} → (ReadErrorCode → Bool) → (X → A) → (Limits → List ℕ → Reads A)
    → Input → Input → ReadError → Result X Refused → Type 0
Gives refusals view read s t kept (Ok x) = Step s t (λ l bs rest. read l bs ≡ Ok (view x, rest))
Gives refusals view read s t kept (Err r) = Stopped refusals read s t kept r

-- a refusal by this code, at this offset
abbrev pub IsAt : ReadErrorCode → ℕ → ReadError → Type 0
IsAt code offset e = (why e ≡ code) × (place e ≡ offset)

-- What is kept of a refusal isn't the key rule's: that a key may not begin as it does.
abbrev pub ReportsNoKey : ReadError → Refused → Type 0
ReportsNoKey kept refused.OutOfMemory = ⊤
ReportsNoKey kept refused.Kept = why kept ≢ reading.WrongStructFormat

-- What is kept of a refusal isn't that an allocation failed.
abbrev pub ReportsNoMemory : ReadError → Refused → Type 0
ReportsNoMemory kept refused.OutOfMemory = ⊥
ReportsNoMemory kept refused.Kept = why kept ≢ reading.OutOfMemory

-- the error that a call makes of a refusal
abbrev pub IsErrorOf : ReadError → Refused → Error → Type 0
IsErrorOf kept refused.OutOfMemory e = IsOutOfMemory e
IsErrorOf kept refused.Kept e =
    (code_of e ≡ error_code (why kept)) × (offset_of e ≡ place kept)

-- none of the codes that report a wrong form: of an array, an enum, a struct or a spelling
abbrev pub ReportsNoForm : ErrorCode → Type 0
ReportsNoForm ArrayTooShort = ⊥
ReportsNoForm ArrayTooLong = ⊥
ReportsNoForm WrongEnumFormat = ⊥
ReportsNoForm WrongStructFormat = ⊥
ReportsNoForm NotCanonical = ⊥
ReportsNoForm code = ⊤

-- nothing is to come
abbrev pub end_at : List ℕ → Reads (Unit {0})
end_at [] = Ok (tt, [])
end_at (b ∷ bs) = Err (record { why = trailing_data; left = length bs })

-- an item, and nothing after it
abbrev pub whole_at : Formats → ℕ → Limits → List ℕ → Reads Val
whole_at f levels l bs =
    item_at (values f l) levels bs >>= (λ v. end_at v.1 >>= (λ u. Ok (v.0, u.1)))

-- That nothing is to come; or why not.
abbrev pub Ends : (ReadErrorCode → Bool) → Input → Result (Unit {0}) Error → Type 0
Ends refusals s (Ok u) = (bs : List ℕ) → Reports s bs → bs ≡ []
Ends refusals s (Err e) = (bs : List ℕ) → Reports s bs → FailsBy (ReportsIo refusals) (code_of e) (s.offset + length bs) (offset_of e) (end_at bs)

-- a byte at the least was taken
pub record Advances (s t : Input) : Type 0 where
  pub further : s.offset < t.offset
  pub counted : s.offset < 2 ^ 64

-- the buffer stays
abbrev pub KeepsBuffer : Input → Input → Type 0
KeepsBuffer s t = t.buffer ≡ s.buffer
