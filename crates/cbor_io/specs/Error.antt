-- What an `Error` is: a code and an offset; and what it prints.
use Rattle.std.specs.Prelude.{◌≡◌, ◌+◌, ◌-◌, ◌^◌, ⊤, ℕ, zero, suc, min, List, ◌++◌, codes, Option, Some, None}
use Rattle.std.specs.String.{string_bytes}
use Rattle.cbor_model.specs.Refusal.{words, at_offset, end_in_value, end_in_array, end_in_map}
use Rattle.cbor_model.specs.Refusal.{length_out_of_range, invalid_utf8, unassigned_code}
use Rattle.cbor_model.specs.Refusal.{unexpected_code, trailing_data, too_deep}
use Rattle.cbor_model.specs.Refusal.{wrong_struct_format}
use Rattle.cbor_io.specs.declared.error.Category.{Category}
use Rattle.cbor_io.specs.declared.error.Category.TheVariants as category
use Rattle.cbor_io.specs.declared.error.ErrorCode.{ErrorCode}
use Rattle.cbor_io.specs.declared.error.ErrorCode.TheVariants.{Message, Io, ScratchTooSmall}
use Rattle.cbor_io.specs.declared.error.ErrorCode.TheVariants.{EofWhileParsingValue}
use Rattle.cbor_io.specs.declared.error.ErrorCode.TheVariants.{EofWhileParsingArray}
use Rattle.cbor_io.specs.declared.error.ErrorCode.TheVariants.{EofWhileParsingMap, LengthOutOfRange}
use Rattle.cbor_io.specs.declared.error.ErrorCode.TheVariants.{InvalidUtf8, UnassignedCode}
use Rattle.cbor_io.specs.declared.error.ErrorCode.TheVariants.{UnexpectedCode, TrailingData}
use Rattle.cbor_io.specs.declared.error.ErrorCode.TheVariants.{ArrayTooShort, ArrayTooLong}
use Rattle.cbor_io.specs.declared.error.ErrorCode.TheVariants.{RecursionLimitExceeded}
use Rattle.cbor_io.specs.declared.error.ErrorCode.TheVariants.{WrongEnumFormat, WrongStructFormat}
use Rattle.cbor_io.specs.declared.error.ErrorCode.TheVariants.{NotCanonical}
use Rattle.cbor_io.specs.declared.error.ErrorCode.TheVariants.{OutOfMemory}
use Rattle.cbor_io.specs.declared.error.Error.{Error}
pub use Rattle.cbor_io.specs.Place.{HasNoOffset}

abbrev pub code_of : Error → ErrorCode
code_of e = e.code

abbrev pub offset_of : Error → ℕ
offset_of e = e.offset

-- an allocation failed
abbrev pub IsOutOfMemory : Error → Type 0
IsOutOfMemory e = (e.code ≡ OutOfMemory) × (e.offset ≡ 0)

-- An error is the other where so many bytes precede: further by these where it has a place.
pub record IsFurther (before : ℕ) (alone further : Error) : Type 0 where
  pub code : code_of further ≡ code_of alone
  pub stays : HasNoOffset (code_of alone) → offset_of further ≡ offset_of alone
  pub offset : ¬ (HasNoOffset (code_of alone))
      → offset_of further ≡ min (offset_of alone + before) (2 ^ 64 - 1)

abbrev pub category_of : ErrorCode → Category
category_of (Message s) = category.Data
category_of (Io e) = category.Io
category_of ScratchTooSmall = category.Io
category_of EofWhileParsingValue = category.Eof
category_of EofWhileParsingArray = category.Eof
category_of EofWhileParsingMap = category.Eof
category_of OutOfMemory = category.Io
category_of _ = category.Syntax

-- the words of a code
abbrev pub code_text : ErrorCode → List ℕ
code_text (Message s) = string_bytes s
code_text (Io e) = codes "I/O error"
code_text ScratchTooSmall = codes "Scratch buffer too small"
code_text EofWhileParsingValue = words end_in_value
code_text EofWhileParsingArray = words end_in_array
code_text EofWhileParsingMap = words end_in_map
code_text LengthOutOfRange = words length_out_of_range
code_text InvalidUtf8 = words invalid_utf8
code_text UnassignedCode = words unassigned_code
code_text UnexpectedCode = words unexpected_code
code_text TrailingData = words trailing_data
code_text ArrayTooShort = codes "array too short"
code_text ArrayTooLong = codes "array too long"
code_text RecursionLimitExceeded = words too_deep
code_text WrongEnumFormat = codes "wrong enum format"
code_text WrongStructFormat = words wrong_struct_format
code_text NotCanonical = codes "not canonical"
code_text OutOfMemory = codes "out of memory"

-- the words, and the offset where it isn't 0
abbrev pub error_text : Error → List ℕ
error_text e = code_text e.code ++ at_offset e.offset

-- What it prints under the options of a hole, as `{:#}` or `{:>40}`, which it ignores. Where an offset
-- follows the words, what is printed then isn't said.
abbrev pub styled_at : ℕ → List ℕ → Option (List ℕ)
styled_at zero text = Some text
styled_at (suc n) text = None

abbrev pub styled_error_text : Error → Option (List ℕ)
styled_error_text e = styled_at e.offset (code_text e.code)

-- an error with this text, where the text is known; or out of memory
abbrev pub IsMessageOf : Option (List ℕ) → ErrorCode → Type 0
IsMessageOf None (Message s) = ⊤
IsMessageOf (Some t) (Message s) = string_bytes s ≡ t
IsMessageOf text OutOfMemory = ⊤
IsMessageOf text _ = ⊥
