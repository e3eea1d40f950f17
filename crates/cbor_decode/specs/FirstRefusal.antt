-- The refusal that an error reports, by the definitions.
use Rattle.std.specs.Prelude.{◌≡◌, ◌+◌, ℕ, List}
use Rattle.cbor_model.specs.Refusal.{Refusal, end_in_value, end_in_array, end_in_map}
use Rattle.cbor_model.specs.Refusal.{length_out_of_range, invalid_utf8, unassigned_code}
use Rattle.cbor_model.specs.Refusal.{unexpected_code, trailing_data, too_deep, scratch_too_small}
use Rattle.cbor_model.specs.Refusal.{wrong_struct_format}
use Rattle.cbor_model.specs.Allowed.{Limits, IsFirstRefusal}
use Rattle.cbor_io.specs.declared.error.ErrorCode.{ErrorCode}
use Rattle.cbor_io.specs.declared.error.ErrorCode.TheVariants.{ScratchTooSmall}
use Rattle.cbor_io.specs.declared.error.ErrorCode.TheVariants.{EofWhileParsingValue}
use Rattle.cbor_io.specs.declared.error.ErrorCode.TheVariants.{EofWhileParsingArray}
use Rattle.cbor_io.specs.declared.error.ErrorCode.TheVariants.{EofWhileParsingMap, LengthOutOfRange}
use Rattle.cbor_io.specs.declared.error.ErrorCode.TheVariants.{InvalidUtf8, UnassignedCode}
use Rattle.cbor_io.specs.declared.error.ErrorCode.TheVariants.{UnexpectedCode, TrailingData}
use Rattle.cbor_io.specs.declared.error.ErrorCode.TheVariants.{RecursionLimitExceeded}
use Rattle.cbor_io.specs.declared.error.ErrorCode.TheVariants.{WrongStructFormat}
use Rattle.cbor_io.specs.declared.error.Error.{Error}
use Rattle.cbor_io.specs.Error.{code_of, offset_of}

-- the code of a refusal
abbrev pub refusal_code : Refusal → ErrorCode
refusal_code end_in_value = EofWhileParsingValue
refusal_code end_in_array = EofWhileParsingArray
refusal_code end_in_map = EofWhileParsingMap
refusal_code length_out_of_range = LengthOutOfRange
refusal_code invalid_utf8 = InvalidUtf8
refusal_code unassigned_code = UnassignedCode
refusal_code unexpected_code = UnexpectedCode
refusal_code trailing_data = TrailingData
refusal_code too_deep = RecursionLimitExceeded
refusal_code scratch_too_small = ScratchTooSmall
refusal_code wrong_struct_format = WrongStructFormat

-- The error reports the first refusal that the bytes allow within these limits: by its code, and at its
-- offset in the input that they end.
pub record ReportsFirst (l : Limits) (bytes : List ℕ) (e : Error) : Type 0 where
  pub why : Refusal
  pub offset : ℕ
  pub code : code_of e ≡ refusal_code why
  pub at : offset_of e ≡ l.start + offset
  pub first : IsFirstRefusal l bytes why offset
