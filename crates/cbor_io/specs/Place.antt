-- Which codes have no place in the input.
use Rattle.std.specs.Prelude.{⊤}
use Rattle.cbor_io.specs.declared.error.ErrorCode.{ErrorCode}
use Rattle.cbor_io.specs.declared.error.ErrorCode.TheVariants as error
use Rattle.cbor_io.specs.declared.error.ErrorCode.TheVariants.{Message, Io, OutOfMemory}
use Rattle.cbor_io.specs.declared.read_error.ReadErrorCode.{ReadErrorCode}
use Rattle.cbor_io.specs.declared.read_error.ReadErrorCode.TheVariants as read

-- a message, a fault of a device and lack of memory have no place in the input
abbrev pub HasNoOffset : ErrorCode → Type 0
HasNoOffset (Message s) = ⊤
HasNoOffset (Io e) = ⊤
HasNoOffset OutOfMemory = ⊤
HasNoOffset _ = ⊥

-- the code of the error that is made of it
abbrev pub error_code : ReadErrorCode → ErrorCode
error_code (read.Io fault) = error.Io fault
error_code read.ScratchTooSmall = error.ScratchTooSmall
error_code read.EofWhileParsingValue = error.EofWhileParsingValue
error_code read.EofWhileParsingArray = error.EofWhileParsingArray
error_code read.EofWhileParsingMap = error.EofWhileParsingMap
error_code read.LengthOutOfRange = error.LengthOutOfRange
error_code read.InvalidUtf8 = error.InvalidUtf8
error_code read.UnassignedCode = error.UnassignedCode
error_code read.UnexpectedCode = error.UnexpectedCode
error_code read.TrailingData = error.TrailingData
error_code read.RecursionLimitExceeded = error.RecursionLimitExceeded
error_code read.WrongStructFormat = error.WrongStructFormat
error_code read.OutOfMemory = error.OutOfMemory

-- which of the codes of reading have no place
abbrev pub HasNoPlace : ReadErrorCode → Type 0
HasNoPlace code = HasNoOffset (error_code code)
