-- The refusal of an item at the front of the bytes to come, or of a whole input, by the definitions.
use Rattle.std.specs.Prelude.{false, ◌⊎◌, ℕ, Bool, List, length, Option}
use Rattle.cbor_model.specs.Allowed.{Limits, limits_of}
use Rattle.cbor_model.specs.Formats.{all_formats}
use Rattle.cbor_model.specs.Raw.{AreBytes}
use Rattle.cbor_model.specs.Reader.{read_value_in}
use Rattle.cbor_io.specs.declared.error.Error.{Error}
use Rattle.cbor_io.specs.declared.read_error.ReadErrorCode.{ReadErrorCode}
use Rattle.cbor_io.specs.Error.{IsOutOfMemory}
use Rattle.cbor_decode.specs.FirstRefusal.{ReportsFirst}
use Rattle.cbor_decode.specs.Gives.{Fails, IsMemoryOrFault, ReportsIo, Reports}
use Rattle.cbor_read.specs.Source.{Input}
use Rattle.cbor_decode_as.specs.Takes.{ReportsItem, WhereTotal}

-- what bounds the item at the front, of which so many levels are read
abbrev pub bounds_of : ℕ → Input → Limits
bounds_of levels s = record { start = s.offset; levels = levels; scratch = s.room }

-- The error of a type that reads every item, in all formats and within so many levels, reports the
-- first refusal that the bytes to come allow; or memory ran out, or the source reported a fault.
abbrev pub ItemRefusedFirst : Bool → Type 0
ItemRefusedFirst total = (refusals : ReadErrorCode → Bool) (levels : ℕ) (s : Input)
    (bytes : List ℕ) (e : Error) → Reports s bytes → AreBytes bytes
    → ReportsItem false total refusals all_formats levels s e
    → WhereTotal total (IsOutOfMemory e ⊎ (ReportsIo refusals × IsMemoryOrFault e)
    ⊎ ReportsFirst (bounds_of levels s) bytes e)

-- An error that reports the first refusal that an input allows reports the fault of the reference reader.
abbrev pub FirstIsFault : Type 0
FirstIsFault = (room : Option ℕ) (bytes : List ℕ) (e : Error) → AreBytes bytes
    → ReportsFirst (limits_of room) bytes e → Fails (length bytes) e (read_value_in room bytes)
