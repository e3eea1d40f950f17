-- What the refusal of a variant's content reports.
use Rattle.std.specs.Prelude.{ℕ, Bool}
use Rattle.cbor_io.specs.declared.error.Error.{Error}
use Rattle.cbor_io.specs.declared.read_error.ReadErrorCode.{ReadErrorCode}
use Rattle.cbor_read.specs.Source.{Input}
use Rattle.cbor_decode_as.specs.Contents.{ContentFault}
use Rattle.cbor_decode_as.specs.Takes.{WhereTotal}
use Rattle.cbor_decode_as.specs.declared.variant.Form.{Form}

-- Where a variant's refusals report the faults of the bytes: the fault of the content, if the error
-- reports one.
abbrev pub OwnContentFault : (ReadErrorCode → Bool) → Bool → ℕ → Form → Input → Error → Type 0
OwnContentFault refusals reports_faults left form s e =
    WhereTotal reports_faults (ContentFault refusals left form s e)
