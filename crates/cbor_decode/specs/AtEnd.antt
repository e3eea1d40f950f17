-- What looking for the end of the input takes.
use Rattle.std.specs.Prelude.{◌≡◌, ℕ, Bool, true, [], ◌∷◌}
use Rattle.std.specs.Prelude.{Result, Ok, Err}
use Rattle.cbor_io.specs.declared.error.ErrorCode.{ErrorCode}
use Rattle.cbor_io.specs.declared.error.ErrorCode.TheVariants.{Io, LengthOutOfRange, TrailingData}
use Rattle.cbor_io.specs.declared.error.Error.{Error}
use Rattle.cbor_io.specs.Error.{code_of, offset_of}
use Rattle.cbor_io.specs.declared.read_error.ReadError.{ReadError}
use Rattle.cbor_io.specs.declared.read_error.ReadErrorCode.{ReadErrorCode}
use Rattle.cbor_io.specs.declared.read_error.ReadErrorCode.TheVariants as reading
use Rattle.cbor_io.specs.ReadError.{why, place, error_code}
use Rattle.cbor_read.specs.Source.{Input, TookKept, Stays, AtLimit}
use Rattle.cbor_decode.specs.declared.refusal.Refused.{Refused}
use Rattle.cbor_decode.specs.declared.refusal.Refused.TheVariants as refused

-- just one byte was taken, and the error is after it
pub record TookByte (s t : Input) (at : ℕ) : Type 0 where
  pub byte : ℕ
  pub took : TookKept s t (byte ∷ [])
  pub behind : at ≡ t.offset

-- How the end wasn't found: a byte stands in its place; or nothing was taken, since the device has a
-- fault, or another byte is there that no offset counts, of a source that reports such a thing.
abbrev pub EndRefused : (ReadErrorCode → Bool) → ErrorCode → ℕ → Input → Input → Type 0
EndRefused refusals TrailingData at s t = TookByte s t at
EndRefused refusals (Io fault) at s t =
    (refusals (reading.Io fault) ≡ true) × (at ≡ 0) × Stays s t
EndRefused refusals LengthOutOfRange at s t =
    (refusals reading.LengthOutOfRange ≡ true) × AtLimit t at × Stays s t
EndRefused refusals _ at s t = ⊥

-- The end was found, and nothing taken; or why not.
abbrev pub EndTakes : (ReadErrorCode → Bool) → Input → Input → Result (Unit {0}) Error → Type 0
EndTakes refusals s t (Ok u) = Stays s t
EndTakes refusals s t (Err e) = EndRefused refusals (code_of e) (offset_of e) s t

-- What a refused step took that looked for the end, of which the decoder keeps why.
abbrev pub EndStops : (ReadErrorCode → Bool) → Input → Input → ReadError
    → Result (Unit {0}) Refused → Type 0
EndStops refusals s t kept (Ok u) = Stays s t
EndStops refusals s t kept (Err refused.Kept) =
    EndRefused refusals (error_code (why kept)) (place kept) s t
EndStops refusals s t kept (Err refused.OutOfMemory) = ⊥
