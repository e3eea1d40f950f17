-- Which codes the errors of enums and of keys have.
use Rattle.std.proofs.Common.{◌≡◌, ◌⊎◌, inl, inr, refl, sym, subst, IfErr, None, Result, Ok, Err}
use Rattle.cbor_io.specs.Error.{code_of, IsMessageOf}
use Rattle.cbor_io.specs.ReadError.{why, error_code}
use Rattle.cbor_io.specs.declared.error.Error.{Error}
use Rattle.cbor_io.specs.declared.error.ErrorCode.{ErrorCode}
use Rattle.cbor_io.specs.declared.error.ErrorCode.TheVariants as code
use Rattle.cbor_io.specs.declared.read_error.ReadError.{ReadError}
use Rattle.cbor_io.specs.declared.read_error.ReadErrorCode.{ReadErrorCode}
use Rattle.cbor_io.specs.declared.read_error.ReadErrorCode.TheVariants as reading
use Rattle.cbor_read.specs.Source.{Input}
use Rattle.cbor_decode.specs.Gives.{IsErrorOf, ReportsNoForm}
use Rattle.cbor_decode.specs.declared.cursor.Remaining.{Remaining}
use Rattle.cbor_decode.specs.declared.refusal.Refused.{Refused}
use Rattle.cbor_decode.specs.declared.refusal.Refused.TheVariants as refused
use Rattle.cbor_decode_as.specs.Identifiers.{IsMadeBy}
use Rattle.cbor_decode_as.specs.declared.identifier.Why.{Why}
use Rattle.cbor_decode_as.specs.declared.identifier.Why.TheVariants as unnamed
use Rattle.cbor_decode_as.specs.Cases.{FormAlone, IsEnumCode, NoItemHere}

-- what a decoder keeps: of the codes that report a wrong form, the key rule's alone
code_kept : (k : ReadErrorCode) → FormAlone code.WrongStructFormat (error_code k)
code_kept (reading.Io fault) = inl tt
code_kept reading.ScratchTooSmall = inl tt
code_kept reading.EofWhileParsingValue = inl tt
code_kept reading.EofWhileParsingArray = inl tt
code_kept reading.EofWhileParsingMap = inl tt
code_kept reading.LengthOutOfRange = inl tt
code_kept reading.InvalidUtf8 = inl tt
code_kept reading.UnassignedCode = inl tt
code_kept reading.UnexpectedCode = inl tt
code_kept reading.TrailingData = inl tt
code_kept reading.RecursionLimitExceeded = inl tt
code_kept reading.WrongStructFormat = inr refl
code_kept reading.OutOfMemory = inl tt

pub kept_alone : (kept : ReadError) (r : Refused) (e : Error) → IsErrorOf kept r e → FormAlone code.WrongStructFormat (code_of e)
kept_alone kept refused.OutOfMemory e h = inl (subst ReportsNoForm (sym h.0) tt)
kept_alone kept refused.Kept e h = subst (FormAlone code.WrongStructFormat) (sym h.0) (code_kept (why kept))

-- a message, or memory ran out for it
message_none : (k : ErrorCode) → IsMessageOf None k → ReportsNoForm k
message_none code.ArrayTooShort h = absurd h
message_none code.ArrayTooLong h = absurd h
message_none code.WrongEnumFormat h = absurd h
message_none code.WrongStructFormat h = absurd h
message_none code.NotCanonical h = absurd h
message_none (code.Message text) h = tt
message_none (code.Io fault) h = tt
message_none code.ScratchTooSmall h = tt
message_none code.EofWhileParsingValue h = tt
message_none code.EofWhileParsingArray h = tt
message_none code.EofWhileParsingMap h = tt
message_none code.LengthOutOfRange h = tt
message_none code.InvalidUtf8 h = tt
message_none code.UnassignedCode h = tt
message_none code.UnexpectedCode h = tt
message_none code.TrailingData h = tt
message_none code.RecursionLimitExceeded h = tt
message_none code.OutOfMemory h = tt

-- of why nothing was named
pub made_alone : (kept : ReadError) (w : Why) (e : Error) → IsMadeBy kept w e → FormAlone code.WrongStructFormat (code_of e)
made_alone kept (unnamed.Refused r) e h = kept_alone kept r e h
made_alone kept unnamed.Other e h = inl (message_none (code_of e) h.0)

-- of an item that doesn't come
pub none_alone : (one : ErrorCode) (remaining : Remaining) (s : Input) (e : Error) → ReportsNoForm (code_of e) ⊎ NoItemHere one remaining s e → FormAlone one (code_of e)
none_alone one remaining s e (inl h) = inl h
none_alone one remaining s e (inr h) = inr h.code

pub plain_alone : (one : ErrorCode) (k : ErrorCode) → ReportsNoForm k → FormAlone one k
plain_alone one k h = inl h

pub plain_alones : {A : Type 0} (one : ErrorCode) (r : Result A Error) → IfErr r (λ e. ReportsNoForm (code_of e)) → IfErr r (λ e. FormAlone one (code_of e))
plain_alones one (Ok x) h = h
plain_alones one (Err e) h = inl h

-- ---- of an enum

pub plain_enum : (k : ErrorCode) → ReportsNoForm k → IsEnumCode k
plain_enum code.ArrayTooShort h = tt
plain_enum code.ArrayTooLong h = absurd h
plain_enum code.WrongEnumFormat h = tt
plain_enum code.WrongStructFormat h = tt
plain_enum code.NotCanonical h = absurd h
plain_enum (code.Message text) h = tt
plain_enum (code.Io fault) h = tt
plain_enum code.ScratchTooSmall h = tt
plain_enum code.EofWhileParsingValue h = tt
plain_enum code.EofWhileParsingArray h = tt
plain_enum code.EofWhileParsingMap h = tt
plain_enum code.LengthOutOfRange h = tt
plain_enum code.InvalidUtf8 h = tt
plain_enum code.UnassignedCode h = tt
plain_enum code.UnexpectedCode h = tt
plain_enum code.TrailingData h = tt
plain_enum code.RecursionLimitExceeded h = tt
plain_enum code.OutOfMemory h = tt

pub plain_enums : {A : Type 0} (r : Result A Error) → IfErr r (λ e. ReportsNoForm (code_of e)) → IfErr r (λ e. IsEnumCode (code_of e))
plain_enums (Ok x) h = h
plain_enums (Err e) h = plain_enum (code_of e) h

key_enum : (k : ErrorCode) → FormAlone code.WrongStructFormat k → IsEnumCode k
key_enum k (inl h) = plain_enum k h
key_enum k (inr is) = subst IsEnumCode (sym is) tt

pub kept_enum : (kept : ReadError) (r : Refused) (e : Error) → IsErrorOf kept r e → IsEnumCode (code_of e)
kept_enum kept r e h = key_enum (code_of e) (kept_alone kept r e h)

pub none_enum : (remaining : Remaining) (s : Input) (e : Error) → ReportsNoForm (code_of e) ⊎ NoItemHere code.ArrayTooShort remaining s e → IsEnumCode (code_of e)
none_enum remaining s e (inl h) = plain_enum (code_of e) h
none_enum remaining s e (inr h) = subst IsEnumCode (sym h.code) tt

pub other_enum : (k : ErrorCode) → k ≡ code.WrongEnumFormat → IsEnumCode k
other_enum k is = subst IsEnumCode (sym is) tt
