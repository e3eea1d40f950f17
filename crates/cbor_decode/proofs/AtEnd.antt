-- What looking for the end of the input takes, as the calls of a source say it.
use Rattle.std.proofs.Common.{◌≡◌, ◌≢◌, ℕ, Bool, true, [], ◌∷◌, Option, Some, None, Ok, Err}
use Rattle.std.proofs.Common.{sym, subst, refl}
use Rattle.cbor_io.specs.declared.error.Error.{Error}
use Rattle.cbor_io.specs.declared.read_error.ReadError.{ReadError}
use Rattle.cbor_io.specs.declared.read_error.ReadErrorCode.{ReadErrorCode}
use Rattle.cbor_io.specs.declared.read_error.ReadErrorCode.TheVariants as reading
use Rattle.cbor_io.specs.ReadError.{why, place, error_code, HasNoPlace}
use Rattle.cbor_read.specs.Source.{Input, TookKept, Stays, AtLimit, IsOfSource, RefusedByte, NextDoes}
use Rattle.cbor_decode.specs.declared.refusal.Refused.{Refused}
use Rattle.cbor_decode.specs.declared.refusal.Refused.TheVariants as refused
use Rattle.cbor_decode.specs.Gives.{IsAt, IsErrorOf}
use Rattle.cbor_decode.specs.AtEnd.{EndRefused, EndTakes, EndStops}
use Rattle.cbor_decode.proofs.Steps.{subst_both}

-- the end was met
pub end_stays : (allowed : ReadErrorCode → Bool) (s t : Input) (o : Option ℕ) → o ≡ None → NextDoes allowed s t (Ok o) → Stays s t
end_stays allowed s t None is h = h.0
end_stays allowed s t (Some b) is h = absurd cc

byte_took : (allowed : ReadErrorCode → Bool) (s t : Input) (o : Option ℕ) (b : ℕ) → o ≡ Some b → NextDoes allowed s t (Ok o) → TookKept s t (b ∷ [])
byte_took allowed s t None b is h = absurd cc
byte_took allowed s t (Some c) b is h = subst (λ n. TookKept s t (n ∷ [])) (some_is c b is) h
  where
    some_is : (x y : ℕ) → Some x ≡ Some y → x ≡ y
    some_is x y e = cc

-- a byte stands in the place of the end
pub trailing_takes : (allowed : ReadErrorCode → Bool) (s t : Input) (o : Option ℕ) (b : ℕ) (kept : ReadError) (r : Refused) → r ≡ refused.Kept → IsAt reading.TrailingData t.offset kept → o ≡ Some b → NextDoes allowed s t (Ok o) → EndStops allowed s t kept (Err r)
trailing_takes allowed s t o b kept refused.OutOfMemory is keeps some h = absurd cc
trailing_takes allowed s t o b kept refused.Kept is keeps some h =
    subst (λ k. EndRefused allowed (error_code k) (place kept) s t) (sym keeps.0)
    (record { byte = b; took = byte_took allowed s t o b some h; behind = keeps.1 })

-- the source refused by this code
by_code : (allowed : ReadErrorCode → Bool) (s t : Input) (k : ReadErrorCode) (at : ℕ) → allowed k ≡ true → IsOfSource k → k ≢ reading.ScratchTooSmall → k ≢ reading.EofWhileParsingValue → k ≢ reading.OutOfMemory → (HasNoPlace k → at ≡ 0) → (k ≡ reading.LengthOutOfRange → AtLimit t at) → Stays s t → EndRefused allowed (error_code k) at s t
by_code allowed s t (reading.Io fault) at ok kind room ended memory nowhere limit stays = (ok, nowhere tt, stays)
by_code allowed s t reading.ScratchTooSmall at ok kind room ended memory nowhere limit stays = absurd (room refl)
by_code allowed s t reading.EofWhileParsingValue at ok kind room ended memory nowhere limit stays = absurd (ended refl)
by_code allowed s t reading.EofWhileParsingArray at ok kind room ended memory nowhere limit stays = absurd kind
by_code allowed s t reading.EofWhileParsingMap at ok kind room ended memory nowhere limit stays = absurd kind
by_code allowed s t reading.LengthOutOfRange at ok kind room ended memory nowhere limit stays = (ok, limit refl, stays)
by_code allowed s t reading.InvalidUtf8 at ok kind room ended memory nowhere limit stays = absurd kind
by_code allowed s t reading.UnassignedCode at ok kind room ended memory nowhere limit stays = absurd kind
by_code allowed s t reading.UnexpectedCode at ok kind room ended memory nowhere limit stays = absurd kind
by_code allowed s t reading.TrailingData at ok kind room ended memory nowhere limit stays = absurd kind
by_code allowed s t reading.RecursionLimitExceeded at ok kind room ended memory nowhere limit stays = absurd kind
by_code allowed s t reading.WrongStructFormat at ok kind room ended memory nowhere limit stays = absurd kind
by_code allowed s t reading.OutOfMemory at ok kind room ended memory nowhere limit stays = absurd (memory refl)

pub source_takes : (allowed : ReadErrorCode → Bool) (s t : Input) (kept : ReadError) (r : Refused) (e : ReadError) → r ≡ refused.Kept → kept ≡ e → RefusedByte allowed s t e → EndStops allowed s t kept (Err r)
source_takes allowed s t kept refused.OutOfMemory e is keeps h = absurd cc
source_takes allowed s t kept refused.Kept e is keeps h =
    subst (λ x. EndRefused allowed (error_code (why x)) (place x) s t) (sym keeps)
    (by_code allowed s t (why e) (place e) h.refused.code h.refused.kind h.room h.ended h.memory h.refused.nowhere h.refused.limit h.stays)

-- the error of the call reports why its step was refused
pub end_reported : (allowed : ReadErrorCode → Bool) (s t : Input) (kept : ReadError) (r : Refused) (e : Error) → EndStops allowed s t kept (Err r) → IsErrorOf kept r e → EndTakes allowed s t (Err e)
end_reported allowed s t kept refused.OutOfMemory e h reports = absurd h
end_reported allowed s t kept refused.Kept e h reports =
    subst_both (λ k at. EndRefused allowed k at s t) (sym reports.0) (sym reports.1) h
