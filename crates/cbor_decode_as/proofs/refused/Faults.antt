-- The fault that an error reports, if it reports one.
use Rattle.std.proofs.Common.{◌≡◌, ◌≢◌, ◌+◌, inl, inr, ℕ, Bool, List, length, Option, Some, None, Result, Ok, Err, ap₂, subst}
use Rattle.cbor_model.specs.Refusal.{end_in_value, end_in_array, end_in_map, length_out_of_range, invalid_utf8, unassigned_code, unexpected_code, trailing_data, too_deep, scratch_too_small, wrong_struct_format}
use Rattle.cbor_model.specs.Reader.{Fault, Reads}
use Rattle.cbor_read.specs.Source.{Input}
use Rattle.cbor_io.specs.Error.{code_of, offset_of, IsMessageOf}
use Rattle.cbor_io.specs.declared.error.Error.{Error}
use Rattle.cbor_io.specs.declared.error.ErrorCode.{ErrorCode}
use Rattle.cbor_io.specs.declared.error.ErrorCode.TheVariants as code
use Rattle.cbor_io.specs.declared.read_error.ReadError.{ReadError}
use Rattle.cbor_io.specs.declared.read_error.ReadErrorCode.{ReadErrorCode}
use Rattle.cbor_decode.specs.Gives.{FailsBy, IsErrorOf, Limits, limits, ReportsIo, ReportsWhy, Step}
use Rattle.cbor_decode.specs.declared.head.Head.{Head}
use Rattle.cbor_decode.specs.declared.refusal.Refused.{Refused}
use Rattle.cbor_decode.proofs.facts.Steps.{passed_on}
use Rattle.cbor_decode_as.specs.Identifiers.{RefusesName}
use Rattle.cbor_decode_as.specs.Takes.{FaultIfAny, FaultOrMessage, IsMessage, IsMessageBy, ItemFault, RefusesWhole, ReportsFault, ReportsIfAny, any_item}
use Rattle.cbor_decode_as.proofs.numbers.Scalars.{reported_why}

-- ---- one code

-- a fault that is reported
pub fails_if_any : {A : Type 0} (D : Type 0) (k : ErrorCode) (end at : ℕ) (read : Result A Fault) → FailsBy D k end at read → FaultIfAny D k end at read
fails_if_any D (code.Message s) end at read h = absurd h
fails_if_any D (code.Io e) end at read h = h
fails_if_any D code.ScratchTooSmall end at read h = h
fails_if_any D code.EofWhileParsingValue end at read h = h
fails_if_any D code.EofWhileParsingArray end at read h = h
fails_if_any D code.EofWhileParsingMap end at read h = h
fails_if_any D code.LengthOutOfRange end at read h = h
fails_if_any D code.InvalidUtf8 end at read h = h
fails_if_any D code.UnassignedCode end at read h = h
fails_if_any D code.UnexpectedCode end at read h = h
fails_if_any D code.TrailingData end at read h = tt
fails_if_any D code.ArrayTooShort end at read h = tt
fails_if_any D code.ArrayTooLong end at read h = tt
fails_if_any D code.RecursionLimitExceeded end at read h = h
fails_if_any D code.WrongEnumFormat end at read h = tt
fails_if_any D code.WrongStructFormat end at read h = tt
fails_if_any D code.NotCanonical end at read h = tt
fails_if_any D code.OutOfMemory end at read h = h

-- a message
pub message_if_any : {A : Type 0} (D : Type 0) (text : Option (List ℕ)) (k : ErrorCode) (end at : ℕ) (read : Result A Fault) → IsMessageOf text k → at ≡ 0 → FaultIfAny D k end at read
message_if_any D text (code.Message s) end at read is none = none
message_if_any D text code.OutOfMemory end at read is none = none
message_if_any D None k end at read is none = absurd is
message_if_any D (Some t) k end at read is none = absurd is

-- the fault of one reading is that of another which it stops
pub if_any_on : {A B : Type 0} (D : Type 0) (k : ErrorCode) (end at : ℕ) (part : Result A Fault) (all : Result B Fault) → ((f : Fault) → part ≡ Err f → all ≡ Err f) → FaultIfAny D k end at part → FaultIfAny D k end at all
if_any_on D (code.Message s) end at part all on h = h
if_any_on D (code.Io e) end at part all on h = h
if_any_on D code.ScratchTooSmall end at part all on h = passed_on D code.ScratchTooSmall end at part all on h
if_any_on D code.EofWhileParsingValue end at part all on h = passed_on D code.EofWhileParsingValue end at part all on h
if_any_on D code.EofWhileParsingArray end at part all on h = passed_on D code.EofWhileParsingArray end at part all on h
if_any_on D code.EofWhileParsingMap end at part all on h = passed_on D code.EofWhileParsingMap end at part all on h
if_any_on D code.LengthOutOfRange end at part all on h = passed_on D code.LengthOutOfRange end at part all on h
if_any_on D code.InvalidUtf8 end at part all on h = passed_on D code.InvalidUtf8 end at part all on h
if_any_on D code.UnassignedCode end at part all on h = passed_on D code.UnassignedCode end at part all on h
if_any_on D code.UnexpectedCode end at part all on h = passed_on D code.UnexpectedCode end at part all on h
if_any_on D code.TrailingData end at part all on h = tt
if_any_on D code.ArrayTooShort end at part all on h = tt
if_any_on D code.ArrayTooLong end at part all on h = tt
if_any_on D code.RecursionLimitExceeded end at part all on h = passed_on D code.RecursionLimitExceeded end at part all on h
if_any_on D code.WrongEnumFormat end at part all on h = tt
if_any_on D code.WrongStructFormat end at part all on h = tt
if_any_on D code.NotCanonical end at part all on h = tt
if_any_on D code.OutOfMemory end at part all on h = h

-- a message, or excused
message_by_if_any : {A : Type 0} (D : Type 0) (k : ErrorCode) (end at : ℕ) (read : Result A Fault) → IsMessageBy D k at → FaultIfAny D k end at read
message_by_if_any D (code.Message s) end at read h = h
message_by_if_any D (code.Io e) end at read h = h
message_by_if_any D code.ScratchTooSmall end at read h = absurd h
message_by_if_any D code.EofWhileParsingValue end at read h = absurd h
message_by_if_any D code.EofWhileParsingArray end at read h = absurd h
message_by_if_any D code.EofWhileParsingMap end at read h = absurd h
message_by_if_any D code.LengthOutOfRange end at read h = absurd h
message_by_if_any D code.InvalidUtf8 end at read h = absurd h
message_by_if_any D code.UnassignedCode end at read h = absurd h
message_by_if_any D code.UnexpectedCode end at read h = absurd h
message_by_if_any D code.TrailingData end at read h = absurd h
message_by_if_any D code.ArrayTooShort end at read h = absurd h
message_by_if_any D code.ArrayTooLong end at read h = absurd h
message_by_if_any D code.RecursionLimitExceeded end at read h = absurd h
message_by_if_any D code.WrongEnumFormat end at read h = absurd h
message_by_if_any D code.WrongStructFormat end at read h = absurd h
message_by_if_any D code.NotCanonical end at read h = absurd h
message_by_if_any D code.OutOfMemory end at read h = h

or_message_if_any : {A : Type 0} (D : Type 0) (k : ErrorCode) (end at : ℕ) (read : Result A Fault) → FaultOrMessage D k end at read → FaultIfAny D k end at read
or_message_if_any D k end at (Ok x) h = message_by_if_any D k end at (Ok x) h
or_message_if_any D k end at (Err f) h = fails_if_any D k end at (Err f) h

-- a fault by whose code an error reports one: not the key rule's, nor that something follows
abbrev pub IsTold : Fault → Type 0
IsTold f = (f.why ≢ wrong_struct_format) × (f.why ≢ trailing_data)

-- the same, of the faults that an error can report
pub if_told_on : {A B : Type 0} (D : Type 0) (k : ErrorCode) (end at : ℕ) (part : Result A Fault) (all : Result B Fault) → ((f : Fault) → IsTold f → part ≡ Err f → all ≡ Err f) → FaultIfAny D k end at part → FaultIfAny D k end at all
if_told_on D (code.Message s) end at part all on h = h
if_told_on D (code.Io e) end at part all on h = h
if_told_on D code.ScratchTooSmall end at part all on h = (h.0, h.1, on (record { why = scratch_too_small; left = h.0 }) ((λ e. cc), (λ e. cc)) h.2)
if_told_on D code.EofWhileParsingValue end at part all on h = (h.0, h.1, on (record { why = end_in_value; left = h.0 }) ((λ e. cc), (λ e. cc)) h.2)
if_told_on D code.EofWhileParsingArray end at part all on h = (h.0, h.1, on (record { why = end_in_array; left = h.0 }) ((λ e. cc), (λ e. cc)) h.2)
if_told_on D code.EofWhileParsingMap end at part all on h = (h.0, h.1, on (record { why = end_in_map; left = h.0 }) ((λ e. cc), (λ e. cc)) h.2)
if_told_on D code.LengthOutOfRange end at part all on h = (h.0, h.1, on (record { why = length_out_of_range; left = h.0 }) ((λ e. cc), (λ e. cc)) h.2)
if_told_on D code.InvalidUtf8 end at part all on h = (h.0, h.1, on (record { why = invalid_utf8; left = h.0 }) ((λ e. cc), (λ e. cc)) h.2)
if_told_on D code.UnassignedCode end at part all on h = (h.0, h.1, on (record { why = unassigned_code; left = h.0 }) ((λ e. cc), (λ e. cc)) h.2)
if_told_on D code.UnexpectedCode end at part all on h = (h.0, h.1, on (record { why = unexpected_code; left = h.0 }) ((λ e. cc), (λ e. cc)) h.2)
if_told_on D code.TrailingData end at part all on h = tt
if_told_on D code.ArrayTooShort end at part all on h = tt
if_told_on D code.ArrayTooLong end at part all on h = tt
if_told_on D code.RecursionLimitExceeded end at part all on h = (h.0, h.1, on (record { why = too_deep; left = h.0 }) ((λ e. cc), (λ e. cc)) h.2)
if_told_on D code.WrongEnumFormat end at part all on h = tt
if_told_on D code.WrongStructFormat end at part all on h = tt
if_told_on D code.NotCanonical end at part all on h = tt
if_told_on D code.OutOfMemory end at part all on h = h

-- ---- errors

module _ (allowed : ReadErrorCode → Bool) (s : Input) (e : Error) where
  pub reported_if_any : {A : Type 0} (read : Limits → List ℕ → Reads A) → ReportsFault allowed read s e → ReportsIfAny allowed read s e
  reported_if_any read h bs reports = fails_if_any (ReportsIo allowed) (code_of e) (s.offset + length bs) (offset_of e) (read (limits s bs) bs) (h bs reports)

  pub said_if_any : {A : Type 0} (read : Limits → List ℕ → Reads A) (text : Option (List ℕ)) → IsMessageOf text (code_of e) → offset_of e ≡ 0 → ReportsIfAny allowed read s e
  said_if_any read text is none bs reports = message_if_any (ReportsIo allowed) text (code_of e) (s.offset + length bs) (offset_of e) (read (limits s bs) bs) is none

  pub message_says_none : {A : Type 0} (read : Limits → List ℕ → Reads A) → IsMessage e → ReportsIfAny allowed read s e
  message_says_none read is = said_if_any read None is.0 is.1

  pub name_if_any : (P : Head → Type 0) (levels : ℕ) → RefusesName P allowed levels s e → ItemFault allowed levels s e
  name_if_any P levels (inl h) = reported_if_any (any_item levels) h
  name_if_any P levels (inr h) = message_says_none (any_item levels) h.0

  pub whole_if_any : (levels : ℕ) → RefusesWhole allowed levels s e → ItemFault allowed levels s e
  whole_if_any levels h bs reports = or_message_if_any (ReportsIo allowed) (code_of e) (s.offset + length bs) (offset_of e) (any_item levels (limits s bs) bs) (h bs reports)

  pub why_if_any : {A : Type 0} (read : Limits → List ℕ → Reads A) (kept : ReadError) (r : Refused) → IsErrorOf kept r e → ReportsWhy allowed read s kept r → ReportsIfAny allowed read s e
  why_if_any read kept r is h = reported_if_any read (reported_why allowed read s kept r e is h)

  pub if_any_map : {A B : Type 0} (read : Limits → List ℕ → Reads A) (read' : Limits → List ℕ → Reads B) → ((l : Limits) (bs : List ℕ) (f : Fault) → read l bs ≡ Err f → read' l bs ≡ Err f) → ReportsIfAny allowed read s e → ReportsIfAny allowed read' s e
  if_any_map read read' on h bs reports = if_any_on (ReportsIo allowed) (code_of e) (s.offset + length bs) (offset_of e) (read (limits s bs) bs) (read' (limits s bs) bs) (on (limits s bs) bs) (h bs reports)

  -- after a step
  pub if_any_then : {A B : Type 0} (m : Input) (P : Limits → List ℕ → List ℕ → Type 0) (read : Limits → List ℕ → Reads A) (read' : Limits → List ℕ → Reads B) → ((l : Limits) (bs mid : List ℕ) (f : Fault) → P l bs mid → read l mid ≡ Err f → read' l bs ≡ Err f)
      → Step s m P → ReportsIfAny allowed read m e → ReportsIfAny allowed read' s e
  if_any_then m P read read' on step h bs reports =
      let one = step.reported bs reports in
      let l = limits s bs in
      let D = ReportsIo allowed in
      let k = code_of e in
      let at = offset_of e in
      let same : limits m one.rest ≡ l = ap₂ (λ (n : ℕ) (r : Option ℕ). record { total = n; room = r }) one.total step.took.room in
      let here = subst (λ (n : ℕ). FaultIfAny D k n at (read (limits m one.rest) one.rest)) one.total (h one.rest one.reports) in
      let there = subst (λ (i : Limits). FaultIfAny D k (s.offset + length bs) at (read i one.rest)) same here in
      if_any_on D k (s.offset + length bs) at (read l one.rest) (read' l bs) (λ f is. on l bs one.rest f one.holds is) there

  -- the same, of the faults that an error can report
  pub if_told_then : {A B : Type 0} (m : Input) (P : Limits → List ℕ → List ℕ → Type 0) (read : Limits → List ℕ → Reads A) (read' : Limits → List ℕ → Reads B) → ((l : Limits) (bs mid : List ℕ) (f : Fault) → IsTold f → P l bs mid → read l mid ≡ Err f → read' l bs ≡ Err f)
      → Step s m P → ReportsIfAny allowed read m e → ReportsIfAny allowed read' s e
  if_told_then m P read read' on step h bs reports =
      let one = step.reported bs reports in
      let l = limits s bs in
      let D = ReportsIo allowed in
      let k = code_of e in
      let at = offset_of e in
      let same : limits m one.rest ≡ l = ap₂ (λ (n : ℕ) (r : Option ℕ). record { total = n; room = r }) one.total step.took.room in
      let here = subst (λ (n : ℕ). FaultIfAny D k n at (read (limits m one.rest) one.rest)) one.total (h one.rest one.reports) in
      let there = subst (λ (i : Limits). FaultIfAny D k (s.offset + length bs) at (read i one.rest)) same here in
      if_told_on D k (s.offset + length bs) at (read l one.rest) (read' l bs) (λ f told is. on l bs one.rest f told one.holds is) there

  pub if_told_map : {A B : Type 0} (read : Limits → List ℕ → Reads A) (read' : Limits → List ℕ → Reads B) → ((l : Limits) (bs : List ℕ) (f : Fault) → IsTold f → read l bs ≡ Err f → read' l bs ≡ Err f) → ReportsIfAny allowed read s e → ReportsIfAny allowed read' s e
  if_told_map read read' on h bs reports = if_told_on (ReportsIo allowed) (code_of e) (s.offset + length bs) (offset_of e) (read (limits s bs) bs) (read' (limits s bs) bs) (on (limits s bs) bs) (h bs reports)

  -- a fault that is reported after a step
  pub reports_then : {A B : Type 0} (m : Input) (P : Limits → List ℕ → List ℕ → Type 0) (read : Limits → List ℕ → Reads A) (read' : Limits → List ℕ → Reads B) → ((l : Limits) (bs mid : List ℕ) (f : Fault) → P l bs mid → read l mid ≡ Err f → read' l bs ≡ Err f)
      → Step s m P → ReportsFault allowed read m e → ReportsFault allowed read' s e
  reports_then m P read read' on step h bs reports =
      let one = step.reported bs reports in
      let l = limits s bs in
      let D = ReportsIo allowed in
      let k = code_of e in
      let at = offset_of e in
      let same : limits m one.rest ≡ l = ap₂ (λ (n : ℕ) (r : Option ℕ). record { total = n; room = r }) one.total step.took.room in
      let here = subst (λ (n : ℕ). FailsBy D k n at (read (limits m one.rest) one.rest)) one.total (h one.rest one.reports) in
      let there = subst (λ (i : Limits). FailsBy D k (s.offset + length bs) at (read i one.rest)) same here in
      passed_on D k (s.offset + length bs) at (read l one.rest) (read' l bs) (λ f is. on l bs one.rest f one.holds is) there
