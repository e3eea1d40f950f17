-- The fault that an error reports, if it reports one: of a part, of the item that it stops, and of a whole input.
use Rattle.std.proofs.Common.{◌≡◌, ◌≢◌, ◌⊎◌, ◌==◌, ◌+◌, inl, inr, ◌∙◌, ℕ, Bool, true, false, true≢false, cond, List, [], ◌∷◌, length, Option, Some, None, Result, Ok, Err, IfErr, refl, sym, ap, ap₂, subst}
use Rattle.std.specs.Prelude.{⊤}
use Rattle.cbor_model.specs.Acceptable.{max_depth}
use Rattle.cbor_model.specs.Allowed.{limits_of}
use Rattle.cbor_model.specs.Formats.{Formats, all_formats}
use Rattle.cbor_model.specs.Raw.{AreBytes}
use Rattle.cbor_model.specs.Reader.{Fault, Reads, before, item_at, read_value_in}
use Rattle.cbor_model.specs.Refusal.{Refusal, end_in_value, end_in_array, end_in_map}
use Rattle.cbor_model.specs.Refusal.{length_out_of_range, invalid_utf8, unassigned_code}
use Rattle.cbor_model.specs.Refusal.{unexpected_code, trailing_data, too_deep, scratch_too_small}
use Rattle.cbor_model.specs.Refusal.{wrong_struct_format}
use Rattle.cbor_model.proofs.facts.Reader.{ok_is}
use Rattle.cbor_io.specs.Error.{code_of, offset_of, IsMessageOf}
use Rattle.cbor_io.specs.declared.error.Error.{Error}
use Rattle.cbor_io.specs.declared.error.ErrorCode.{ErrorCode}
use Rattle.cbor_io.specs.declared.error.ErrorCode.TheVariants as code
use Rattle.cbor_io.specs.declared.read_error.ReadErrorCode.{ReadErrorCode}
use Rattle.cbor_read.specs.Source.{Input, Stays}
use Rattle.cbor_decode.specs.FirstRefusal.{ReportsFirst}
use Rattle.cbor_decode.specs.Gives.{Ends, FailsAs, FailsBy, IsMemoryOrFault, IsMemoryOrFaultBy, Limits, limits, ReportsIo, Reports, Step, end_at, values, whole_at}
use Rattle.cbor_decode.specs.declared.cursor.Remaining.{Remaining}
use Rattle.cbor_decode.specs.declared.head.Head.{Head}
use Rattle.cbor_decode.proofs.facts.FirstRefusal.{first_or_fault}
use Rattle.cbor_decode.proofs.facts.Steps.{none_step}
use Rattle.cbor_decode_as.specs.Begins.{BeginningFault}
use Rattle.cbor_decode_as.specs.Nulls.{null_at}
use Rattle.cbor_decode_as.specs.Takes.{FaultIfAny, IsMessage, ItemFault, ReportsFault, ReportsIfAny, ReportsItem, RefusesWhole, WhereTotal, any_item}
use Rattle.cbor_decode_as.proofs.facts.Refusals.{always, formats_if_any, passes_reported, whole_if_any}
use Rattle.cbor_de.specs.Calls.{and_reports, reports_any}
use Rattle.cbor_de.specs.Whole.{IsOfInput, ReportsOwn, WholeFault}
use Rattle.cbor_de.proofs.refusals.Faults.{fails_map, of_bytes, where_map}

-- ---- one code

-- a fault by whose code an error reports one: not a key's format, nor that items are left of an array or a map
abbrev pub IsTold : Fault → Type 0
IsTold d = (d.why ≢ wrong_struct_format) × (d.why ≢ trailing_data)

module _ {A : Type 0} (D : Type 0) where
  -- a fault that is reported
  fails : (k : ErrorCode) (end at : ℕ) (read : Result A Fault) → FailsBy D k end at read → FaultIfAny D k end at read
  fails (code.Message s) end at read h = absurd h
  fails code.TrailingData end at read h = tt
  fails code.ArrayTooShort end at read h = tt
  fails code.ArrayTooLong end at read h = tt
  fails code.WrongEnumFormat end at read h = tt
  fails code.WrongStructFormat end at read h = tt
  fails code.NotCanonical end at read h = tt
  fails k end at read h = h

  -- or a message
  message : (text : Option (List ℕ)) (k : ErrorCode) (end at : ℕ) (read : Result A Fault) → IsMessageOf text k → at ≡ 0 → FaultIfAny D k end at read
  message text (code.Message s) end at read is none = none
  message text code.OutOfMemory end at read is none = none
  message None k end at read is none = absurd is
  message (Some t) k end at read is none = absurd is

-- the fault of one reading is that of another which it stops
module _ {A B : Type 0} (D : Type 0) (end at : ℕ) (part : Result A Fault) (all : Result B Fault) (on : (d : Fault) → IsTold d → part ≡ Err d → all ≡ Err d) where
  fails_as : (why : Refusal) → why ≢ wrong_struct_format → why ≢ trailing_data → FailsAs why end at part → FailsAs why end at all
  fails_as why key more h = (h.0, h.1, on (record { why = why; left = h.0 }) (key, more) h.2)

  goes_on : (k : ErrorCode) → FaultIfAny D k end at part → FaultIfAny D k end at all
  goes_on (code.Message s) h = h
  goes_on (code.Io e) h = h
  goes_on code.OutOfMemory h = h
  goes_on code.ScratchTooSmall h = fails_as scratch_too_small (λ e. cc) (λ e. cc) h
  goes_on code.EofWhileParsingValue h = fails_as end_in_value (λ e. cc) (λ e. cc) h
  goes_on code.EofWhileParsingArray h = fails_as end_in_array (λ e. cc) (λ e. cc) h
  goes_on code.EofWhileParsingMap h = fails_as end_in_map (λ e. cc) (λ e. cc) h
  goes_on code.LengthOutOfRange h = fails_as length_out_of_range (λ e. cc) (λ e. cc) h
  goes_on code.InvalidUtf8 h = fails_as invalid_utf8 (λ e. cc) (λ e. cc) h
  goes_on code.UnassignedCode h = fails_as unassigned_code (λ e. cc) (λ e. cc) h
  goes_on code.UnexpectedCode h = fails_as unexpected_code (λ e. cc) (λ e. cc) h
  goes_on code.RecursionLimitExceeded h = fails_as too_deep (λ e. cc) (λ e. cc) h
  goes_on code.TrailingData h = tt
  goes_on code.ArrayTooShort h = tt
  goes_on code.ArrayTooLong h = tt
  goes_on code.WrongEnumFormat h = tt
  goes_on code.WrongStructFormat h = tt
  goes_on code.NotCanonical h = tt

-- ---- errors

module _ (allowed : ReadErrorCode → Bool) (s : Input) (e : Error) where
  pub reported_if_any : {A : Type 0} (read : Limits → List ℕ → Reads A) → ReportsFault allowed read s e → ReportsIfAny allowed read s e
  reported_if_any read h bs reports = fails (ReportsIo allowed) (code_of e) (s.offset + length bs) (offset_of e) (read (limits s bs) bs) (h bs reports)

  -- of a message, and of want of memory, nothing is claimed
  pub said_if_any : {A : Type 0} (read : Limits → List ℕ → Reads A) (text : Option (List ℕ)) → IsMessageOf text (code_of e) → offset_of e ≡ 0 → ReportsIfAny allowed read s e
  said_if_any read text is none bs reports = message (ReportsIo allowed) text (code_of e) (s.offset + length bs) (offset_of e) (read (limits s bs) bs) is none

  pub message_if_any : {A : Type 0} (read : Limits → List ℕ → Reads A) → IsMessage e → ReportsIfAny allowed read s e
  message_if_any read is = said_if_any read None is.0 is.1

  pub memory_if_any : {A : Type 0} (read : Limits → List ℕ → Reads A) → code_of e ≡ code.OutOfMemory → offset_of e ≡ 0 → ReportsIfAny allowed read s e
  memory_if_any read is none bs reports =
      subst (λ (k : ErrorCode). FaultIfAny (ReportsIo allowed) k (s.offset + length bs) (offset_of e) (read (limits s bs) bs)) (sym is) none

  -- what is reported of a reading is reported of another which it stops, by a fault that an error can report
  pub if_told_map : {A B : Type 0} (read : Limits → List ℕ → Reads A) (all : Limits → List ℕ → Reads B) → ((l : Limits) (bs : List ℕ) (d : Fault) → IsTold d → read l bs ≡ Err d → all l bs ≡ Err d) → ReportsIfAny allowed read s e → ReportsIfAny allowed all s e
  if_told_map read all on h bs reports =
      goes_on (ReportsIo allowed) (s.offset + length bs) (offset_of e) (read (limits s bs) bs) (all (limits s bs) bs) (on (limits s bs) bs) (code_of e) (h bs reports)

  -- after a step
  pub if_told_then : {A B : Type 0} (m : Input) (P : Limits → List ℕ → List ℕ → Type 0) (read : Limits → List ℕ → Reads A) (all : Limits → List ℕ → Reads B) → ((l : Limits) (bs mid : List ℕ) (d : Fault) → IsTold d → P l bs mid → read l mid ≡ Err d → all l bs ≡ Err d)
      → Step s m P → ReportsIfAny allowed read m e → ReportsIfAny allowed all s e
  if_told_then m P read all on step h bs reports =
      let one = step.reported bs reports in
      let l = limits s bs in
      let D = ReportsIo allowed in
      let k = code_of e in
      let at = offset_of e in
      let kept : limits m one.rest ≡ l = ap₂ (λ (n : ℕ) (r : Option ℕ). record { total = n; room = r }) one.total step.took.room in
      let here = subst (λ (n : ℕ). FaultIfAny D k n at (read (limits m one.rest) one.rest)) one.total (h one.rest one.reports) in
      let there = subst (λ (i : Limits). FaultIfAny D k (s.offset + length bs) at (read i one.rest)) kept here in
      goes_on D (s.offset + length bs) at (read l one.rest) (all l bs) (λ d told is. on l bs one.rest d told one.holds is) k there

  -- the same, where any fault stops it
  pub if_any_map : {A B : Type 0} (read : Limits → List ℕ → Reads A) (all : Limits → List ℕ → Reads B) → ((l : Limits) (bs : List ℕ) (d : Fault) → read l bs ≡ Err d → all l bs ≡ Err d) → ReportsIfAny allowed read s e → ReportsIfAny allowed all s e
  if_any_map read all on = if_told_map read all (λ l bs d told. on l bs d)

  pub if_any_then : {A B : Type 0} (m : Input) (P : Limits → List ℕ → List ℕ → Type 0) (read : Limits → List ℕ → Reads A) (all : Limits → List ℕ → Reads B) → ((l : Limits) (bs mid : List ℕ) (d : Fault) → P l bs mid → read l mid ≡ Err d → all l bs ≡ Err d)
      → Step s m P → ReportsIfAny allowed read m e → ReportsIfAny allowed all s e
  if_any_then m P read all on = if_told_then m P read all (λ l bs mid d told. on l bs mid d)

  -- ---- the item at the front

  module _ (levels : ℕ) where
    -- what a type's refusal reports, by what is said of the type
    pub item_fault : (f : Formats) (passes_over total reports_faults : Bool) → ReportsItem passes_over total allowed f levels s e → WhereTotal reports_faults (ItemFault allowed levels s e) → WhereTotal (reports_any passes_over total reports_faults) (ItemFault allowed levels s e)
    item_fault f true total reports h own = whole_if_any allowed s e levels (passes_reported (ReportsFault allowed (λ l. item_at (values f l) levels) s e) (RefusesWhole allowed levels s e) true total h)
    item_fault f false true reports h own = formats_if_any allowed levels s e f h
    item_fault f false false reports h own = own

  -- of the head of an array or a map
  pub beginning_fault : (kind : Remaining → Head) (levels : ℕ) → BeginningFault kind allowed levels s e → ItemFault allowed levels s e
  beginning_fault kind levels (inl h) = reported_if_any (any_item levels) h
  beginning_fault kind levels (inr h) = message_if_any (any_item levels) h.0

-- ---- where a source brought bytes to hand

module _ (s m : Input) (stays : Stays s m) (allowed : ReadErrorCode → Bool) (levels left : ℕ) (same : left ≡ levels) where
  abbrev Same : Limits → List ℕ → List ℕ → Type 0
  Same l bs rest = bs ≡ rest

  pub item_gathered : (e : Error) → ItemFault allowed left m e → ItemFault allowed levels s e
  item_gathered e h = if_any_then allowed s e m Same (any_item levels) (any_item levels) (λ l bs mid d here stops. ap (any_item levels l) here ∙ stops)
      (none_step s m stays.bytes stays.count stays.room) (subst (λ (n : ℕ). ItemFault allowed n m e) same h)

  pub err_gathered : {A : Type 0} (f : Formats) (passes_over total reports_faults : Bool) (r : Result A Error) → IfErr r (ReportsItem passes_over total allowed f left m) → IfErr r (λ e. WhereTotal reports_faults (ItemFault allowed left m e))
      → IfErr r (λ e. WhereTotal (reports_any passes_over total reports_faults) (ItemFault allowed levels s e))
  err_gathered f passes_over total reports_faults (Ok x) h own = tt
  err_gathered f passes_over total reports_faults (Err e) h own =
      where_map (reports_any passes_over total reports_faults) (item_gathered e) (item_fault allowed m e left f passes_over total reports_faults h own)

  pub own_err_gathered : {A : Type 0} (reports_faults : Bool) (r : Result A Error) → IfErr r (λ e. WhereTotal reports_faults (ItemFault allowed left m e)) → IfErr r (λ e. WhereTotal reports_faults (ItemFault allowed levels s e))
  own_err_gathered reports_faults (Ok x) h = tt
  own_err_gathered reports_faults (Err e) h = where_map reports_faults (item_gathered e) h

-- ---- where null's first byte was looked for

-- nothing was taken
not_null : (bs mid : List ℕ) → null_at bs ≡ Ok (false, mid) → bs ≡ mid
not_null [] mid is = ap (λ (p : Bool × List ℕ). p.1) (ok_is (false, []) (false, mid) is)
not_null (b ∷ bs) mid is = by (b == 0xf6) is
  where
    by : (c : Bool) → cond {A = Reads Bool} c (Ok (true, bs)) (Ok (false, b ∷ bs)) ≡ Ok (false, mid) → b ∷ bs ≡ mid
    by true e = absurd (true≢false (ap (λ (p : Bool × List ℕ). p.0) (ok_is (true, bs) (false, mid) e)))
    by false e = ap (λ (p : Bool × List ℕ). p.1) (ok_is (false, b ∷ bs) (false, mid) e)

pub item_unless_null : (allowed : ReadErrorCode → Bool) (levels left : ℕ) → left ≡ levels → (s m : Input) (e : Error) → Step s m (λ l bs rest. null_at bs ≡ Ok (false, rest)) → ItemFault allowed left m e → ItemFault allowed levels s e
item_unless_null allowed levels left same s m e step h = if_any_then allowed s e m (λ l bs rest. null_at bs ≡ Ok (false, rest)) (any_item levels) (any_item levels)
    (λ l bs mid d is stops. ap (any_item levels l) (not_null bs mid is) ∙ stops) step (subst (λ (n : ℕ). ItemFault allowed n m e) same h)

-- ---- of two types

pub first_reports : (P : Type 0) (a b : Bool) → WhereTotal a P → WhereTotal (and_reports a b) P
first_reports P true b h = always b h
first_reports P false b h = tt

pub other_reports : (P : Type 0) (a b : Bool) → WhereTotal b P → WhereTotal (and_reports a b) P
other_reports P true b h = h
other_reports P false b h = tt

-- ---- a whole input

module _ (allowed : ReadErrorCode → Bool) (levels : ℕ) (s : Input) (e : Error) where
  pub item_in_whole : ItemFault allowed levels s e → WholeFault allowed levels s e
  item_in_whole = if_any_map allowed s e (any_item levels) (whole_at all_formats levels) (λ l bs d is. rw is refl)

  more_follows : (bs : List ℕ) (d : Fault) → end_at bs ≡ Err d → d.why ≡ trailing_data
  more_follows [] d is = absurd cc
  more_follows (b ∷ bs) d is = sym (ap (λ (f : Fault). f.why) (fault_is (before trailing_data bs) d is))
    where
      fault_is : (x y : Fault) → ◌≡◌ {A = Reads (Unit {0})} (Err x) (Err y) → x ≡ y
      fault_is x y is = cc

  -- behind an item
  pub rest_of_whole : (t : Input) (P : Limits → List ℕ → List ℕ → Type 0) → Step s t P → Ends allowed t (Err e) → WholeFault allowed levels s e
  rest_of_whole t P step h =
      if_told_then allowed s e t P (λ l. end_at) (whole_at all_formats levels) (λ l bs mid d told p is. absurd (told.1 (more_follows mid d is))) step (reported_if_any allowed t e (λ l. end_at) h)

-- a code that reports a fault of the input alone
reports : {A : Type 0} (D : Type 0) (k : ErrorCode) (end at : ℕ) (read : Result A Fault) → IsOfInput k → FaultIfAny D k end at read → FailsBy D k end at read
reports D (code.Io fault) end at read is h = h
reports D code.EofWhileParsingValue end at read is h = h
reports D code.EofWhileParsingArray end at read is h = h
reports D code.EofWhileParsingMap end at read is h = h
reports D code.LengthOutOfRange end at read is h = h
reports D code.InvalidUtf8 end at read is h = h
reports D code.UnassignedCode end at read is h = h
reports D code.UnexpectedCode end at read is h = h
reports D code.RecursionLimitExceeded end at read is h = h
reports D code.ScratchTooSmall end at read is h = h
reports D k end at read is h = absurd is

-- that memory ran out isn't such a code: it was a fault of the device
by_device : {A : Type 0} (D : Type 0) (k : ErrorCode) (end at : ℕ) (read : Result A Fault) → IsOfInput k → IsMemoryOrFaultBy k → FailsBy D k end at read → D
by_device D (code.Io fault) end at read is other h = h.0
by_device D code.OutOfMemory end at read is other h = absurd is
by_device D k end at read is other h = absurd other

module _ (allowed : ReadErrorCode → Bool) (reports_faults : Bool) (Excused : Error → Type 0) (excused : (e : Error) → ReportsIo allowed → IsMemoryOrFault e → Excused e) (s : Input) (bs : List ℕ) (given : Reports s bs) (zero : s.offset ≡ 0) (fits : AreBytes bs) where
  first_of_bytes : (e : Error) → WholeFault allowed max_depth s e → IsOfInput (code_of e) → Excused e ⊎ ReportsFirst (limits_of s.room) bs e
  first_of_bytes e h is =
      let D = ReportsIo allowed in
      let met = of_bytes allowed s bs e zero (reports D (code_of e) (s.offset + length bs) (offset_of e) (whole_at all_formats max_depth (limits s bs) bs) is (h bs given)) in
      elim (first_or_fault s.room bs fits e (fails_map D ⊤ (λ d. tt) (code_of e) (length bs) (offset_of e) (read_value_in s.room bs) met)) [
        | inl other ↦ inl (excused e (by_device D (code_of e) (length bs) (offset_of e) (read_value_in s.room bs) is other.0 met) other)
        | inr first ↦ inr first
      ]

  pub own_first : {A : Type 0} (r : Result A Error) → IfErr r (λ e. WhereTotal reports_faults (WholeFault allowed max_depth s e)) → IfErr r (ReportsOwn reports_faults Excused s.room bs)
  own_first (Ok x) h = tt
  own_first (Err e) h = where_map reports_faults (first_of_bytes e) h
