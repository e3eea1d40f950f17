-- Where the errors of enums and of keys stand.
use Rattle.std.proofs.Common.{◌≡◌, ◌≢◌, ◌⊎◌, ◌+◌, ◌∙◌, refl, length, IfErr, arith, ℕ, Bool, true, false, List, Option, Some, None, Result, Ok, Err, inl, inr, sym, ap, ap₂, subst}
use Rattle.cbor_model.specs.Refusal.{end_in_array, end_in_map, wrong_struct_format}
use Rattle.cbor_model.specs.Formats.{Formats}
use Rattle.cbor_model.specs.Reader.{Fault, Reads, next_at}
use Rattle.cbor_model.specs.Reader as reader
use Rattle.cbor_model.proofs.facts.Reader.{ok_is}
use Rattle.cbor_read.specs.Source.{Input}
use Rattle.cbor_io.specs.Error.{code_of, offset_of, IsMessageOf}
use Rattle.cbor_io.specs.ReadError.{why, error_code}
use Rattle.cbor_io.specs.declared.read_error.ReadErrorCode.TheVariants as reading
use Rattle.cbor_io.specs.declared.error.Error.{Error}
use Rattle.cbor_io.specs.declared.error.ErrorCode.{ErrorCode}
use Rattle.cbor_io.specs.declared.error.ErrorCode.TheVariants as code
use Rattle.cbor_io.specs.declared.read_error.ReadError.{ReadError}
use Rattle.cbor_io.specs.declared.read_error.ReadErrorCode.{ReadErrorCode}
use Rattle.cbor_decode.specs.declared.refusal.Refused.{Refused}
use Rattle.cbor_decode.specs.declared.refusal.Refused.TheVariants as refused
use Rattle.cbor_decode.specs.Gives.{FailsAs, FailsBy, IsErrorOf, Limits, limits, ReportsIo, Step, Stopped, ReportsNoForm, ReportsNoKey}
use Rattle.cbor_decode.specs.declared.cursor.Remaining.{Remaining}
use Rattle.cbor_decode.specs.Heads.{remaining_of}
use Rattle.cbor_decode.specs.Cursor.{behind_next}
use Rattle.cbor_decode.specs.declared.head.Head.TheVariants.{Array}
use Rattle.cbor_decode_as.specs.Begins.{Begins}
use Rattle.cbor_decode_as.specs.Cases.{Cases, HasCase, CaseHolds, NoItemHere, IsEmptyArray, IsInOtherForm, IsBadPair, ReportsTooShort, form_cases, untagged_cases, enum_cases, unit_cases, key_cases}
use Rattle.cbor_decode_as.specs.Identifiers.{IsMadeBy, NamesNoKey}
use Rattle.cbor_decode_as.specs.MapAccesses.{key_front}
use Rattle.cbor_decode_as.specs.declared.identifier.Why.{Why}
use Rattle.cbor_decode_as.specs.declared.identifier.Why.TheVariants as unnamed
use Rattle.cbor_decode_as.specs.Takes.{ReportsFault}
use Rattle.cbor_decode_as.specs.Variants.{IsShaped, TakesComing, pair_head_at}
use Rattle.cbor_decode_as.specs.Tags.{passed_at}
use Rattle.cbor_decode_as.specs.declared.variant.Form.TheVariants as form
use Rattle.cbor_decode_as.specs.declared.variant.Shape.{Shape}
use Rattle.cbor_decode_as.proofs.numbers.Scalars.{excused_or, reported_by}

-- no case is asked of another code
other_code : (cases : Cases) (k : ErrorCode) (at : ℕ) → ReportsNoForm k → CaseHolds cases k at
other_code cases code.ArrayTooShort at h = absurd h
other_code cases code.ArrayTooLong at h = absurd h
other_code cases code.WrongEnumFormat at h = absurd h
other_code cases code.WrongStructFormat at h = absurd h
other_code cases code.NotCanonical at h = absurd h
other_code cases (code.Message text) at h = tt
other_code cases (code.Io fault) at h = tt
other_code cases code.ScratchTooSmall at h = tt
other_code cases code.EofWhileParsingValue at h = tt
other_code cases code.EofWhileParsingArray at h = tt
other_code cases code.EofWhileParsingMap at h = tt
other_code cases code.LengthOutOfRange at h = tt
other_code cases code.InvalidUtf8 at h = tt
other_code cases code.UnassignedCode at h = tt
other_code cases code.UnexpectedCode at h = tt
other_code cases code.TrailingData at h = tt
other_code cases code.RecursionLimitExceeded at h = tt
other_code cases code.OutOfMemory at h = tt

pub other_stands : (s : Input) (e : Error) (cases : Limits → List ℕ → Cases) → ReportsNoForm (code_of e) → HasCase s e cases
other_stands s e cases other = record { reported = λ bs reports. other_code (cases (limits s bs) bs) (code_of e) (offset_of e) other }

-- a fault of a reading has no case but the key rule's
of_fault : {A : Type 0} (D : Type 0) (cases : Cases) (k : ErrorCode) (end at : ℕ) (read : Reads A) → (FailsAs wrong_struct_format end at read → cases.wrong_struct at) → FailsBy D k end at read → CaseHolds cases k at
of_fault D cases code.ArrayTooShort end at read on h = absurd h
of_fault D cases code.ArrayTooLong end at read on h = absurd h
of_fault D cases code.WrongEnumFormat end at read on h = absurd h
of_fault D cases code.WrongStructFormat end at read on h = on h
of_fault D cases code.NotCanonical end at read on h = absurd h
of_fault D cases (code.Message text) end at read on h = tt
of_fault D cases (code.Io fault) end at read on h = tt
of_fault D cases code.ScratchTooSmall end at read on h = tt
of_fault D cases code.EofWhileParsingValue end at read on h = tt
of_fault D cases code.EofWhileParsingArray end at read on h = tt
of_fault D cases code.EofWhileParsingMap end at read on h = tt
of_fault D cases code.LengthOutOfRange end at read on h = tt
of_fault D cases code.InvalidUtf8 end at read on h = tt
of_fault D cases code.UnassignedCode end at read on h = tt
of_fault D cases code.UnexpectedCode end at read on h = tt
of_fault D cases code.TrailingData end at read on h = tt
of_fault D cases code.RecursionLimitExceeded end at read on h = tt
of_fault D cases code.OutOfMemory end at read on h = tt

pub stopped_stands : {A : Type 0} {w : Input} (allowed : ReadErrorCode → Bool) (read : Limits → List ℕ → Reads A) (s : Input) (kept : ReadError) (r : Refused) (e : Error) (cases : Limits → List ℕ → Cases)
    → ((l : Limits) (bs : List ℕ) (at : ℕ) → FailsAs wrong_struct_format l.total at (read l bs) → (cases l bs).wrong_struct at) → IsErrorOf kept r e → Stopped allowed read s w kept r → HasCase s e cases
stopped_stands allowed read s kept r e cases on made h = record {
  reported = λ bs reports.
      of_fault (ReportsIo allowed) (cases (limits s bs) bs) (code_of e) (s.offset + length bs) (offset_of e) (read (limits s bs) bs) (on (limits s bs) bs (offset_of e)) (reported_by allowed read s kept r e made h bs reports);
}

-- one case for another
code_stands : (c d : Cases) (k : ErrorCode) (at : ℕ) → (c.too_short at → d.too_short at) → (c.too_long at → d.too_long at) → (c.wrong_enum at → d.wrong_enum at) → (c.wrong_struct at → d.wrong_struct at) → CaseHolds c k at → CaseHolds d k at
code_stands c d code.ArrayTooShort at short long enum key h = short h
code_stands c d code.ArrayTooLong at short long enum key h = long h
code_stands c d code.WrongEnumFormat at short long enum key h = enum h
code_stands c d code.WrongStructFormat at short long enum key h = key h
code_stands c d code.NotCanonical at short long enum key h = h
code_stands c d (code.Message text) at short long enum key h = tt
code_stands c d (code.Io fault) at short long enum key h = tt
code_stands c d code.ScratchTooSmall at short long enum key h = tt
code_stands c d code.EofWhileParsingValue at short long enum key h = tt
code_stands c d code.EofWhileParsingArray at short long enum key h = tt
code_stands c d code.EofWhileParsingMap at short long enum key h = tt
code_stands c d code.LengthOutOfRange at short long enum key h = tt
code_stands c d code.InvalidUtf8 at short long enum key h = tt
code_stands c d code.UnassignedCode at short long enum key h = tt
code_stands c d code.UnexpectedCode at short long enum key h = tt
code_stands c d code.TrailingData at short long enum key h = tt
code_stands c d code.RecursionLimitExceeded at short long enum key h = tt
code_stands c d code.OutOfMemory at short long enum key h = tt

-- each case of the one, seen after a step, is that case of the other
pub record Carries (P : Limits → List ℕ → List ℕ → Type 0) (c d : Limits → List ℕ → Cases) : Type 0 where
  pub short : (l : Limits) (bs rest : List ℕ) (at : ℕ) → P l bs rest → (c l rest).too_short at → (d l bs).too_short at
  pub long : (l : Limits) (bs rest : List ℕ) (at : ℕ) → P l bs rest → (c l rest).too_long at → (d l bs).too_long at
  pub enum : (l : Limits) (bs rest : List ℕ) (at : ℕ) → P l bs rest → (c l rest).wrong_enum at → (d l bs).wrong_enum at
  pub key : (l : Limits) (bs rest : List ℕ) (at : ℕ) → P l bs rest → (c l rest).wrong_struct at → (d l bs).wrong_struct at

pub stands_then : (s t : Input) (e : Error) (P : Limits → List ℕ → List ℕ → Type 0) (c d : Limits → List ℕ → Cases) → Carries P c d → Step s t P → HasCase t e c → HasCase s e d
stands_then s t e P c d on step h = record {
  reported = λ bs reports.
      let one = step.reported bs reports in
      let same : limits t one.rest ≡ limits s bs = ap₂ (λ (n : ℕ) (r : Option ℕ). record { total = n; room = r }) one.total step.took.room in
      let l = limits s bs in
      let there = subst (λ (l : Limits). CaseHolds (c l one.rest) (code_of e) (offset_of e)) same (h.reported one.rest one.reports) in
      code_stands (c l one.rest) (d l bs) (code_of e) (offset_of e)
      (on.short l bs one.rest (offset_of e) one.holds) (on.long l bs one.rest (offset_of e) one.holds) (on.enum l bs one.rest (offset_of e) one.holds) (on.key l bs one.rest (offset_of e) one.holds) there;
}

-- ---- calls

pub others_stand : {X : Type 0} (s : Input) (cases : Limits → List ℕ → Cases) (r : Result X Error) → IfErr r (λ e. ReportsNoForm (code_of e)) → IfErr r (λ e. HasCase s e cases)
others_stand s cases (Ok x) h = tt
others_stand s cases (Err e) h = other_stands s e cases h

-- an enum's form is that of an enum within no tag
form_stands : (f : Formats) (levels : ℕ) (s : Input) (e : Error) → HasCase s e (form_cases f) → HasCase s e (untagged_cases f levels)
form_stands f levels s e h = record {
  reported = λ bs reports.
      code_stands (form_cases f (limits s bs) bs) (untagged_cases f levels (limits s bs) bs) (code_of e) (offset_of e) (λ h. absurd h) (λ h. h) (λ h. h) (λ h. absurd h) (h.reported bs reports);
}

pub forms_stand : {X : Type 0} (f : Formats) (levels : ℕ) (s : Input) (r : Result X Error) → IfErr r (λ e. HasCase s e (form_cases f)) → IfErr r (λ e. HasCase s e (untagged_cases f levels))
forms_stand f levels s (Ok x) h = tt
forms_stand f levels s (Err e) h = form_stands f levels s e h

-- the enum begins where nothing was taken
pub shaped_stand : {X : Type 0} (f g : Formats) (levels n : ℕ) (s a : Input) (x : Shape) (r : Result X Error) → g ≡ f → n ≡ levels → Step s a (λ l bs rest. IsShaped x bs rest) → IfErr r (λ e. HasCase a e (untagged_cases g n)) → IfErr r (λ e. HasCase s e (untagged_cases f levels))
shaped_stand f g levels n s a x (Ok v) formats same step h = tt
shaped_stand f g levels n s a x (Err e) formats same step h =
    let there = subst (λ (k : ℕ). HasCase a e (untagged_cases f k)) same (subst (λ (k : Formats). HasCase a e (untagged_cases k n)) formats h) in
    stands_then s a e (λ l bs rest. IsShaped x bs rest) (untagged_cases f levels) (untagged_cases f levels) (record {
      short = λ l bs rest at here h. subst (λ (b : List ℕ). IsEmptyArray levels l b at) here.1 h;
      long = λ l bs rest at here h. h;
      enum = λ l bs rest at here h. subst (λ (b : List ℕ). IsInOtherForm f l b at) here.1 h;
      key = λ l bs rest at here h. subst (λ (b : List ℕ). IsBadPair f levels l b at) here.1 h;
    }) step there

-- the enum begins after its tags
pub tagged_stand : {X : Type 0} (f g : Formats) (levels left : ℕ) (s a : Input) (r : Result X Error) → g ≡ f → Step s a (λ l bs rest. passed_at levels bs ≡ Ok (left, rest)) → IfErr r (λ e. HasCase a e (untagged_cases g left)) → IfErr r (λ e. HasCase s e (enum_cases f levels))
tagged_stand f g levels left s a (Ok v) formats step h = tt
tagged_stand f g levels left s a (Err e) formats step h =
    stands_then s a e (λ l bs rest. passed_at levels bs ≡ Ok (left, rest)) (untagged_cases f left) (enum_cases f levels) (record {
      short = λ l bs rest at tags h. record { left = left; rest = rest; tags = tags; holds = h };
      long = λ l bs rest at tags h. h;
      enum = λ l bs rest at tags h. record { left = left; rest = rest; tags = tags; holds = h };
      key = λ l bs rest at tags h. record { left = left; rest = rest; tags = tags; holds = h };
    }) step (subst (λ (k : Formats). HasCase a e (untagged_cases k left)) formats h)

-- no first item comes of an array
pub empty_stands : (f : Formats) (levels left : ℕ) (remaining : Remaining) (s a : Input) (e : Error) → Step s a (λ l bs rest. Begins Array levels left remaining bs rest) → ReportsNoForm (code_of e) ⊎ NoItemHere code.ArrayTooShort remaining a e → HasCase s e (untagged_cases f levels)
empty_stands f levels left remaining s a e step (inl other) = other_stands s e (untagged_cases f levels) other
empty_stands f levels left remaining s a e step (inr none) = record {
  reported = λ bs reports.
      let one = step.reported bs reports in
      let place : offset_of e + length one.rest ≡ s.offset + length bs = omega (arith, none.place, one.total) in
      subst (λ (k : ErrorCode). CaseHolds (untagged_cases f levels (limits s bs) bs) k (offset_of e)) (sym none.code)
      (record { left = left; remaining = remaining; rest = one.rest; head = one.holds; place = place; none = none.reported one.rest one.reports });
}

-- the key of a map of one pair may not begin as it does
pub pair_stands : {w : Input} (allowed : ReadErrorCode → Bool) (f : Formats) (levels : ℕ) (s : Input) (kept : ReadError) (r : Refused) (e : Error) → IsErrorOf kept r e → Stopped allowed (λ l. pair_head_at f levels) s w kept r → HasCase s e (untagged_cases f levels)
pair_stands allowed f levels s kept r e made h = stopped_stands allowed (λ l. pair_head_at f levels) s kept r e (untagged_cases f levels) (λ l bs at h. h) made h

-- an array ends where an item was wanted
pub full_stands : (remaining : Remaining) (s : Input) (e : Error) → ReportsNoForm (code_of e) ⊎ NoItemHere code.ArrayTooLong remaining s e → HasCase s e (unit_cases (form.Array remaining))
full_stands remaining s e (inl other) = other_stands s e (unit_cases (form.Array remaining)) other
full_stands remaining s e (inr none) = record {
  reported = λ bs reports.
      let place : offset_of e + length bs ≡ s.offset + length bs = omega (arith, none.place) in
      subst (λ (k : ErrorCode). CaseHolds (unit_cases (form.Array remaining) (limits s bs) bs) k (offset_of e)) (sym none.code) (place, none.reported bs reports);
}

-- why it couldn't be known whether an item comes
pub coming_fault : (allowed : ReadErrorCode → Bool) (remaining behind : Remaining) (s t : Input) (kept : ReadError) (r : Refused) (e : Error) → IsErrorOf kept r e → TakesComing allowed remaining behind s t kept (Err r) → ReportsFault allowed (λ l. next_at end_in_array (remaining_of remaining)) s e
coming_fault allowed remaining behind s t kept r e made h = reported_by allowed (λ l. next_at end_in_array (remaining_of remaining)) s kept r e made h

-- where no item comes, either that is reported or the error is excused
pub too_short_first : (allowed : ReadErrorCode → Bool) (remaining : Remaining) (s : Input) (e : Error)
    → ReportsFault allowed (λ l. next_at end_in_array (remaining_of remaining)) s e ⊎ NoItemHere code.ArrayTooShort remaining s e → ReportsTooShort allowed (form.Array remaining) s e
too_short_first allowed remaining s e (inr none) = λ bs reports no. inr (none.code, none.place)
too_short_first allowed remaining s e (inl fault) = λ bs reports no.
    elim (excused_or (ReportsIo allowed) (code_of e) (s.offset + length bs) (offset_of e) (next_at end_in_array (remaining_of remaining) bs) (fault bs reports)) [
      | inl excused ↦ inl excused
      | inr failed ↦ absurd (not_both no.0 failed.0 (sym no.1 ∙ failed.1))
    ]
  where
    not_both : (after : List ℕ) (f : Fault) → ◌≡◌ {A = Reads (Option reader.Remaining)} (Ok (None, after)) (Err f) → ⊥
    not_both after f e = absurd cc

-- an item did come
pub too_short_later : (allowed : ReadErrorCode → Bool) (remaining behind : Remaining) (s a : Input) (e : Error) → Step s a (λ l bs rest. next_at end_in_array (remaining_of remaining) bs ≡ Ok (Some (remaining_of behind), rest)) → ReportsTooShort allowed (form.Array remaining) s e
too_short_later allowed remaining behind s a e step = λ bs reports no.
    let one = step.reported bs reports in
    absurd (none_some (ap (λ (p : Option reader.Remaining × List ℕ). p.0) (ok_is (None, no.0) (Some (remaining_of behind), one.rest) (sym no.1 ∙ one.holds))))
  where
    none_some : ◌≡◌ {A = Option reader.Remaining} None (Some (remaining_of behind)) → ⊥
    none_some e = absurd cc

-- the error of a step that no key stopped
pub no_form : (kept : ReadError) (r : Refused) (e : Error) → ReportsNoKey kept r → IsErrorOf kept r e → ReportsNoForm (code_of e)
no_form kept refused.OutOfMemory e other made = subst ReportsNoForm (sym made.0) tt
no_form kept refused.Kept e other made = subst ReportsNoForm (sym made.0) (of_kept (why kept) other)
  where
    of_kept : (k : ReadErrorCode) → k ≢ reading.WrongStructFormat → ReportsNoForm (error_code k)
    of_kept reading.WrongStructFormat other = absurd (other refl)
    of_kept (reading.Io fault) other = tt
    of_kept reading.ScratchTooSmall other = tt
    of_kept reading.EofWhileParsingValue other = tt
    of_kept reading.EofWhileParsingArray other = tt
    of_kept reading.EofWhileParsingMap other = tt
    of_kept reading.LengthOutOfRange other = tt
    of_kept reading.InvalidUtf8 other = tt
    of_kept reading.UnassignedCode other = tt
    of_kept reading.UnexpectedCode other = tt
    of_kept reading.TrailingData other = tt
    of_kept reading.RecursionLimitExceeded other = tt
    of_kept reading.OutOfMemory other = tt

pub made_stands : (s : Input) (cases : Limits → List ℕ → Cases) (kept : ReadError) (r : Refused) → ReportsNoKey kept r → (e : Error) → IsErrorOf kept r e → HasCase s e cases
made_stands s cases kept r other e made = other_stands s e cases (no_form kept r e other made)

-- the error of what named nothing, where no key stopped it
pub unnamed_stands : (s : Input) (cases : Limits → List ℕ → Cases) (kept : ReadError) (w : Why) → NamesNoKey kept w → (e : Error) → IsMadeBy kept w e → HasCase s e cases
unnamed_stands s cases kept (unnamed.Refused r) other e made = made_stands s cases kept r other e made
unnamed_stands s cases kept unnamed.Other other e made = other_stands s e cases (of_message (code_of e) made.0)
  where
    of_message : (k : ErrorCode) → IsMessageOf None k → ReportsNoForm k
    of_message (code.Message text) h = tt
    of_message code.OutOfMemory h = tt
    of_message (code.Io fault) h = absurd h
    of_message code.ScratchTooSmall h = absurd h
    of_message code.EofWhileParsingValue h = absurd h
    of_message code.EofWhileParsingArray h = absurd h
    of_message code.EofWhileParsingMap h = absurd h
    of_message code.LengthOutOfRange h = absurd h
    of_message code.InvalidUtf8 h = absurd h
    of_message code.UnassignedCode h = absurd h
    of_message code.UnexpectedCode h = absurd h
    of_message code.TrailingData h = absurd h
    of_message code.ArrayTooShort h = absurd h
    of_message code.ArrayTooLong h = absurd h
    of_message code.RecursionLimitExceeded h = absurd h
    of_message code.WrongEnumFormat h = absurd h
    of_message code.WrongStructFormat h = absurd h
    of_message code.NotCanonical h = absurd h

-- the next key may not begin as it does
pub key_stands : {w : Input} (allowed : ReadErrorCode → Bool) (f g : Formats) (remaining behind : Remaining) (more : Bool) (s a : Input) (kept : ReadError) (r : Refused) → g ≡ f → more ≡ true
    → Step s a (λ l bs rest. next_at end_in_map (remaining_of remaining) bs ≡ Ok (behind_next behind more, rest)) → Stopped allowed (λ l. key_front g) a w kept r → (e : Error) → IsErrorOf kept r e → HasCase s e (key_cases f remaining)
key_stands allowed f g remaining behind false s a kept r same comes step h e made = absurd cc
key_stands {w = w} allowed f g remaining behind true s a kept r same comes step h e made =
    stands_then s a e (λ l bs rest. next_at end_in_map (remaining_of remaining) bs ≡ Ok (Some (remaining_of behind), rest)) front_cases (key_cases f remaining) (record {
      short = λ l bs rest at comes h. h;
      long = λ l bs rest at comes h. h;
      enum = λ l bs rest at comes h. h;
      key = λ l bs rest at comes h. record { behind = remaining_of behind; key = rest; comes = comes; refused = h };
    }) step (stopped_stands allowed (λ l. key_front f) a kept r e front_cases (λ l bs at h. h) made (subst (λ (k : Formats). Stopped allowed (λ l. key_front k) a w kept r) same h))
  where
    front_cases : Limits → List ℕ → Cases
    front_cases l bs = record { too_short = λ at. ⊥; too_long = λ at. ⊥; wrong_enum = λ at. ⊥; wrong_struct = λ at. FailsAs wrong_struct_format l.total at (key_front f bs) }
