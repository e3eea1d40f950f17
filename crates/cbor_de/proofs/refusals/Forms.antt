-- Errors that report no wrong form, and those that a part may report.
use Rattle.std.proofs.Common.{◌≡◌, ◌⊎◌, ◌+◌, ◌∙◌, ℕ, Bool, List, length, IfErr, Option, Some, None, Result, Ok, Err, inl, inr, refl, sym, ap, ap₂, subst, arith}
use Rattle.cbor_model.specs.Formats.{Formats}
use Rattle.cbor_model.specs.Raw.{Raw}
use Rattle.cbor_model.specs.Reader.{item_at}
use Rattle.cbor_io.specs.declared.error.Error.{Error}
use Rattle.cbor_io.specs.declared.error.ErrorCode.{ErrorCode}
use Rattle.cbor_io.specs.declared.error.ErrorCode.TheVariants as code
use Rattle.cbor_io.specs.Error.{code_of, offset_of, IsMessageOf}
use Rattle.cbor_io.specs.declared.read_error.ReadErrorCode.{ReadErrorCode}
use Rattle.cbor_read.specs.Source.{Input, TookSome}
use Rattle.cbor_decode.specs.AtEnd.{EndRefused}
use Rattle.cbor_decode.specs.Gives.{FailsBy, Limits, ReportsIo, Step, Reports, ReportsNoForm, limits, values}
use Rattle.cbor_decode.specs.Heads.{remaining_of}
use Rattle.cbor_decode.specs.declared.cursor.Remaining.{Remaining}
use Rattle.cbor_decode.specs.declared.formats.Formats as declared
use Rattle.cbor_decode.proofs.facts.Readings.{value_seen}
use Rattle.cbor_decode.proofs.facts.Steps.{some_then, step_then, took_none}
use Rattle.cbor_decode_as.specs.Collections.{IsHeadOf}
use Rattle.cbor_decode_as.specs.Takes.{ReportsFault, formats_of, raws}
use Rattle.cbor_decode_as.specs.Cases.{FormAlone, IsBadKey, IsEnumCode, NoItemHere, NothingFollows, HasCase, CaseHolds, enum_cases, key_cases, unit_cases}
use Rattle.cbor_decode_as.specs.declared.variant.Form.{Form}
use Rattle.cbor_decode_as.specs.declared.variant.Form.TheVariants as form
use Rattle.cbor_decode_as.proofs.facts.Maps.{PairsSoFar, map_stops}
use Rattle.cbor_de.specs.Forms.{WrongForms, never, reported, any_of, may_report, Began, FormOnlyIf, MayReport, MayReportContent, MayReportKey, MayReportPart}
use Rattle.cbor_de.specs.Forms.{ReportsAt, ReportsKey, ReportsWithin, ReportsBeginning, ReportsEnum, ReportsNameAlone, IsBadWithin, key_form, enum_form, unit_form, part_form}
use Rattle.cbor_de.proofs.refusals.Faults.{fault_of}
use Rattle.cbor_decode.specs.declared.cursor.Collection.TheVariants as collection

-- an error that reports no form, of any type
pub plain : (a : WrongForms) (f : Formats) (s : Input) (e : Error) → ReportsNoForm (code_of e) → MayReport a f s e
plain never f s e h = h
plain (reported P) f s e h = inl h

-- an error of one of two parts
pub of_left : (a b : WrongForms) (f : Formats) (s : Input) (e : Error) → MayReport a f s e → MayReport (any_of a b) f s e
of_left never b f s e h = plain b f s e h
of_left (reported P) never f s e h = h
of_left (reported P) (reported Q) f s e (inl h) = inl h
of_left (reported P) (reported Q) f s e (inr r) = inr (record { place = r.place; took = r.took; holds = inl r.holds })

pub of_right : (a b : WrongForms) (f : Formats) (s : Input) (e : Error) → MayReport b f s e → MayReport (any_of a b) f s e
of_right never b f s e h = h
of_right (reported P) never f s e h = inl h
of_right (reported P) (reported Q) f s e (inl h) = inl h
of_right (reported P) (reported Q) f s e (inr r) = inr (record { place = r.place; took = r.took; holds = inr r.holds })

-- what was taken, and then more
pub took_then : {s t u : Input} → TookSome s t → TookSome t u → TookSome s u
took_then {s} {t} {u} = some_then s t u

-- an error behind what was taken
pub later : (a : WrongForms) (f : Formats) (s m : Input) (e : Error) → TookSome s m → MayReport a f m e → MayReport a f s e
later never f s m e took h = h
later (reported P) f s m e took (inl h) = inl h
later (reported P) f s m e took (inr r) = inr (record { place = r.place; took = some_then s m r.place took r.took; holds = r.holds })

-- the same, where the formats are still to be seen as the same
pub later_in : (a : WrongForms) (f g : declared.Formats) (s m : Input) (e : Error) → g ≡ f → TookSome s m → MayReport a (formats_of g) m e → MayReport a (formats_of f) s e
later_in a f g s m e same took h = subst (λ (x : declared.Formats). MayReport a (formats_of x) s e) same (later a (formats_of g) s m e took h)

-- what was answered behind what was taken
pub later_err : {A : Type 0} (a : WrongForms) (f g : declared.Formats) (s m : Input) (r : Result A Error) → g ≡ f → TookSome s m → IfErr r (MayReport a (formats_of g) m) → IfErr r (MayReport a (formats_of f) s)
later_err a f g s m (Ok x) same took h = h
later_err a f g s m (Err e) same took h = later_in a f g s m e same took h

-- what was answered of one of two parts
pub left_err : {A : Type 0} (a b : WrongForms) (f : Formats) (s : Input) (r : Result A Error) → IfErr r (MayReport a f s) → IfErr r (MayReport (any_of a b) f s)
left_err a b f s (Ok x) h = h
left_err a b f s (Err e) h = of_left a b f s e h

pub right_err : {A : Type 0} (a b : WrongForms) (f : Formats) (s : Input) (r : Result A Error) → IfErr r (MayReport b f s) → IfErr r (MayReport (any_of a b) f s)
right_err a b f s (Ok x) h = h
right_err a b f s (Err e) h = of_right a b f s e h

-- an error that is reported here
pub here : (P : Formats → Input → Error → Type 0) (f : Formats) (s : Input) (e : Error) → P f s e → MayReport (reported P) f s e
here P f s e h = inr (record { place = s; took = took_none s; holds = h })

-- the code alone
only_if : (a : WrongForms) (f : Formats) (s : Input) (e : Error) → MayReport a f s e → FormOnlyIf (may_report a) (code_of e)
only_if never f s e h = h
only_if (reported P) f s e h = tt

pub only_err : {A : Type 0} (a : WrongForms) (f : Formats) (s : Input) (r : Result A Error) → IfErr r (MayReport a f s) → IfErr r (λ e. FormOnlyIf (may_report a) (code_of e))
only_err a f s (Ok x) h = h
only_err a f s (Err e) h = only_if a f s e h

-- a form that is reported here, or none
reported_here : (P : Formats → Input → Error → Type 0) (f : Formats) (s : Input) (e : Error) → ReportsNoForm (code_of e) ⊎ P f s e → MayReport (reported P) f s e
reported_here P f s e (inl h) = inl h
reported_here P f s e (inr h) = here P f s e h

-- the one code that is reported, at its place
alone : (one : ErrorCode) (P : Limits → List ℕ → ℕ → Type 0) (s : Input) (e : Error) → FormAlone one (code_of e)
    → (code_of e ≡ one → (bs : List ℕ) → Reports s bs → P (limits s bs) bs (offset_of e)) → ReportsNoForm (code_of e) ⊎ ReportsAt one P s e
alone one P s e (inl h) at = inl h
alone one P s e (inr is) at = inr (record { is = is; reported = at is })

with_some : {A C : Type 0} (B : A → Type 0) (x : A) → C ⊎ B x → C ⊎ ((y : A) × B y)
with_some B x (inl c) = inl c
with_some B x (inr b) = inr (x, b)

-- the fault of an item that is taken whole
pub item_reported : (refusals : ReadErrorCode → Bool) (f : Formats) (levels : ℕ) (s : Input) (e : Error) → FormAlone code.WrongStructFormat (code_of e) → ReportsFault refusals (λ l. item_at (values f l) levels) s e → MayReport key_form f s e
item_reported refusals f levels s e one h = reported_here ReportsWithin f s e (with_some (λ (n : ℕ). ReportsAt code.WrongStructFormat (IsBadWithin f n) s e) levels (alone code.WrongStructFormat (IsBadWithin f levels) s e one
    (λ is bs reports.
    let l = limits s bs in
    let d = subst (λ (k : ErrorCode). FailsBy (ReportsIo refusals) k (s.offset + length bs) (offset_of e) (item_at (values f l) levels bs)) is (h bs reports) in
    (d.0, d.1, fault_of (item_at (raws f l) levels bs) _ (sym (value_seen f l levels bs) ∙ d.2)))))

-- ---- keys

-- a next key that may not begin as it does
pub key_reported : (f : Formats) (remaining : Remaining) (s : Input) (e : Error) → FormAlone code.WrongStructFormat (code_of e) → HasCase s e (key_cases f remaining) → MayReportKey never f remaining s e
key_reported f remaining s e one h = alone code.WrongStructFormat (IsBadKey f (remaining_of remaining)) s e one
    (λ is bs reports. subst (λ (k : ErrorCode). CaseHolds (key_cases f remaining (limits s bs) bs) k (offset_of e)) is (h.reported bs reports))

-- whatever the type of the key
pub key_of : (a : WrongForms) (f : Formats) (remaining : Remaining) (s : Input) (e : Error) → MayReportKey never f remaining s e → MayReportKey a f remaining s e
key_of a f remaining s e (inl h) = inl (plain a f s e h)
key_of a f remaining s e (inr h) = inr h

module _ (P : List (Raw × Raw) → Type 0) (f : declared.Formats) (levels left : ℕ) (all r : Remaining) (s first t : Input) (head : Step s first (λ l bs rest. IsHeadOf collection.Map (formats_of f) l (item_at (raws (formats_of f) l) levels bs) left all rest)) (so : Step first t (PairsSoFar P (formats_of f) left (remaining_of all) (remaining_of r))) where
  -- the map, of which some pairs were read
  record MapBehind (l : Limits) (bs rest : List ℕ) : Type 0 where
    mid : List ℕ
    begins : IsHeadOf collection.Map (formats_of f) l (item_at (raws (formats_of f) l) levels bs) left all mid
    pairs : PairsSoFar P (formats_of f) left (remaining_of all) (remaining_of r) l mid rest

  map_behind : Step s t MapBehind
  map_behind = step_then s first t (λ l bs rest. IsHeadOf collection.Map (formats_of f) l (item_at (raws (formats_of f) l) levels bs) left all rest) (PairsSoFar P (formats_of f) left (remaining_of all) (remaining_of r)) MapBehind
      (λ l bs mid rest begins pairs. record { mid = mid; begins = begins; pairs = pairs }) head so

  -- its next key may not begin as it does
  bad_within : (e : Error) → ReportsKey (formats_of f) r t e → ReportsWithin (formats_of f) s e
  bad_within e h = (
    levels,
    record {
      is = h.is;
      reported = λ bs reports.
          let one = map_behind.reported bs reports in
          let same : limits t one.rest ≡ limits s bs = ap₂ (λ (n : ℕ) (room : Option ℕ). record { total = n; room = room }) one.total map_behind.took.room in
          let bad = subst (λ (l : Limits). IsBadKey (formats_of f) (remaining_of r) l one.rest (offset_of e)) same (h.reported one.rest one.reports) in
          map_stops P (formats_of f) (limits s bs) levels left all r bs one.holds.mid one.rest (offset_of e) one.holds.begins one.holds.pairs bad;
    },
  )

  -- what the reading of its next key reports
  pub key_in_map : (a : WrongForms) (g : declared.Formats) (e : Error) → g ≡ f → MayReportKey a (formats_of g) r t e → MayReport (any_of key_form a) (formats_of f) s e
  key_in_map a g e same (inl h) = of_right key_form a (formats_of f) s e (later_in a f g s t e same map_behind.took h)
  key_in_map a g e same (inr h) = of_left key_form a (formats_of f) s e (here ReportsWithin (formats_of f) s e (bad_within e (subst (λ (x : declared.Formats). ReportsKey (formats_of x) r t e) same h)))

-- ---- enums

-- an enum up to its identifier
enum_by : (f : Formats) (levels : ℕ) (s : Input) (e : Error) (k : ErrorCode) → code_of e ≡ k → IsEnumCode k
    → ((bs : List ℕ) → Reports s bs → CaseHolds (enum_cases f levels (limits s bs) bs) k (offset_of e)) → ReportsNoForm (code_of e) ⊎ ReportsBeginning f levels s e
enum_by f levels s e code.ArrayTooShort is h at = inr (inr (inl (record { is = is; reported = at })))
enum_by f levels s e code.ArrayTooLong is h at = absurd h
enum_by f levels s e code.WrongEnumFormat is h at = inr (inl (record { is = is; reported = at }))
enum_by f levels s e code.WrongStructFormat is h at = inr (inr (inr (record { is = is; reported = at })))
enum_by f levels s e code.NotCanonical is h at = absurd h
enum_by f levels s e (code.Message text) is h at = inl (subst ReportsNoForm (sym is) tt)
enum_by f levels s e (code.Io fault) is h at = inl (subst ReportsNoForm (sym is) tt)
enum_by f levels s e code.ScratchTooSmall is h at = inl (subst ReportsNoForm (sym is) tt)
enum_by f levels s e code.EofWhileParsingValue is h at = inl (subst ReportsNoForm (sym is) tt)
enum_by f levels s e code.EofWhileParsingArray is h at = inl (subst ReportsNoForm (sym is) tt)
enum_by f levels s e code.EofWhileParsingMap is h at = inl (subst ReportsNoForm (sym is) tt)
enum_by f levels s e code.LengthOutOfRange is h at = inl (subst ReportsNoForm (sym is) tt)
enum_by f levels s e code.InvalidUtf8 is h at = inl (subst ReportsNoForm (sym is) tt)
enum_by f levels s e code.UnassignedCode is h at = inl (subst ReportsNoForm (sym is) tt)
enum_by f levels s e code.UnexpectedCode is h at = inl (subst ReportsNoForm (sym is) tt)
enum_by f levels s e code.TrailingData is h at = inl (subst ReportsNoForm (sym is) tt)
enum_by f levels s e code.RecursionLimitExceeded is h at = inl (subst ReportsNoForm (sym is) tt)
enum_by f levels s e code.OutOfMemory is h at = inl (subst ReportsNoForm (sym is) tt)

pub enum_reported : (f : Formats) (levels : ℕ) (s : Input) (e : Error) → IsEnumCode (code_of e) → HasCase s e (enum_cases f levels) → MayReport enum_form f s e
enum_reported f levels s e code h = reported_here ReportsEnum f s e (with_some (λ (n : ℕ). ReportsBeginning f n s e) levels (enum_by f levels s e (code_of e) refl code h.reported))

-- ---- the content of a variant

-- at this place nothing follows the identifier
name_alone : (k : ErrorCode) (f : Formats) (form : Form) (s t : Input) (e : Error) → Began f form s t → code_of e ≡ k
    → ((bs : List ℕ) → Reports t bs → (offset_of e + length bs ≡ (limits t bs).total) × NothingFollows form bs) → ReportsNameAlone k f s e
name_alone k f form s t e began is place = (
  began.levels,
  record {
    is = is;
    reported = λ bs reports.
        let one = began.step.reported bs reports in
        let end = place one.rest one.reports in
        record {
          names = began.names;
          left = began.left;
          index = began.index;
          form = form;
          rest = one.rest;
          begins = one.holds;
          nothing = end.1;
          place = omega (arith, end.0, one.total);
        };
  },
)

-- a variant of no part
unit_reported : (f : Formats) (form : Form) (t : Input) (e : Error) → FormAlone code.ArrayTooLong (code_of e) → HasCase t e (unit_cases form) → MayReportContent unit_form f form t e
unit_reported f form t e (inl other) h = λ s began. inl other
unit_reported f form t e (inr is) h = λ s began. here (ReportsNameAlone code.ArrayTooLong) f s e (name_alone code.ArrayTooLong f form s t e began is
    (λ bs reports. subst (λ (k : ErrorCode). CaseHolds (unit_cases form (limits t bs) bs) k (offset_of e)) is (h.reported bs reports)))

pub unit_err : {A : Type 0} (f : Formats) (form : Form) (t : Input) (r : Result A Error) → IfErr r (λ e. FormAlone code.ArrayTooLong (code_of e)) → IfErr r (λ e. HasCase t e (unit_cases form)) → IfErr r (MayReportContent unit_form f form t)
unit_err f form t (Ok x) one h = h
unit_err f form t (Err e) one h = unit_reported f form t e one h

-- an array in which nothing follows the identifier, where a part is read
pub none_reported : (a : WrongForms) (f : Formats) (remaining : Remaining) (t : Input) (e : Error) → ReportsNoForm (code_of e) ⊎ NoItemHere code.ArrayTooShort remaining t e → MayReportPart a f (form.Array remaining) t e
none_reported a f remaining t e (inl other) = inl (plain a f t e other)
none_reported a f remaining t e (inr h) = inr (record { is = h.code; place = h.place; reported = h.reported })

pub part_plain : (a : WrongForms) (f : Formats) (form : Form) (t : Input) (e : Error) → ReportsNoForm (code_of e) → MayReportPart a f form t e
part_plain a f form t e other = inl (plain a f t e other)

-- what the part reports, of what was answered
pub part_err : {A : Type 0} (a : WrongForms) (f : Formats) (form : Form) (t : Input) (r : Result A Error) → IfErr r (MayReport a f t) → IfErr r (MayReportPart a f form t)
part_err a f form t (Ok x) h = h
part_err a f form t (Err e) h = inl h

-- the content of one part
pub part_content : (a : WrongForms) (f : Formats) (form : Form) (t : Input) (e : Error) → MayReportPart a f form t e → MayReportContent (any_of part_form a) f form t e
part_content a f form t e (inl h) = λ s began. of_right part_form a f s e (later a f s t e began.step.took h)
part_content a f form t e (inr h) = λ s began. of_left part_form a f s e (here (ReportsNameAlone code.ArrayTooShort) f s e
    (name_alone code.ArrayTooShort f form s t e began h.is (λ bs reports. (ap (λ (n : ℕ). n + length bs) h.place, h.reported bs reports))))

-- an error that reports no form
pub content_plain : (a : WrongForms) (f : Formats) (form : Form) (t : Input) (e : Error) → ReportsNoForm (code_of e) → MayReportContent a f form t e
content_plain a f form t e other = λ s began. plain a f s e other

-- what is reported behind what was taken of the content
pub content_later : (a : WrongForms) (f g : declared.Formats) (form : Form) (t m : Input) (e : Error) → g ≡ f → TookSome t m → MayReport a (formats_of g) m e → MayReportContent a (formats_of f) form t e
content_later a f g form t m e same took h = λ s began. later_in a f g s m e same (some_then s t m began.step.took took) h

-- what a part reports
pub content_right : (a b : WrongForms) (f : Formats) (form : Form) (t : Input) (e : Error) → MayReportContent b f form t e → MayReportContent (any_of a b) f form t e
content_right a b f form t e h = λ s began. of_right a b f s e (h s began)

pub content_left : (a b : WrongForms) (f : Formats) (form : Form) (t : Input) (e : Error) → MayReportContent a f form t e → MayReportContent (any_of a b) f form t e
content_left a b f form t e h = λ s began. of_left a b f s e (h s began)

-- the whole enum
pub began_err : {A : Type 0} (a : WrongForms) (f g : declared.Formats) (form : Form) (s t : Input) (r : Result A Error) → g ≡ f → Began (formats_of f) form s t → IfErr r (MayReportContent a (formats_of g) form t) → IfErr r (MayReport a (formats_of f) s)
began_err a f g form s t (Ok x) same began h = h
began_err a f g form s t (Err e) same began h = subst (λ (x : declared.Formats). MayReportContent a (formats_of x) form t e) same h s began

-- a message
pub message_form : (text : Option (List ℕ)) (k : ErrorCode) → IsMessageOf text k → ReportsNoForm k
message_form text (code.Message m) h = tt
message_form text code.OutOfMemory h = tt
message_form text (code.Io fault) h = tt
message_form text code.ScratchTooSmall h = tt
message_form text code.EofWhileParsingValue h = tt
message_form text code.EofWhileParsingArray h = tt
message_form text code.EofWhileParsingMap h = tt
message_form text code.LengthOutOfRange h = tt
message_form text code.InvalidUtf8 h = tt
message_form text code.UnassignedCode h = tt
message_form text code.UnexpectedCode h = tt
message_form text code.TrailingData h = tt
message_form text code.RecursionLimitExceeded h = tt
message_form None code.ArrayTooShort h = absurd h
message_form (Some text) code.ArrayTooShort h = absurd h
message_form None code.ArrayTooLong h = absurd h
message_form (Some text) code.ArrayTooLong h = absurd h
message_form None code.WrongEnumFormat h = absurd h
message_form (Some text) code.WrongEnumFormat h = absurd h
message_form None code.WrongStructFormat h = absurd h
message_form (Some text) code.WrongStructFormat h = absurd h
message_form None code.NotCanonical h = absurd h
message_form (Some text) code.NotCanonical h = absurd h

-- what stands in the place of the end
pub end_form : (allowed : ReadErrorCode → Bool) (k : ErrorCode) (at : ℕ) (s t : Input) → EndRefused allowed k at s t → ReportsNoForm k
end_form allowed (code.Message m) at s t h = tt
end_form allowed code.OutOfMemory at s t h = tt
end_form allowed (code.Io fault) at s t h = tt
end_form allowed code.ScratchTooSmall at s t h = tt
end_form allowed code.EofWhileParsingValue at s t h = tt
end_form allowed code.EofWhileParsingArray at s t h = tt
end_form allowed code.EofWhileParsingMap at s t h = tt
end_form allowed code.LengthOutOfRange at s t h = tt
end_form allowed code.InvalidUtf8 at s t h = tt
end_form allowed code.UnassignedCode at s t h = tt
end_form allowed code.UnexpectedCode at s t h = tt
end_form allowed code.TrailingData at s t h = tt
end_form allowed code.RecursionLimitExceeded at s t h = tt
end_form allowed code.ArrayTooShort at s t h = absurd h
end_form allowed code.ArrayTooLong at s t h = absurd h
end_form allowed code.WrongEnumFormat at s t h = absurd h
end_form allowed code.WrongStructFormat at s t h = absurd h
end_form allowed code.NotCanonical at s t h = absurd h
