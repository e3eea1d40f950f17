-- Items that are passed over after their heads.
use Rattle.std.proofs.Common.{◌≡◌, ◌+◌, ◌⊎◌, inl, inr, ℕ, zero, suc, Bool, true, false, List, length, Option, Some, None, Result, Ok, Err, IfErr, refl, sym, ap, ap₂, subst, ◌∙◌}
use Rattle.cbor_model.specs.Formats.{Formats, all_formats}
use Rattle.cbor_model.specs.Head.{HeadWidth}
use Rattle.cbor_model.specs.Plain.{Val}
use Rattle.cbor_model.specs.Reader.{Fault, Reads, ◌>>=◌, inside, item_at, tag_at}
use Rattle.cbor_read.specs.Source.{Input}
use Rattle.cbor_io.specs.Error.{code_of, offset_of, IsMessageOf}
use Rattle.cbor_io.specs.declared.error.Error.{Error}
use Rattle.cbor_io.specs.declared.error.ErrorCode.{ErrorCode}
use Rattle.cbor_io.specs.declared.error.ErrorCode.TheVariants as code
use Rattle.cbor_io.specs.declared.read_error.ReadError.{ReadError}
use Rattle.cbor_io.specs.declared.read_error.ReadErrorCode.{ReadErrorCode}
use Rattle.cbor_value.specs.View.{float_view}
use Rattle.cbor_value.specs.declared.Float.{Float}
use Rattle.cbor_decode.specs.Gives.{Limits, limits, values, Reports, Step, ReportsWhy, FailsBy, ReportsIo, IsErrorOf}
use Rattle.cbor_decode.specs.Heads.{opening_at, behind_head, passed}
use Rattle.cbor_decode.specs.declared.head.Head.{Head}
use Rattle.cbor_decode.specs.declared.head.Head.TheVariants as head
use Rattle.cbor_decode.specs.declared.refusal.Refused.{Refused}
use Rattle.cbor_decode.proofs.facts.Heads.{item_opened, value_behind}
use Rattle.cbor_decode.proofs.facts.Steps.{passed_on, passed_was, passed_stops, step_then, why_map, why_then}
use Rattle.cbor_decode_as.specs.TaggedHeads.{opened_by, opened_at, behind_any, RefusesBehind, StandsBehind}
use Rattle.cbor_decode_as.specs.Takes.{ExcusedBy, FaultOrMessage, IsMessage, ReportsItem, ReportsOf, WhereTotal, IsMessageBy, RefusesWhole, HasItem, ReportsFault, any_item}
use Rattle.cbor_decode_as.specs.declared.head.HeadAt.{HeadAt}
use Rattle.cbor_decode_as.proofs.heads.Openings.{opened_below, opened_is}
use Rattle.cbor_decode_as.proofs.numbers.Scalars.{excused_or, reported_why}

-- ---- after the head of an item within its tags

pub passed_made : {A B : Type 0} (read : Reads A) (make : A → B) → passed (read >>= (λ x. Ok (make x.0, x.1))) ≡ passed read
passed_made (Ok x) make = refl
passed_made (Err f) make = refl

module _ (l : Limits) where
  -- what is passed over after a head
  abbrev behind_found : (ℕ × Head) × List ℕ → Reads (Unit {0})
  behind_found o = passed (behind_any o.0.0 o.0.1 l o.1)

  abbrev Alike : ℕ → Type 0
  Alike levels = (bs : List ℕ) → passed (any_item levels l bs) ≡ (opened_at levels bs >>= behind_found)

  by_head : (levels : ℕ) (w : HeadWidth) (h : Head) (mid : List ℕ) → ((n : ℕ) → passed (tag_at (values all_formats l) (inside (values all_formats l) levels) w n mid) ≡ (opened_by levels (opened_below levels) (head.Tag n) mid >>= behind_found))
      → passed (behind_head (values all_formats l) (inside (values all_formats l) levels) w h mid) ≡ (opened_by levels (opened_below levels) h mid >>= behind_found)
  by_head levels w (head.Tag n) mid tag = tag n
  by_head levels w h mid tag = ap (λ (r : Reads Val). passed r) (value_behind all_formats l (inside (values all_formats l) levels) w h mid)

  by_opening : (levels : ℕ) (r : Reads (HeadWidth × Head)) → ((w : HeadWidth) (n : ℕ) (mid : List ℕ) → passed (tag_at (values all_formats l) (inside (values all_formats l) levels) w n mid) ≡ (opened_by levels (opened_below levels) (head.Tag n) mid >>= behind_found))
      → passed (r >>= (λ h. behind_head (values all_formats l) (inside (values all_formats l) levels) h.0.0 h.0.1 h.1)) ≡ ((r >>= (λ h. opened_by levels (opened_below levels) h.0.1 h.1)) >>= behind_found)
  by_opening levels (Ok h) tag = by_head levels h.0.0 h.0.1 h.1 (λ n. tag h.0.0 n h.1)
  by_opening levels (Err f) tag = refl

  begun : (levels : ℕ) → ((w : HeadWidth) (n : ℕ) (mid : List ℕ) → passed (tag_at (values all_formats l) (inside (values all_formats l) levels) w n mid) ≡ (opened_by levels (opened_below levels) (head.Tag n) mid >>= behind_found)) → Alike levels
  begun levels tag bs =
      ap (λ (r : Reads Val). passed r) (item_opened (values all_formats l) levels bs)
      ∙ by_opening levels (opening_at bs) tag
      ∙ ap (λ (r : Reads (ℕ × Head)). r >>= behind_found) (sym (opened_is levels bs))

  -- an item is passed over where its head is found, and what follows it
  passed_found : (levels : ℕ) → Alike levels
  unfolding tag_at
  passed_found zero = begun zero (λ w n mid. refl)
  passed_found (suc left) = begun (suc left) (λ w n mid. passed_made (any_item left l mid) ((values all_formats l).tag w n) ∙ passed_found left mid)

  pub found_is : (levels left : ℕ) (h : Head) (bs mid : List ℕ) → opened_at levels bs ≡ Ok ((left, h), mid) → passed (any_item levels l bs) ≡ passed (behind_any left h l mid)
  found_is levels left h bs mid is = passed_found levels bs ∙ rw is refl

  found_stops : (levels : ℕ) (bs : List ℕ) (f : Fault) → opened_at levels bs ≡ Err f → any_item levels l bs ≡ Err f
  found_stops levels bs f is = passed_stops (any_item levels l bs) f (passed_found levels bs ∙ rw is refl)

  pub head_stops_any : (levels : ℕ) (bs : List ℕ) (f : Fault) → opening_at bs ≡ Err f → any_item levels l bs ≡ Err f
  head_stops_any levels bs f is = item_opened (values all_formats l) levels bs ∙ rw is refl

-- ---- the fault, or a message

excused_message : (D : Type 0) (k : ErrorCode) (at : ℕ) → ExcusedBy D k at → IsMessageBy D k at
excused_message D (code.Message s) at h = absurd h
excused_message D k at h = h

pub message_by : (D : Type 0) (text : Option (List ℕ)) (k : ErrorCode) (at : ℕ) → IsMessageOf text k → at ≡ 0 → IsMessageBy D k at
message_by D text (code.Message s) at is none = none
message_by D text code.OutOfMemory at is none = none
message_by D None k at is none = absurd is
message_by D (Some t) k at is none = absurd is

-- a fault of one reading is one of another that meets it too
fault_alike : {A B : Type 0} (D : Type 0) (k : ErrorCode) (end at : ℕ) (read : Reads A) (read' : Reads B) → passed read ≡ passed read' → FaultOrMessage D k end at read → FaultOrMessage D k end at read'
fault_alike {A = A} D k end at (Ok x) (Ok y) same h = h
fault_alike {A = A} D k end at (Ok x) (Err f) same h = absurd cc
fault_alike {A = A} D k end at (Err f) (Ok y) same h = absurd cc
fault_alike {A = A} D k end at (Err f) (Err g) same h = passed_on D k end at (Err f) (Err g) (λ d is. passed_stops (Err g) d (sym same ∙ ap (λ (r : Reads A). passed r) is)) h

-- an error that reports a fault reports the one that is met, or is excused
pub reported_or_excused : {A : Type 0} (D : Type 0) (k : ErrorCode) (end at : ℕ) (read : Result A Fault) → FailsBy D k end at read → FaultOrMessage D k end at read
reported_or_excused D k end at (Err f) h = h
reported_or_excused D k end at (Ok x) h = elim (excused_or D k end at (Ok x) h) [
  | inl excused ↦ excused_message D k at excused
  | inr met ↦ absurd (let is = met.1 in cc)
]

-- what is excused may come in place of either
excused_fault : {A : Type 0} (D : Type 0) (k : ErrorCode) (end at : ℕ) (read : Result A Fault) → ExcusedBy D k at → FaultOrMessage D k end at read
excused_fault D k end at (Ok x) h = excused_message D k at h
excused_fault D (code.Io e) end at (Err f) h = h
excused_fault D code.OutOfMemory end at (Err f) h = h
excused_fault D k end at (Err f) h = absurd h

-- of what is read it is a message
message_of : {A : Type 0} (D : Type 0) (k : ErrorCode) (end at : ℕ) (read : Result A Fault) (x : A) → read ≡ Ok x → IsMessageBy D k at → FaultOrMessage D k end at read
message_of D k end at (Ok y) x is h = h
message_of D k end at (Err f) x is h = absurd cc

-- ---- the item at the front

pub reported_whole : (allowed : ReadErrorCode → Bool) (levels : ℕ) (s : Input) (e : Error) → ReportsFault allowed (any_item levels) s e → RefusesWhole allowed levels s e
reported_whole allowed levels s e h bs reports = reported_or_excused (ReportsIo allowed) (code_of e) (s.offset + length bs) (offset_of e) (any_item levels (limits s bs) bs) (h bs reports)

pub stopped_whole : (allowed : ReadErrorCode → Bool) (levels : ℕ) (s : Input) (kept : ReadError) (r : Refused) (e : Error) → ReportsWhy allowed (any_item levels) s kept r → IsErrorOf kept r e → RefusesWhole allowed levels s e
stopped_whole allowed levels s kept r e h is = reported_whole allowed levels s e (reported_why allowed (any_item levels) s kept r e is h)

-- no head within all tags
pub unopened_stops : (allowed : ReadErrorCode → Bool) (levels : ℕ) (s : Input) (kept : ReadError) (r : Refused) → ReportsWhy allowed (λ l. opened_at levels) s kept r → ReportsWhy allowed (any_item levels) s kept r
unopened_stops allowed levels s kept r h = why_map allowed (λ l. opened_at levels) (any_item levels) s kept r (λ l bs f is. found_stops l levels bs f is) h

pub unopened_whole : (allowed : ReadErrorCode → Bool) (levels : ℕ) (s : Input) (kept : ReadError) (r : Refused) (e : Error) → ReportsWhy allowed (λ l. opened_at levels) s kept r → IsErrorOf kept r e → RefusesWhole allowed levels s e
unopened_whole allowed levels s kept r e h is = stopped_whole allowed levels s kept r e (unopened_stops allowed levels s kept r h) is

-- no head at the front
pub headless_whole : (allowed : ReadErrorCode → Bool) (levels : ℕ) (s : Input) (kept : ReadError) (r : Refused) (e : Error) → ReportsWhy allowed (λ l. opening_at) s kept r → IsErrorOf kept r e → RefusesWhole allowed levels s e
headless_whole allowed levels s kept r e h is =
    stopped_whole allowed levels s kept r e (why_map allowed (λ l. opening_at) (any_item levels) s kept r (λ l bs f none. head_stops_any l levels bs f none) h) is

pub excused_whole : (allowed : ReadErrorCode → Bool) (levels : ℕ) (s : Input) (e : Error) → ((bs : List ℕ) → Reports s bs → ExcusedBy (ReportsIo allowed) (code_of e) (offset_of e)) → RefusesWhole allowed levels s e
excused_whole allowed levels s e h bs reports = excused_fault (ReportsIo allowed) (code_of e) (s.offset + length bs) (offset_of e) (any_item levels (limits s bs) bs) (h bs reports)

-- a message, where an item is there
pub stands_whole : (allowed : ReadErrorCode → Bool) (levels : ℕ) (s : Input) (e : Error) (text : Option (List ℕ)) → IsMessageOf text (code_of e) → offset_of e ≡ 0 → HasItem levels s → RefusesWhole allowed levels s e
stands_whole allowed levels s e text is none stands bs reports =
    let D = ReportsIo allowed in
    let item = stands bs reports in
    message_of D (code_of e) (s.offset + length bs) (offset_of e) (any_item levels (limits s bs) bs) (item.0, item.1) item.2 (message_by D text (code_of e) (offset_of e) is none)

pub stands_err : {X : Type 0} (allowed : ReadErrorCode → Bool) (levels : ℕ) (s : Input) (r : Result X Error) → IfErr r IsMessage → HasItem levels s → IfErr r (RefusesWhole allowed levels s)
stands_err allowed levels s (Ok x) is stands = tt
stands_err allowed levels s (Err e) is stands = stands_whole allowed levels s e None is.0 is.1 stands

-- ---- what follows a head

module _ (allowed : ReadErrorCode → Bool) (found : HeadAt) where
  abbrev behind : Limits → List ℕ → Reads Val
  behind = behind_any found.levels found.head

  abbrev passes : Limits → List ℕ → Reads (Unit {0})
  passes l bs = passed (behind l bs)

  pub behind_stopped : (s : Input) (kept : ReadError) (r : Refused) (e : Error) → ReportsWhy allowed passes s kept r → IsErrorOf kept r e → RefusesBehind allowed found s e
  behind_stopped s kept r e h is bs reports =
      let l = limits s bs in
      let D = ReportsIo allowed in
      let end = s.offset + length bs in
      let reported = reported_or_excused D (code_of e) end (offset_of e) (passes l bs) (reported_why allowed passes s kept r e is h bs reports) in
      fault_alike D (code_of e) end (offset_of e) (passes l bs) (behind l bs) (passed_made (behind l bs) (λ (v : Val). tt)) reported

  pub behind_message : (s t : Input) (e : Error) (text : Option (List ℕ)) → IsMessageOf text (code_of e) → offset_of e ≡ 0 → Step s t (λ l bs rest. passes l bs ≡ Ok (tt, rest)) → RefusesBehind allowed found s e
  behind_message s t e text is none step bs reports =
      let l = limits s bs in
      let D = ReportsIo allowed in
      let got = step.reported bs reports in
      let item = passed_was (behind l bs) got.rest got.holds in
      message_of D (code_of e) (s.offset + length bs) (offset_of e) (behind l bs) (item.0, got.rest) item.1 (message_by D text (code_of e) (offset_of e) is none)

  pub behind_stood : (s t : Input) → Step s t (λ l bs rest. passes l bs ≡ Ok (tt, rest)) → StandsBehind found s
  behind_stood s t step bs reports =
      let got = step.reported bs reports in
      let item = passed_was (behind (limits s bs) bs) got.rest got.holds in
      (item.0, got.rest, item.1)

  abbrev Follows : ℕ → Limits → List ℕ → List ℕ → Type 0
  Follows levels l bs rest = opened_at levels bs ≡ Ok ((found.levels, found.head), rest)

  -- of the item that the head is of
  pub behind_whole : (levels : ℕ) (s m : Input) (e : Error) → Step s m (Follows levels) → RefusesBehind allowed found m e → RefusesWhole allowed levels s e
  behind_whole levels s m e step h bs reports =
      let one = step.reported bs reports in
      let l = limits s bs in
      let D = ReportsIo allowed in
      let k = code_of e in
      let at = offset_of e in
      let same : limits m one.rest ≡ l = ap₂ (λ (n : ℕ) (r : Option ℕ). record { total = n; room = r }) one.total step.took.room in
      let here = subst (λ (n : ℕ). FaultOrMessage D k n at (behind (limits m one.rest) one.rest)) one.total (h one.rest one.reports) in
      let there = subst (λ (i : Limits). FaultOrMessage D k (s.offset + length bs) at (behind i one.rest)) same here in
      fault_alike D k (s.offset + length bs) at (behind l one.rest) (any_item levels l bs) (sym (found_is l levels found.levels found.head bs one.rest one.holds)) there

  pub behind_stands : (levels : ℕ) (s m t : Input) → Step s m (Follows levels) → Step m t (λ l bs rest. passes l bs ≡ Ok (tt, rest)) → HasItem levels s
  behind_stands levels s m t step next bs reports =
      let l = limits s bs in
      let both = step_then s m t (Follows levels) (λ l bs rest. passes l bs ≡ Ok (tt, rest)) (λ l bs rest. passed (any_item levels l bs) ≡ Ok (tt, rest)) (λ l bs mid rest is was. found_is l levels found.levels found.head bs mid is ∙ was) step next in
      let got = both.reported bs reports in
      let item = passed_was (any_item levels l bs) got.rest got.holds in
      (item.0, got.rest, item.1)

  pub stood_stands : (levels : ℕ) (s m : Input) → Step s m (Follows levels) → StandsBehind found m → HasItem levels s
  stood_stands levels s m step stood bs reports =
      let l = limits s bs in
      let one = step.reported bs reports in
      let item = stood one.rest one.reports in
      let same : limits m one.rest ≡ l = ap₂ (λ (n : ℕ) (r : Option ℕ). record { total = n; room = r }) one.total step.took.room in
      let here = subst (λ (i : Limits). behind i one.rest ≡ Ok (item.0, item.1)) same item.2 in
      let was = passed_was (any_item levels l bs) item.1 (found_is l levels found.levels found.head bs one.rest one.holds ∙ ap (λ (r : Reads Val). passed r) here) in
      (was.0, item.1, was.1)

  pub behind_stops : (levels : ℕ) (s m : Input) (kept : ReadError) (r : Refused) → Step s m (Follows levels) → ReportsWhy allowed passes m kept r → ReportsWhy allowed (any_item levels) s kept r
  behind_stops levels s m kept r step h = why_then allowed passes (any_item levels) s m kept r (Follows levels) (λ l bs mid f is stops. passed_stops (any_item levels l bs) f (found_is l levels found.levels found.head bs mid is ∙ stops)) step h

-- a number is whole with its head
pub number_message : (allowed : ReadErrorCode → Bool) (found : HeadAt) (s : Input) (e : Error) (text : Option (List ℕ)) (n : ℕ) → IsMessageOf text (code_of e) → offset_of e ≡ 0 → (found.head ≡ head.Unsigned n) ⊎ (found.head ≡ head.Negative n) → RefusesBehind allowed found s e
number_message allowed found s e text n is none which bs reports =
    let D = ReportsIo allowed in
    let l = limits s bs in
    let message = message_by D text (code_of e) (offset_of e) is none in
    elim which [
      | inl u ↦ message_of D (code_of e) (s.offset + length bs) (offset_of e) (behind_any found.levels found.head l bs) _ (ap (λ (h : Head). behind_any found.levels h l bs) u) message
      | inr u ↦ message_of D (code_of e) (s.offset + length bs) (offset_of e) (behind_any found.levels found.head l bs) _ (ap (λ (h : Head). behind_any found.levels h l bs) u) message
    ]

-- so is a float
pub float_stands : (allowed : ReadErrorCode → Bool) (found : HeadAt) (levels : ℕ) (s m : Input) (x : Float) → found.head ≡ head.Float x → Step s m (λ l bs rest. opened_at levels bs ≡ Ok ((found.levels, found.head), rest)) → HasItem levels s
float_stands allowed found levels s m x is step =
    stood_stands allowed found levels s m step (λ bs reports. (float_view x, bs, ap (λ (h : Head). behind_any found.levels h (limits m bs) bs) is))

-- ---- what a type's refusal reports

pub passes_reported : (P Q : Type 0) (passes_over total : Bool) → ReportsOf passes_over total P Q → WhereTotal passes_over Q
passes_reported P Q false total h = tt
passes_reported P Q true false h = h
passes_reported P Q true true h = h.1

pub total_reported : (P Q : Type 0) (passes_over total : Bool) → ReportsOf passes_over total P Q → WhereTotal total P
total_reported P Q false total h = h
total_reported P Q true false h = tt
total_reported P Q true true h = h.0

-- of a type that doesn't read every item
only_passes : (P Q : Type 0) (passes_over : Bool) → WhereTotal passes_over Q → ReportsOf passes_over false P Q
only_passes P Q false h = tt
only_passes P Q true h = h

pub reports_map : {P P' Q Q' : Type 0} (passes_over total : Bool) → (P → P') → (Q → Q') → ReportsOf passes_over total P Q → ReportsOf passes_over total P' Q'
reports_map false false f g h = tt
reports_map false true f g h = f h
reports_map true false f g h = g h
reports_map true true f g h = (f h.0, g h.1)

pub reports_both : {P Q : Type 0} (passes_over total : Bool) → P → Q → ReportsOf passes_over total P Q
reports_both false false p q = tt
reports_both false true p q = p
reports_both true false p q = q
reports_both true true p q = (p, q)

module _ (passes_over total : Bool) (allowed : ReadErrorCode → Bool) (f : Formats) (levels : ℕ) (s : Input) (e : Error) where
  abbrev TotalReports : Type 0
  TotalReports = ReportsFault allowed (λ l. item_at (values f l) levels) s e

  pub item_passes : ReportsItem passes_over total allowed f levels s e → WhereTotal passes_over (RefusesWhole allowed levels s e)
  item_passes = passes_reported TotalReports (RefusesWhole allowed levels s e) passes_over total

  pub item_total : ReportsItem passes_over total allowed f levels s e → ReportsItem false total allowed f levels s e
  item_total = total_reported TotalReports (RefusesWhole allowed levels s e) passes_over total

  pub item_only : WhereTotal passes_over (RefusesWhole allowed levels s e) → ReportsItem passes_over false allowed f levels s e
  item_only = only_passes TotalReports (RefusesWhole allowed levels s e) passes_over

pub always : {P : Type 0} (b : Bool) → P → WhereTotal b P
always false p = tt
always true p = p
