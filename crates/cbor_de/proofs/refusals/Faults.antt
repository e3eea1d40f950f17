-- The fault that an error reports, where a type reads every item.
use Rattle.std.proofs.Common.{inl, inr, ◌≡◌, ◌+◌, ℕ, Bool, true, false, List, length, Result, Ok, Err, IfErr, refl, sym, ap, subst, ◌∙◌, arith}
use Rattle.std.specs.Prelude.{⊤}
use Rattle.cbor_model.specs.Formats.{Formats, all_formats}
use Rattle.cbor_model.specs.Raw.{Raw}
use Rattle.cbor_model.specs.Acceptable.{max_depth}
use Rattle.cbor_model.specs.Plain.{Val}
use Rattle.cbor_model.specs.Value.{value}
use Rattle.cbor_model.specs.Reader.{Fault, Reads, item_at, read_value_in}
use Rattle.cbor_model.proofs.facts.Reader.{ok_is}
pub use Rattle.cbor_decode.proofs.facts.Steps.{end_reported}
use Rattle.cbor_read.specs.Source.{Input}
use Rattle.cbor_io.specs.Error.{code_of, offset_of}
use Rattle.cbor_io.specs.declared.error.Error.{Error}
use Rattle.cbor_io.specs.declared.error.ErrorCode.{ErrorCode}
use Rattle.cbor_io.specs.declared.error.ErrorCode.TheVariants as code
use Rattle.cbor_io.specs.declared.read_error.ReadError.{ReadError}
use Rattle.cbor_io.specs.declared.read_error.ReadErrorCode.{ReadErrorCode}
use Rattle.cbor_value.specs.View.{view}
use Rattle.cbor_value.specs.declared.Value.{Value}
use Rattle.cbor_decode.specs.Gives.{limits, values, Reports, Step, Stopped, ReportsIo, Ends, FailsBy, Fails, FailsOrFaults, IsErrorOf, end_at, whole_at}
use Rattle.cbor_decode.specs.declared.refusal.Refused.{Refused}
use Rattle.cbor_decode.specs.Heads.{passed}
use Rattle.cbor_decode.proofs.facts.Steps.{step_map, stopped_map, passed_on, fault_in, passed_was, passed_stops}
use Rattle.cbor_decode_as.specs.Takes.{raws, IsRead, IsNotRead, Refuses, ReportsItem, WhereTotal, ReportsFault}
use Rattle.cbor_de.specs.Whole.{RefusesAll, ReportsWhole}
use Rattle.cbor_decode_as.proofs.facts.Refusals.{refuses, reports_both, reports_map, total_reported}
use Rattle.cbor_decode.proofs.facts.Readings.{along, value_seen}

pub where_map : {P Q : Type 0} (total : Bool) → (P → Q) → WhereTotal total P → WhereTotal total Q
where_map false f h = tt
where_map true f h = f h

-- ---- an item, and then the end

module _ (allowed : ReadErrorCode → Bool) (f : Formats) (levels : ℕ) (s : Input) (e : Error) where
  pub item_whole : {A : Type 0} (passes_over total : Bool) (reads : Raw → A → Type 0) (t : Input) → Refuses allowed s t (code_of e) (offset_of e) (λ l bs. IsNotRead reads (item_at (raws f l) levels bs)) → ReportsItem passes_over total allowed f levels s e → ReportsWhole passes_over total allowed f reads levels s e
  item_whole passes_over total reads t none = reports_map passes_over total (λ h bs reports.
      let l = limits s bs in
      passed_on (ReportsIo allowed) (code_of e) (s.offset + length bs) (offset_of e) (item_at (values f l) levels bs) (whole_at f levels l bs) (λ d is. rw is refl) (h bs reports))
      (λ h bs reports. inl (h bs reports, none.reported bs reports))

  reports_end : {A : Type 0} (reads : Raw → A → Type 0) (t : Input) (x : A) → Step s t (λ l bs rest. IsRead reads (item_at (raws f l) levels bs) x rest) → Ends allowed t (Err e) → ReportsFault allowed (whole_at f levels) s e
  reports_end reads t x step ends bs reports =
      let D = ReportsIo allowed in
      let l = limits s bs in
      let got = step.reported bs reports in
      let is : item_at (values f l) levels bs ≡ Ok (value got.holds.item, got.rest) = value_seen f l levels bs ∙ ap (along value) got.holds.is in
      let end = subst (λ (n : ℕ). FailsBy D (code_of e) n (offset_of e) (end_at got.rest)) got.total (ends got.rest got.reports) in
      passed_on D (code_of e) (s.offset + length bs) (offset_of e) (end_at got.rest) (whole_at f levels l bs) (λ d stops. rw (is, stops) refl) end

  pub end_whole : {A : Type 0} (passes_over total : Bool) (reads : Raw → A → Type 0) (t : Input) (x : A) → Step s t (λ l bs rest. IsRead reads (item_at (raws f l) levels bs) x rest) → Ends allowed t (Err e) → ReportsWhole passes_over total allowed f reads levels s e
  end_whole passes_over total reads t x step ends = reports_both passes_over total (reports_end reads t x step ends)
      (λ bs reports.
      let got = step.reported bs reports in
      inr (reports_end reads t x step ends bs reports, record { value = x; rest = got.rest; is = got.holds }))

-- ---- all of an input

-- an error that reports a fault reports it where devices have more faults
pub fails_map : {A : Type 0} (D E : Type 0) → (D → E) → (k : ErrorCode) (end at : ℕ) (r : Result A Fault) → FailsBy D k end at r → FailsBy E k end at r
fails_map D E g (code.Message m) end at r h = absurd h
fails_map D E g (code.Io e) end at r h = (g h.0, h.1)
fails_map D E g code.ScratchTooSmall end at r h = h
fails_map D E g code.EofWhileParsingValue end at r h = h
fails_map D E g code.EofWhileParsingArray end at r h = h
fails_map D E g code.EofWhileParsingMap end at r h = h
fails_map D E g code.LengthOutOfRange end at r h = h
fails_map D E g code.InvalidUtf8 end at r h = h
fails_map D E g code.UnassignedCode end at r h = h
fails_map D E g code.UnexpectedCode end at r h = h
fails_map D E g code.TrailingData end at r h = h
fails_map D E g code.ArrayTooShort end at r h = absurd h
fails_map D E g code.ArrayTooLong end at r h = absurd h
fails_map D E g code.RecursionLimitExceeded end at r h = h
fails_map D E g code.WrongEnumFormat end at r h = absurd h
fails_map D E g code.WrongStructFormat end at r h = h
fails_map D E g code.NotCanonical end at r h = absurd h
fails_map D E g code.OutOfMemory end at r h = h

-- what the reading of an input that begins at 0 meets, the reading of its bytes meets
pub of_bytes : (allowed : ReadErrorCode → Bool) (s : Input) (bs : List ℕ) (e : Error) → s.offset ≡ 0 → FailsBy (ReportsIo allowed) (code_of e) (s.offset + length bs) (offset_of e) (whole_at all_formats max_depth (limits s bs) bs) → FailsBy (ReportsIo allowed) (code_of e) (length bs) (offset_of e) (read_value_in s.room bs)
of_bytes allowed s bs e zero h =
    let whole = whole_at all_formats max_depth (limits s bs) bs in
    let all = subst (λ (n : ℕ). FailsBy (ReportsIo allowed) (code_of e) n (offset_of e) whole) (omega (arith, zero)) h in
    passed_on (ReportsIo allowed) (code_of e) (length bs) (offset_of e) whole (read_value_in s.room bs) (λ d is. fault_in s bs zero d is) all

module _ {T : Type 0} (passes_over total : Bool) (allowed : ReadErrorCode → Bool) (reads : Raw → T → Type 0) (s : Input) (bs : List ℕ) (reports : Reports s bs) (zero : s.offset ≡ 0) where
  reported : (E : Type 0) → (ReportsIo allowed → E) → (e : Error) → ReportsWhole passes_over total allowed all_formats reads max_depth s e → WhereTotal total (FailsBy E (code_of e) (length bs) (offset_of e) (read_value_in s.room bs))
  reported E g e whole = where_map total (λ h.
      fails_map (ReportsIo allowed) E g (code_of e) (length bs) (offset_of e) (read_value_in s.room bs) (of_bytes allowed s bs e zero (h bs reports)))
      (total_reported (ReportsFault allowed (whole_at all_formats max_depth) s e) (RefusesAll allowed all_formats reads max_depth s e) passes_over total whole)

  pub fails : {A : Type 0} → (ReportsIo allowed → ⊥) → (r : Result A Error) → IfErr r (ReportsWhole passes_over total allowed all_formats reads max_depth s) → IfErr r (λ e. WhereTotal total (Fails (length bs) e (read_value_in s.room bs)))
  fails none (Ok x) h = tt
  fails none (Err e) h = reported ⊥ none e h

  pub fails_or_faults : {A : Type 0} (r : Result A Error) → IfErr r (ReportsWhole passes_over total allowed all_formats reads max_depth s) → IfErr r (λ e. WhereTotal total (FailsOrFaults (length bs) e (read_value_in s.room bs)))
  fails_or_faults (Ok x) h = tt
  fails_or_faults (Err e) h = reported ⊤ (λ d. tt) e h

-- ---- values

-- what is read as a value is the value of a raw item
pub record Seen (read : Reads Raw) (v : Val) (rest : List ℕ) : Type 0 where
  pub item : Raw
  pub is : read ≡ Ok (item, rest)
  pub valued : v ≡ value item

pub seen_of : (read : Reads Raw) (v : Val) (rest : List ℕ) → along value read ≡ Ok (v, rest) → Seen read v rest
seen_of (Ok x) v rest is =
    let both = ok_is (value x.0, x.1) (v, rest) is in
    record { item = x.0; is = ap (λ (p : Val × List ℕ). Ok (x.0, p.1)) both; valued = sym (ap (λ (p : Val × List ℕ). p.0) both) }
seen_of (Err d) v rest is = absurd cc

pub fault_of : (read : Reads Raw) (d : Fault) → along value read ≡ Err d → read ≡ Err d
fault_of (Ok x) d is = absurd cc
fault_of (Err g) d is = cc

-- any item is read as its value
abbrev pub AsValue : Raw → Value → Type 0
AsValue r v = view v ≡ value r

module _ (allowed : ReadErrorCode → Bool) (f : Formats) (levels : ℕ) (s : Input) where
  pub value_taken : (t : Input) (v : Value) → Step s t (λ l bs rest. item_at (values f l) levels bs ≡ Ok (view v, rest)) → Step s t (λ l bs rest. IsRead AsValue (item_at (raws f l) levels bs) v rest)
  value_taken t v step = step_map s t (λ l bs rest. item_at (values f l) levels bs ≡ Ok (view v, rest)) (λ l bs rest. IsRead AsValue (item_at (raws f l) levels bs) v rest)
      (λ l bs rest is.
      let w = seen_of (item_at (raws f l) levels bs) (view v) rest (sym (value_seen f l levels bs) ∙ is) in
      record { item = w.item; is = w.is; means = w.valued }) step

  pub value_refused : {A : Type 0} {w : Input} (reads : Raw → A → Type 0) (kept : ReadError) (r : Refused) (e : Error) → IsErrorOf kept r e → Stopped allowed (λ l. item_at (values f l) levels) s w kept r
      → Refuses allowed s w (code_of e) (offset_of e) (λ l bs. IsNotRead reads (item_at (raws f l) levels bs))
  value_refused reads kept r e is stops =
      refuses allowed reads (λ l. item_at (raws f l) levels) s kept r e is
      (stopped_map allowed (λ l. item_at (values f l) levels) (λ l. item_at (raws f l) levels) s kept r
      (λ l bs d at. fault_of (item_at (raws f l) levels bs) d (sym (value_seen f l levels bs) ∙ at)) stops)

  -- ---- items of which nothing is kept

  pub any_passed : {A : Type 0} (x : A) (t : Input) → Step s t (λ l bs rest. passed (item_at (values f l) levels bs) ≡ Ok (tt, rest)) → Step s t (λ l bs rest. IsRead (λ r y. ⊤) (item_at (raws f l) levels bs) x rest)
  any_passed x t step = step_map s t (λ l bs rest. passed (item_at (values f l) levels bs) ≡ Ok (tt, rest)) (λ l bs rest. IsRead (λ r y. ⊤) (item_at (raws f l) levels bs) x rest)
      (λ l bs rest is.
      let v = passed_was (item_at (values f l) levels bs) rest is in
      let w = seen_of (item_at (raws f l) levels bs) v.0 rest (sym (value_seen f l levels bs) ∙ v.1) in
      record { item = w.item; is = w.is; means = tt }) step

  -- what stops passing over an item stops reading it
  pub any_stops : {w : Input} (kept : ReadError) (r : Refused) → Stopped allowed (λ l bs. passed (item_at (values f l) levels bs)) s w kept r → Stopped allowed (λ l. item_at (values f l) levels) s w kept r
  any_stops kept r = stopped_map allowed (λ l bs. passed (item_at (values f l) levels bs)) (λ l. item_at (values f l) levels) s kept r (λ l bs d is. passed_stops (item_at (values f l) levels bs) d is)
