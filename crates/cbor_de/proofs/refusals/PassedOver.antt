-- The refusal of a type that passes over an item that it doesn't read, by the definitions.
use Rattle.std.proofs.Common.{inl, inr, ◌⊎◌, ◌≡◌, ◌∙◌, ◌+◌, ℕ, Bool, List, length, None, Result, Ok, Err, IfErr, refl, sym, ap, subst, arith}
use Rattle.std.specs.Prelude.{⊤}
use Rattle.cbor_model.specs.Acceptable.{max_depth}
use Rattle.cbor_model.specs.Allowed.{limits_of}
use Rattle.cbor_model.specs.Formats.{all_formats}
use Rattle.cbor_model.specs.Plain.{Val}
use Rattle.cbor_model.specs.Raw.{Raw, AreBytes}
use Rattle.cbor_model.specs.Reader.{Fault, Reads, item_at, read_value_in}
use Rattle.cbor_model.specs.Value.{value}
use Rattle.cbor_model.proofs.facts.Reader.{ok_is, item_found, item_fits, item_again, all_allowed}
use Rattle.cbor_io.specs.declared.error.Error.{Error}
use Rattle.cbor_io.specs.declared.error.ErrorCode.{ErrorCode}
use Rattle.cbor_io.specs.declared.error.ErrorCode.TheVariants as code
use Rattle.cbor_io.specs.declared.read_error.ReadErrorCode.{ReadErrorCode}
use Rattle.cbor_io.specs.Error.{code_of, offset_of, IsMessageOf, IsOutOfMemory}
use Rattle.cbor_read.specs.Source.{Input}
use Rattle.cbor_decode.specs.FirstRefusal.{ReportsFirst}
use Rattle.cbor_decode.specs.Gives.{FailsBy, IsMemoryOrFault, ReportsIo, Reports, limits, whole_at}
use Rattle.cbor_decode.proofs.facts.FirstRefusal.{first_or_memory, first_or_fault}
use Rattle.cbor_decode.proofs.facts.Readings.{along, value_seen}
use Rattle.cbor_decode_as.specs.Takes.{raws, any_item, ExcusedBy, FaultOrMessage, IsMessage, IsMessageBy, IsNotRead, ReportsFault, WhereTotal}
use Rattle.cbor_decode_as.proofs.facts.Refusals.{passes_reported}
use Rattle.cbor_de.specs.Whole.{BeginsUnread, IsSomeRead, RefusesAll, RefusesUnread, ReportsWhole}
use Rattle.cbor_de.proofs.refusals.Faults.{fails_map, of_bytes, seen_of, where_map}
use Rattle.cbor_de.proofs.inputs.Inputs.{excused_memory, memory_or_fault}

-- a message, or what excuses any refusal
data Excuse (D : Type 0) (e : Error) : Type 0 where
  excuse : ExcusedBy D (code_of e) (offset_of e) → Excuse D e
  message : IsMessage e → (ExcusedBy D (code_of e) (offset_of e) → ⊥) → Excuse D e

excuse_of : (D : Type 0) (e : Error) (k : ErrorCode) → code_of e ≡ k → IsMessageBy D k (offset_of e) → Excuse D e
excuse_of D e (code.Message m) is h = message (subst (IsMessageOf None) (sym is) tt, h) (λ x. subst (λ (k : ErrorCode). ExcusedBy D k (offset_of e)) is x)
excuse_of D e (code.Io f) is h = excuse (subst (λ (k : ErrorCode). ExcusedBy D k (offset_of e)) (sym is) h)
excuse_of D e code.OutOfMemory is h = excuse (subst (λ (k : ErrorCode). ExcusedBy D k (offset_of e)) (sym is) h)
excuse_of D e _ is h = absurd h

module _ {T : Type 0} (allowed : ReadErrorCode → Bool) (reads : Raw → T → Type 0) (s : Input) (bs : List ℕ) (reports : Reports s bs) (zero : s.offset ≡ 0) (fits : AreBytes bs) where
  abbrev front : Reads Raw
  front = item_at (raws all_formats (limits s bs)) max_depth bs

  -- an item that isn't read stands at the front
  begins_unread : (v : Val) (rest : List ℕ) → any_item max_depth (limits s bs) bs ≡ Ok (v, rest) → IsNotRead reads front → BeginsUnread reads s.room bs
  begins_unread v rest is none =
      let l = limits s bs in
      let seen = seen_of front v rest (sym (value_seen all_formats l max_depth bs) ∙ is) in
      record {
        item = seen.item;
        rest = rest;
        begins = (item_found all_formats l.total l.room max_depth bs rest seen.item fits seen.is).0;
        joins = item_fits all_formats l.total l.room max_depth bs rest seen.item fits seen.is;
        unread = λ x means. none x rest (record { item = seen.item; is = seen.is; means = means });
      }

  -- and then the reference reader reads it
  front_is : (u : BeginsUnread reads s.room bs) → front ≡ Ok (u.item, u.rest)
  front_is u =
      let l = limits s bs in
      item_again all_formats l.total l.room max_depth bs u.rest u.item reports.short (omega (arith, zero)) u.joins u.begins (all_allowed u.item)

  none_at_fault : (f : Fault) → any_item max_depth (limits s bs) bs ≡ Err f → BeginsUnread reads s.room bs → ⊥
  none_at_fault f is u =
      let both : ◌≡◌ {A = Reads Val} (Err f) (along value (Ok (u.item, u.rest))) = sym is ∙ value_seen all_formats (limits s bs) max_depth bs ∙ ap (along value) (front_is u) in
      absurd cc

  none_if_read : IsSomeRead reads front → BeginsUnread reads s.room bs → ⊥
  none_if_read some u =
      let both = ok_is (some.is.item, some.rest) (u.item, u.rest) (sym some.is.is ∙ front_is u) in
      u.unread some.value (subst (λ (r : Raw). reads r some.value) (ap (λ (p : Raw × List ℕ). p.0) both) some.is.means)

  -- ---- one refusal, where M stands for what excuses it
  module _ (e : Error) (M : Type 0) (excused : ExcusedBy (ReportsIo allowed) (code_of e) (offset_of e) → M) (split : FailsBy (ReportsIo allowed) (code_of e) (length bs) (offset_of e) (read_value_in s.room bs) → M ⊎ ReportsFirst (limits_of s.room) bs e) where
    first_unless : (BeginsUnread reads s.room bs → ⊥) → FailsBy (ReportsIo allowed) (code_of e) (s.offset + length bs) (offset_of e) (whole_at all_formats max_depth (limits s bs) bs) → M ⊎ RefusesUnread reads s.room bs e
    first_unless none h = elim (split (of_bytes allowed s bs e zero h)) [
      | inl m ↦ inl m
      | inr first ↦ inr (inr (first, none))
    ]

    at_item : (v : Val) (rest : List ℕ) → any_item max_depth (limits s bs) bs ≡ Ok (v, rest) → Excuse (ReportsIo allowed) e → ExcusedBy (ReportsIo allowed) (code_of e) (offset_of e) ⊎ IsNotRead reads front → M ⊎ RefusesUnread reads s.room bs e
    at_item v rest is (excuse x) h = inl (excused x)
    at_item v rest is (message m other) (inl x) = absurd (other x)
    at_item v rest is (message m other) (inr none) = inr (inl (m, begins_unread v rest is none))

    at_front : (read : Reads Val) → any_item max_depth (limits s bs) bs ≡ read → FaultOrMessage (ReportsIo allowed) (code_of e) (s.offset + length bs) (offset_of e) read → ExcusedBy (ReportsIo allowed) (code_of e) (offset_of e) ⊎ IsNotRead reads front → M ⊎ RefusesUnread reads s.room bs e
    at_front (Ok x) is h none = at_item x.0 x.1 is (excuse_of (ReportsIo allowed) e (code_of e) refl h) none
    at_front (Err f) is h none =
        let D = ReportsIo allowed in
        let l = limits s bs in
        let whole : whole_at all_formats max_depth l bs ≡ Err f = rw is refl in
        first_unless (none_at_fault f is) (subst (FailsBy D (code_of e) (s.offset + length bs) (offset_of e)) (sym whole) h)

    pub reported : RefusesAll allowed all_formats reads max_depth s e → M ⊎ RefusesUnread reads s.room bs e
    reported h = elim (h bs reports) [
      | inl item ↦ at_front (any_item max_depth (limits s bs) bs) refl item.0 item.1
      | inr all ↦ first_unless (none_if_read all.1) all.0
    ]

module _ {T : Type 0} (passes_over total : Bool) (allowed : ReadErrorCode → Bool) (reads : Raw → T → Type 0) (s : Input) (bs : List ℕ) (reports : Reports s bs) (zero : s.offset ≡ 0) (fits : AreBytes bs) where
  pub passed_over : {A : Type 0} → (ReportsIo allowed → ⊥) → (r : Result A Error) → IfErr r (ReportsWhole passes_over total allowed all_formats reads max_depth s) → IfErr r (λ e. WhereTotal passes_over (IsOutOfMemory e ⊎ RefusesUnread reads s.room bs e))
  passed_over none (Ok x) h = tt
  passed_over none (Err e) h = where_map passes_over
      (reported allowed reads s bs reports zero fits e (IsOutOfMemory e) (excused_memory allowed all_formats reads s bs reports zero fits (ReportsIo allowed) none (code_of e) (offset_of e))
      (λ fails. first_or_memory s.room bs fits e (fails_map (ReportsIo allowed) ⊥ none (code_of e) (length bs) (offset_of e) (read_value_in s.room bs) fails)))
      (passes_reported (ReportsFault allowed (whole_at all_formats max_depth) s e) (RefusesAll allowed all_formats reads max_depth s e) passes_over total h)

  -- the same of a reader, which can report a fault
  pub passed_over_by_reader : {A : Type 0} (r : Result A Error) → IfErr r (ReportsWhole passes_over total allowed all_formats reads max_depth s) → IfErr r (λ e. WhereTotal passes_over (IsMemoryOrFault e ⊎ RefusesUnread reads s.room bs e))
  passed_over_by_reader (Ok x) h = tt
  passed_over_by_reader (Err e) h = where_map passes_over
      (reported allowed reads s bs reports zero fits e (IsMemoryOrFault e) (memory_or_fault allowed all_formats reads s bs reports zero fits (ReportsIo allowed) (code_of e) (offset_of e))
      (λ fails. first_or_fault s.room bs fits e (fails_map (ReportsIo allowed) ⊤ (λ d. tt) (code_of e) (length bs) (offset_of e) (read_value_in s.room bs) fails)))
      (passes_reported (ReportsFault allowed (whole_at all_formats max_depth) s e) (RefusesAll allowed all_formats reads max_depth s e) passes_over total h)
