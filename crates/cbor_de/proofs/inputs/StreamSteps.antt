-- One call of a stream: a look at the next byte, and the item after it.
use Rattle.std.proofs.Common.{◌≡◌, ◌≢◌, ◌∙◌, inl, inr, ◌+◌, ℕ, Bool, true, false, List, [], ◌∷◌, length, take, Option, Some, Ok, Err, IfSome, MatchOption, sym, ap, ap₂, subst}
use Rattle.cbor_model.specs.Formats.{Formats}
use Rattle.cbor_model.specs.Plain.{Val}
use Rattle.cbor_model.specs.Raw.{Raw}
use Rattle.cbor_model.specs.Reader.{Reads, item_at}
use Rattle.cbor_io.specs.declared.error.Error.{Error}
use Rattle.cbor_io.specs.declared.error.ErrorCode.{ErrorCode}
use Rattle.cbor_io.specs.declared.read_error.ReadError.{ReadError}
use Rattle.cbor_io.specs.declared.read_error.ReadErrorCode.{ReadErrorCode}
use Rattle.cbor_io.specs.Error.{code_of, offset_of}
use Rattle.cbor_io.specs.ReadError.{why, place, error_code}
use Rattle.cbor_read.specs.Source.{Input, Stays, RefusedByte}
use Rattle.cbor_decode.specs.Gives.{Limits, limits, Reports, Step, ReportsIo, FailsBy, values}
use Rattle.cbor_decode.proofs.facts.Steps.{some_then, took_stays, step_then, none_step, byte_refused}
use Rattle.cbor_decode_as.specs.Takes.{raws, IsRead, IsNotRead, ExcusedBy, Refuses, TakesItem, ReportsItem, ReportsFault}
use Rattle.cbor_de.proofs.refusals.Faults.{where_map}
use Rattle.cbor_decode_as.proofs.facts.Refusals.{excused_or}

module _ (refusals : ReadErrorCode → Bool) where
  abbrev Device : Type 0
  Device = ReportsIo refusals

  -- ---- a look

  same_there : (s m : Input) (bs rest : List ℕ) → m.room ≡ s.room → m.offset + length rest ≡ s.offset + length bs → limits m rest ≡ limits s bs
  same_there s m bs rest room total = ap₂ (λ (n : ℕ) (r : Option ℕ). record { total = n; room = r }) total room

  stayed : (s m : Input) → Stays s m → Step s m (λ l bs rest. bs ≡ rest)
  stayed s m h = none_step s m h.bytes h.count h.room

  -- what is reported after a look is reported before it
  reported_before : {A : Type 0} (read : Limits → List ℕ → Reads A) (s m : Input) (e : Error) → Stays s m → ReportsFault refusals read m e → ReportsFault refusals read s e
  reported_before read s m e h reports bs is =
      let one = (stayed s m h).reported bs is in
      let fails = reports one.rest one.reports in
      let k = code_of e in
      let at = offset_of e in
      let here = subst (λ (n : ℕ). FailsBy Device k n at (read (limits m one.rest) one.rest)) one.total fails in
      let within = subst (λ (l : Limits). FailsBy Device k (s.offset + length bs) at (read l one.rest)) (same_there s m bs one.rest h.room one.total) here in
      subst (λ (x : List ℕ). FailsBy Device k (s.offset + length bs) at (read (limits s bs) x)) (sym one.holds) within

  pub fault_before : (total : Bool) (f : Formats) (levels : ℕ) (s m : Input) (e : Error) → Stays s m → ReportsItem false total refusals f levels m e → ReportsItem false total refusals f levels s e
  fault_before total f levels s m e h = where_map total (reported_before (λ l. item_at (values f l) levels) s m e h)

  -- what a look that saw a byte reports
  abbrev pub Front : Input → Option ℕ → Type 0
  Front s o = MatchOption o (IfSome s.to_come (λ bs. bs ≡ [])) (λ b. IfSome s.to_come (λ bs. take 1 bs ≡ b ∷ []))

  pub front_is : (s : Input) (o : Option ℕ) (b : ℕ) → o ≡ Some b → Front s o → IfSome s.to_come (λ bs. take 1 bs ≡ b ∷ [])
  front_is s o b is h = subst (Front s) is h

  -- a byte that was seen is there
  seen : (s : Input) (b : ℕ) (bs : List ℕ) → Reports s bs → IfSome s.to_come (λ bs. take 1 bs ≡ b ∷ []) → bs ≢ []
  seen s b bs reports front none =
      let first : take 1 bs ≡ b ∷ [] = subst (λ (o : Option (List ℕ)). IfSome o (λ bs. take 1 bs ≡ b ∷ [])) reports.is front in
      let empty : [] ≡ b ∷ [] = sym (ap (take 1) none) ∙ first in
      absurd cc

  module _ {A : Type 0} (f : Formats) (reads : Raw → A → Type 0) (levels : ℕ) where
    abbrev Is : A → Limits → List ℕ → List ℕ → Type 0
    Is x l bs rest = IsRead reads (item_at (raws f l) levels bs) x rest

    abbrev IsNot : Limits → List ℕ → Type 0
    IsNot l bs = IsNotRead reads (item_at (raws f l) levels bs)

    -- an item after a look
    pub item_before : (s m t : Input) (x : A) → Stays s m → TakesItem refusals f reads levels m t (Ok x) → TakesItem refusals f reads levels s t (Ok x)
    item_before s m t x h taken = step_then s m t (λ l bs rest. bs ≡ rest) (Is x) (Is x) (λ l bs mid rest same is. subst (λ (y : List ℕ). Is x l y rest) (sym same) is) (stayed s m h) taken

    -- none after it
    pub none_before : (s m t : Input) (e : Error) (b : ℕ) → Stays s m → IfSome s.to_come (λ bs. take 1 bs ≡ b ∷ []) → TakesItem refusals f reads levels m t (Err e) → Refuses refusals s t (code_of e) (offset_of e) (λ l bs. (bs ≢ []) × IsNot l bs)
    none_before s m t e b h front refused = record {
      took = some_then s m t (took_stays s m h) refused.took;
      reported = λ bs reports.
          let one = (stayed s m h).reported bs reports in
          elim (refused.reported one.rest one.reports) [
            | inl x ↦ inl x
            | inr none ↦ inr (
              seen s b bs reports front,
              subst (λ (x : List ℕ). IsNot (limits s bs) x) (sym one.holds) (subst (λ (l : Limits). IsNot l one.rest) (same_there s m bs one.rest h.room one.total) none),
            )
          ];
    }

  -- ---- a look that was refused

  -- it is excused
  pub look_excused : (s m : Input) (q : ReadError) (e : Error) (N : Limits → List ℕ → Type 0) → code_of e ≡ error_code (why q) → offset_of e ≡ place q → RefusedByte refusals s m q → Refuses refusals s m (code_of e) (offset_of e) N
  look_excused s m q e N code at h = record {
    took = h.refused.moved;
    reported = λ bs reports.
        let read : Limits → List ℕ → Reads (Unit {0}) = λ l x. Ok (tt, x) in
        let fails = (byte_refused refusals s m q read h).reported bs reports in
        let k = error_code (why q) in
        let by : ExcusedBy Device k (place q) = elim (excused_or Device k (s.offset + length bs) (place q) (Ok (tt, bs)) fails) [
          | inl x ↦ x
          | inr x ↦ let wrong = x.1 in absurd cc
        ] in
        inl (subst (λ (c : ErrorCode). ExcusedBy Device c (offset_of e)) (sym code) (subst (λ (n : ℕ). ExcusedBy Device k n) (sym at) by));
  }

  pub look_fault : (total : Bool) (f : Formats) (levels : ℕ) (s m : Input) (q : ReadError) (e : Error) → code_of e ≡ error_code (why q) → offset_of e ≡ place q → RefusedByte refusals s m q → ReportsItem false total refusals f levels s e
  look_fault false f levels s m q e code at h = tt
  look_fault true f levels s m q e code at h = λ bs reports.
      let read : Limits → List ℕ → Reads Val = λ l. item_at (values f l) levels in
      let fails = (byte_refused refusals s m q read h).reported bs reports in
      let n = s.offset + length bs in
      let r = read (limits s bs) bs in
      subst (λ (c : ErrorCode). FailsBy Device c n (offset_of e) r) (sym code) (subst (λ (o : ℕ). FailsBy Device (error_code (why q)) n o r) (sym at) fails)
