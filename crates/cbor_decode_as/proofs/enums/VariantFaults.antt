-- Which fault a refusal of an enum reports, up to its identifier.
use Rattle.std.proofs.Common.{◌≡◌, ◌⊎◌, ◌+◌, ◌∙◌, arith, inl, inr, ℕ, Bool, List, [], length, Option, Some, None, Ok, Err, IfSome, refl, sym, ap, ap₂, subst}
use Rattle.cbor_model.specs.Formats.{Formats, all_formats}
use Rattle.cbor_model.specs.Plain.{Vals}
use Rattle.cbor_model.specs.Refusal.{end_in_array}
use Rattle.cbor_model.specs.Reader.{Fault, Reads, byte_at, ended, items_of, next_at}
use Rattle.cbor_read.specs.Source.{Input}
use Rattle.cbor_io.specs.Error.{code_of, offset_of}
use Rattle.cbor_io.specs.declared.error.Error.{Error}
use Rattle.cbor_io.specs.declared.error.ErrorCode.{ErrorCode}
use Rattle.cbor_io.specs.declared.error.ErrorCode.TheVariants as code
use Rattle.cbor_io.specs.declared.read_error.ReadError.{ReadError}
use Rattle.cbor_io.specs.declared.read_error.ReadErrorCode.{ReadErrorCode}
use Rattle.cbor_io.specs.declared.read_error.ReadErrorCode.TheVariants as reading
use Rattle.cbor_decode.specs.Gives.{IsAt, IsErrorOf, Limits, limits, ReportsIo, Step, Stopped, values}
use Rattle.cbor_decode.specs.Heads.{remaining_of}
use Rattle.cbor_decode.specs.declared.cursor.Remaining.{Remaining}
use Rattle.cbor_decode.specs.declared.head.Head.TheVariants.{Array}
use Rattle.cbor_decode.specs.declared.refusal.Refused.{Refused}
use Rattle.cbor_decode.specs.declared.refusal.Refused.TheVariants as refused
use Rattle.cbor_decode_as.specs.Begins.{Begins, BeginningFault}
use Rattle.cbor_decode_as.specs.BeginsEnum.{FaultOfForm}
use Rattle.cbor_decode_as.specs.Cases.{NoItemHere}
use Rattle.cbor_decode_as.specs.Tags.{passed_at}
use Rattle.cbor_decode_as.specs.Takes.{FaultIfAny, ItemFault, ReportsFault, ReportsIfAny, any_item}
use Rattle.cbor_decode_as.specs.Variants.{HasShape, IsShaped, pair_head_at, unassigned_at}
use Rattle.cbor_decode_as.specs.declared.variant.Shape.{Shape}
use Rattle.cbor_decode_as.specs.declared.variant.Shape.TheVariants as shape
use Rattle.cbor_decode_as.proofs.heads.AnyItems.{array_stops, items_any, next_stops, pair_head_stops, pair_key_stops, part_stops, tagged_stops, tags_stop, unassigned_stops_any}
use Rattle.cbor_decode_as.proofs.heads.BeginningFaults.{kept_code}
use Rattle.cbor_decode_as.proofs.heads.FirstByte.{Front}
use Rattle.cbor_decode_as.proofs.heads.PassedOver.{head_stops_any}
use Rattle.cbor_decode_as.proofs.numbers.Scalars.{reported_by}
use Rattle.cbor_decode_as.proofs.refused.Faults.{fails_if_any, if_any_map, if_any_on, if_any_then, if_told_on, message_says_none, reported_if_any, why_if_any}

-- of no bytes no item is read
nothing_read : (l : Limits) (levels : ℕ) (bs : List ℕ) → bs ≡ [] → any_item levels l bs ≡ Err ended
unfolding byte_at
nothing_read l levels bs none = ap (any_item levels l) none ∙ head_stops_any l levels [] ended refl

module _ (allowed : ReadErrorCode → Bool) (levels : ℕ) (s : Input) (e : Error) where
  -- ---- arrays

  pub array_head_fault : BeginningFault Array allowed levels s e → ItemFault allowed levels s e
  array_head_fault (inl h) = reported_if_any allowed s e (any_item levels) h
  array_head_fault (inr h) = message_says_none allowed s e (any_item levels) h.0

  module _ (a : Input) (left : ℕ) (all : Remaining) (begins : Step s a (λ l bs rest. Begins Array levels left all bs rest)) where
    abbrev items : Limits → List ℕ → Reads Vals
    items l bs = items_any l left (remaining_of all) bs

    -- what its items are refused with is the array's
    pub items_fault : ReportsIfAny allowed items a e → ItemFault allowed levels s e
    items_fault = if_any_then allowed s e a (λ l bs rest. Begins Array levels left all bs rest) items (any_item levels)
        (λ l bs mid f begins stops. array_stops l levels left all bs mid f begins stops) begins

    -- no first item
    pub no_first_fault : ReportsFault allowed (λ l. next_at end_in_array (remaining_of all)) a e ⊎ NoItemHere code.ArrayTooShort all a e → ItemFault allowed levels s e
    no_first_fault (inl h) = items_fault (if_any_map allowed a e (λ l. next_at end_in_array (remaining_of all)) items
        (λ l bs f stops. next_stops (items_of (values all_formats l) (any_item left l)) (remaining_of all) bs f stops) (reported_if_any allowed a e (λ l. next_at end_in_array (remaining_of all)) h))
    no_first_fault (inr none) = λ bs reports.
        subst (λ (k : ErrorCode). FaultIfAny (ReportsIo allowed) k (s.offset + length bs) (offset_of e) (any_item levels (limits s bs) bs)) (sym none.code) tt

    -- the first item
    pub first_fault : (b : Input) (behind : Remaining) → Step a b (λ l bs rest. next_at end_in_array (remaining_of all) bs ≡ Ok (Some (remaining_of behind), rest)) → ItemFault allowed left b e → ItemFault allowed levels s e
    first_fault b behind next h = items_fault (if_any_then allowed a e b (λ l bs rest. next_at end_in_array (remaining_of all) bs ≡ Ok (Some (remaining_of behind), rest)) (any_item left) items
        (λ l bs mid f next stops. part_stops (items_of (values all_formats l) (any_item left l)) (remaining_of all) bs (remaining_of behind) mid f next stops) next h)

  -- ---- the shape

  -- whatever the first byte is
  pub fault_of_form : (x : Shape) → ItemFault allowed levels s e → FaultOfForm x allowed levels s e
  fault_of_form x h bs reports shaped = h bs reports

  -- after a step, where the first byte is of this shape
  form_then : {A : Type 0} (x : Shape) (m : Input) (P : Limits → List ℕ → List ℕ → Type 0) (read : Limits → List ℕ → Reads A) → ((l : Limits) (bs mid : List ℕ) (f : Fault) → HasShape x bs → P l bs mid → read l mid ≡ Err f → any_item levels l bs ≡ Err f)
      → Step s m P → ReportsIfAny allowed read m e → FaultOfForm x allowed levels s e
  form_then x m P read on step h bs reports shaped =
      let one = step.reported bs reports in
      let l = limits s bs in
      let D = ReportsIo allowed in
      let k = code_of e in
      let at = offset_of e in
      let same : limits m one.rest ≡ l = ap₂ (λ (n : ℕ) (r : Option ℕ). record { total = n; room = r }) one.total step.took.room in
      let here = subst (λ (n : ℕ). FaultIfAny D k n at (read (limits m one.rest) one.rest)) one.total (h one.rest one.reports) in
      let there = subst (λ (i : Limits). FaultIfAny D k (s.offset + length bs) at (read i one.rest)) same here in
      if_any_on D k (s.offset + length bs) at (read l one.rest) (any_item levels l bs) (λ f is. on l bs one.rest f shaped one.holds is) there

  -- ---- a map of one pair

  module _ (f : Formats) where
    pub pair_fault : {w : Input} (kept : ReadError) (r : Refused) → IsErrorOf kept r e → Stopped allowed (λ l. pair_head_at f levels) s w kept r → FaultOfForm shape.Map allowed levels s e
    pair_fault kept r made h bs reports shaped =
        let D = ReportsIo allowed in
        let k = code_of e in
        let end = s.offset + length bs in
        let at = offset_of e in
        if_told_on D k end at (pair_head_at f levels bs) (any_item levels (limits s bs) bs)
        (λ d told stops. pair_head_stops (limits s bs) f levels bs d shaped told.0 stops) (fails_if_any D k end at (pair_head_at f levels bs) (reported_by allowed (λ l. pair_head_at f levels) s kept r e made h bs reports))

    pub pair_key_fault : (a : Input) (left : ℕ) → levels ≡ left + 1 → Step s a (λ l bs rest. pair_head_at f levels bs ≡ Ok (tt, rest)) → ItemFault allowed left a e → FaultOfForm shape.Map allowed levels s e
    pair_key_fault a left level = form_then shape.Map a (λ l bs rest. pair_head_at f levels bs ≡ Ok (tt, rest)) (any_item left)
        (λ l bs mid d shaped head stops. pair_key_stops l f levels left bs mid d shaped level head stops)

  -- ---- no item

  pub unassigned_fault : {w : Input} (kept : ReadError) (r : Refused) → IsErrorOf kept r e → Stopped allowed (λ l. unassigned_at) s w kept r → FaultOfForm shape.Unassigned allowed levels s e
  unassigned_fault kept r made h bs reports shaped =
      let D = ReportsIo allowed in
      let k = code_of e in
      let end = s.offset + length bs in
      let at = offset_of e in
      if_any_on D k end at (unassigned_at bs) (any_item levels (limits s bs) bs)
      (λ d stops. unassigned_stops_any (limits s bs) levels bs d shaped stops) (fails_if_any D k end at (unassigned_at bs) (reported_by allowed (λ l. unassigned_at) s kept r e made h bs reports))

  -- ---- nothing

  pub nothing_fault : (o : Option ℕ) (at : ℕ) (kept : ReadError) (r : Refused) → o ≡ None → Front s o → at ≡ s.offset → r ≡ refused.Kept → IsAt reading.EofWhileParsingValue at kept → IsErrorOf kept r e → ItemFault allowed levels s e
  nothing_fault o at kept r none front here is keeps made bs reports =
      let told = kept_code kept r e reading.EofWhileParsingValue at is keeps made in
      let empty = subst (λ (o : Option (List ℕ)). IfSome o (λ bs. bs ≡ [])) reports.is (subst (Front s) none front) in
      let end : offset_of e + 0 ≡ s.offset + length bs = omega (arith, told.1, here, ap length empty) in
      subst (λ (k : ErrorCode). FaultIfAny (ReportsIo allowed) k (s.offset + length bs) (offset_of e) (any_item levels (limits s bs) bs)) (sym told.0) (0, end, nothing_read (limits s bs) levels bs empty)

  -- ---- the whole enum

  -- nothing was taken before its form
  pub shaped_fault : (x : Shape) (a : Input) → Step s a (λ l bs rest. IsShaped x bs rest) → FaultOfForm x allowed levels a e → ItemFault allowed levels s e
  shaped_fault x a shaped h bs reports =
      let one = shaped.reported bs reports in
      let D = ReportsIo allowed in
      let k = code_of e in
      let at = offset_of e in
      let same : limits a one.rest ≡ limits s bs = ap₂ (λ (n : ℕ) (r : Option ℕ). record { total = n; room = r }) one.total shaped.took.room in
      let there = h one.rest one.reports (subst (HasShape x) (sym one.holds.1) one.holds.0) in
      let here = subst (λ (n : ℕ). FaultIfAny D k n at (any_item levels (limits a one.rest) one.rest)) one.total there in
      let now = subst (λ (i : Limits). FaultIfAny D k (s.offset + length bs) at (any_item levels i one.rest)) same here in
      subst (λ (from : List ℕ). FaultIfAny D k (s.offset + length bs) at (any_item levels (limits s bs) from)) one.holds.1 now

  -- its tags
  pub tags_fault : {w : Input} (kept : ReadError) (r : Refused) → IsErrorOf kept r e → Stopped allowed (λ l. passed_at levels) s w kept r → ItemFault allowed levels s e
  tags_fault kept r made h = if_any_map allowed s e (λ l. passed_at levels) (any_item levels) (λ l bs d stops. tags_stop l levels bs d stops) (why_if_any allowed s e (λ l. passed_at levels) kept r made h.reported)

  pub tagged_fault : (a : Input) (left : ℕ) → Step s a (λ l bs rest. passed_at levels bs ≡ Ok (left, rest)) → ItemFault allowed left a e → ItemFault allowed levels s e
  tagged_fault a left tags = if_any_then allowed s e a (λ l bs rest. passed_at levels bs ≡ Ok (left, rest)) (any_item left) (any_item levels)
      (λ l bs mid d tags stops. tagged_stops l levels left bs mid d tags stops) tags
