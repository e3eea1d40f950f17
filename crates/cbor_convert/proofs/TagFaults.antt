-- The fault that is reported of an item with its outermost tag, whatever formats its keys are of.
use Rattle.std.proofs.Common.{◌≡◌, ◌∙◌, ◌+◌, ◌%◌, ℕ, zero, suc, Bool, true, false, cond, List, [], ◌∷◌, Option, Some, None, Ok, Err, refl, sym, ap, ap₂, arith}
use Rattle.cbor_model.specs.Formats.{all_formats}
use Rattle.cbor_model.specs.Head.{HeadWidth}
use Rattle.cbor_model.specs.Reader.{Fault, Reads, Reading, ◌>>=◌, number_behind, width_of, item_at, inside, tag_at}
use Rattle.cbor_model.proofs.facts.Reader.{ok_is}
use Rattle.cbor_io.specs.declared.error.Error.{Error}
use Rattle.cbor_io.specs.declared.read_error.ReadErrorCode.{ReadErrorCode}
use Rattle.cbor_read.specs.Source.{Input}
use Rattle.cbor_decode.specs.Gives.{Step, values}
use Rattle.cbor_decode_as.specs.Tags.{begins_tag, entered_at, tag_behind, tag_head_at}
use Rattle.cbor_decode_as.specs.Takes.{ItemFault, ReportsFault, any_item}
use Rattle.cbor_de.proofs.facts.Faults.{if_any_map, if_any_then, reported_if_any}
use Rattle.cbor_convert.specs.Tagged.{BeginsNoTag, StandsNoTag}
use Rattle.cbor_convert.proofs.NoTags.{item_first, tag_byte, tag_first, tag_stops}

-- ---- behind the head of a tag of this number

module _ {Item Items Pairs : Type 0} (m : Reading Item Items Pairs) (left n : ℕ) (mid : List ℕ) (e : Fault) (stops : item_at m left mid ≡ Err e) where
  behind_number : (w : HeadWidth) (levels : ℕ) → levels ≡ left + 1 → (read : Reads ℕ) → (read >>= (λ k. entered_at levels k.0 k.1)) ≡ Ok (Some n, mid) → (read >>= (λ k. tag_at m (inside m levels) w k.0 k.1)) ≡ Err e
  unfolding tag_at
  behind_number w zero one read is = absurd (omega (arith, one))
  behind_number w (suc k) one (Ok x) is =
      let rest : x.1 ≡ mid = ap (λ (q : Option ℕ × List ℕ). q.1) (ok_is (Some x.0, x.1) (Some n, mid) is) in
      let same : k ≡ left = omega (arith, one) in
      let here : item_at m k x.1 ≡ Err e = ap₂ (λ (i : ℕ) (q : List ℕ). item_at m i q) same rest ∙ stops in
      rw here refl
  behind_number w (suc k) one (Err f) is = absurd cc

  not_some : (bs : List ℕ) → ◌≡◌ {A = Reads (Option ℕ)} (Ok (None, bs)) (Ok (Some n, mid)) → ⊥
  not_some bs is = differ (ap (λ (q : Option ℕ × List ℕ). q.0) (ok_is (None, bs) (Some n, mid) is))
    where
      differ : None ≡ Some n → ⊥
      differ e = absurd cc

  -- what stops the item within stops the tag
  within_stops : (levels : ℕ) → levels ≡ left + 1 → (bs : List ℕ) → tag_head_at levels bs ≡ Ok (Some n, mid) → item_at m levels bs ≡ Err e
  within_stops levels one [] is = absurd (not_some [] is)
  within_stops levels one (b ∷ rest) is = by (begins_tag b) refl is
    where
      by : (t : Bool) → begins_tag b ≡ t → (cond {A = Reads (Option ℕ)} t (Ok (Some b, rest)) (Ok (None, b ∷ rest)) >>= (λ o. tag_behind levels o.0 o.1)) ≡ Ok (Some n, mid) → item_at m levels (b ∷ rest) ≡ Err e
      by true begins h =
          let byte = tag_byte b begins in
          item_first m levels b rest ∙ tag_first m (inside m levels) b rest byte.0 byte.1 ∙ behind_number (width_of (b % 32)) levels one (number_behind (b % 32) rest) h
      by false begins h = absurd (not_some (b ∷ rest) h)

-- ---- what an error reports

module _ (allowed : ReadErrorCode → Bool) (levels : ℕ) (s : Input) (e : Error) where
  -- of the item within the tag
  pub tag_fault : (left n : ℕ) → levels ≡ left + 1 → (m : Input) → Step s m (λ l bs rest. tag_head_at levels bs ≡ Ok (Some n, rest)) → ItemFault allowed left m e → ItemFault allowed levels s e
  tag_fault left n one m = if_any_then allowed s e m (λ l bs rest. tag_head_at levels bs ≡ Ok (Some n, rest)) (any_item left) (any_item levels)
      (λ l bs mid d tag stops. within_stops (values all_formats l) left n mid d stops levels one bs tag)

  -- of an item without a tag
  pub untagged_fault : (m : Input) → StandsNoTag s m → ItemFault allowed levels m e → ItemFault allowed levels s e
  untagged_fault m = if_any_then allowed s e m (λ l bs rest. (rest ≡ bs) × BeginsNoTag bs) (any_item levels) (any_item levels)
      (λ l bs mid d none stops. ap (any_item levels l) (sym none.0) ∙ stops)

  -- of the tag's head
  pub head_fault : ReportsFault allowed (λ l. tag_head_at levels) s e → ItemFault allowed levels s e
  head_fault h = if_any_map allowed s e (λ l. tag_head_at levels) (any_item levels) (λ l bs d is. tag_stops (values all_formats l) levels bs d is) (reported_if_any allowed s e (λ l. tag_head_at levels) h)
