-- What the head of an array or a map is refused with.
use Rattle.std.proofs.Common.{◌≡◌, ◌+◌, inl, inr, ◌∙◌, ℕ, Bool, List, length, Ok, Err, refl, sym, ap, subst}
use Rattle.cbor_model.specs.Refusal.{too_deep, unexpected_code}
use Rattle.cbor_model.specs.Reader.{Reads, array_at, before, item_at, map_at}
use Rattle.cbor_read.specs.Source.{Input}
use Rattle.cbor_io.specs.Error.{code_of, offset_of}
use Rattle.cbor_io.specs.ReadError.{error_code}
use Rattle.cbor_io.specs.declared.error.Error.{Error}
use Rattle.cbor_io.specs.declared.error.ErrorCode.{ErrorCode}
use Rattle.cbor_io.specs.declared.read_error.ReadError.{ReadError}
use Rattle.cbor_io.specs.declared.read_error.ReadErrorCode.{ReadErrorCode}
use Rattle.cbor_io.specs.declared.read_error.ReadErrorCode.TheVariants as reading
use Rattle.cbor_decode.specs.Gives.{FailsBy, IsAt, IsErrorOf, Limits, limits, ReportsIo, ReportsWhy, Step}
use Rattle.cbor_decode.specs.Heads.{passed}
use Rattle.cbor_decode.specs.declared.cursor.Remaining.{Remaining}
use Rattle.cbor_decode.specs.declared.head.Head.{Head}
use Rattle.cbor_decode.specs.declared.cursor.Collection.{Collection}
use Rattle.cbor_decode.specs.declared.cursor.Collection.TheVariants as collection
use Rattle.cbor_decode.specs.declared.head.Head.TheVariants as head
use Rattle.cbor_decode.specs.declared.refusal.Refused.{Refused}
use Rattle.cbor_decode.specs.declared.refusal.Refused.TheVariants as refused
use Rattle.cbor_decode.proofs.facts.Steps.{passed_stops}
use Rattle.cbor_decode_as.specs.Begins.{BeginningFault, OtherBegins}
use Rattle.cbor_decode_as.specs.TaggedHeads.{IsMismatch, behind_any, opened_at}
use Rattle.cbor_model.specs.Formats.{Formats}
use Rattle.cbor_model.specs.Raw as raw
use Rattle.cbor_model.specs.Raw.{Raw, RawPairs}
use Rattle.cbor_model.specs.Readable.{PassesTags, untagged}
use Rattle.cbor_decode_as.specs.Kinds.{kind_of}
use Rattle.cbor_decode_as.specs.Kinds as kinds
use Rattle.cbor_decode_as.specs.Maps.{AsMap}
use Rattle.cbor_decode_as.specs.Collections.{head_of}
use Rattle.cbor_decode_as.specs.Takes.{ReportsFault, any_item, raws}
use Rattle.cbor_decode_as.proofs.heads.ItemsBehind.{kind_behind}
use Rattle.cbor_decode_as.specs.declared.head.HeadAt.{HeadAt}
use Rattle.cbor_decode_as.proofs.heads.PassedOver.{found_is, unopened_stops}
use Rattle.cbor_decode_as.proofs.numbers.Scalars.{reported_why}
use Rattle.cbor_decode_as.proofs.refused.Faults.{reports_then}

-- no level is left for the items, or the pairs
deep : (of : Collection) (left : ℕ) (r : Remaining) (l : Limits) (bs : List ℕ) → left ≡ 0 → passed (behind_any left (head_of of r) l bs) ≡ Err (before too_deep bs)
unfolding array_at map_at
deep collection.Array left r l bs none = rw none refl
deep collection.Map left r l bs none = rw none refl

-- the error of a refusal
pub kept_code : (kept : ReadError) (r : Refused) (e : Error) (k : ReadErrorCode) (at : ℕ) → r ≡ refused.Kept → IsAt k at kept → IsErrorOf kept r e → (code_of e ≡ error_code k) × (offset_of e ≡ at)
kept_code kept refused.OutOfMemory e k at keeps is made = absurd cc
kept_code kept refused.Kept e k at keeps is made = (made.0 ∙ ap error_code is.0, made.1 ∙ is.1)

module _ (kind : Remaining → Head) (allowed : ReadErrorCode → Bool) (levels : ℕ) (s : Input) (e : Error) where
  -- no head is there
  pub unopened_fault : (kept : ReadError) (r : Refused) → IsErrorOf kept r e → ReportsWhy allowed (λ l. opened_at levels) s kept r → BeginningFault kind allowed levels s e
  unopened_fault kept r is h = inl (reported_why allowed (any_item levels) s kept r e is (unopened_stops allowed levels s kept r h))

  module _ (found : HeadAt) (m : Input) (opens : Step s m (λ l bs rest. opened_at levels bs ≡ Ok ((found.levels, found.head), rest))) where
    abbrev passes : Limits → List ℕ → Reads (Unit {0})
    passes l bs = passed (behind_any found.levels found.head l bs)

    -- what follows the head stops the item
    found_fault : ReportsFault allowed passes m e → ReportsFault allowed (any_item levels) s e
    found_fault = reports_then allowed s e m (λ l bs rest. opened_at levels bs ≡ Ok ((found.levels, found.head), rest)) passes (any_item levels)
        (λ l bs mid f is stops. passed_stops (any_item levels l bs) f (found_is l levels found.levels found.head bs mid is ∙ stops)) opens

    -- a break, or an item of another kind
    pub mismatch_fault : (h : Head) → found.head ≡ h → ((r : Remaining) → h ≡ kind r → ⊥) → IsMismatch h m.offset e → BeginningFault kind allowed levels s e
    mismatch_fault head.Break is other told = inl (found_fault (λ bs reports.
        let l = limits m bs in
        let there : offset_of e + length bs ≡ m.offset + length bs = ap (λ (k : ℕ). k + length bs) told.1 in
        let stops : passes l bs ≡ Err (before unexpected_code bs) = rw is refl in
        subst (λ (k : ErrorCode). FailsBy (ReportsIo allowed) k (m.offset + length bs) (offset_of e) (passes l bs)) (sym told.0) (length bs, there, stops)))
    mismatch_fault h is other told = inr (
      told,
      λ bs reports.
          let got = opens.reported bs reports in
          record {
            left = found.levels;
            head = found.head;
            rest = got.rest;
            is = got.holds;
            other = λ r same. other r (sym is ∙ same);
            unbroken = λ same. (let k : h ≡ head.Break = sym is ∙ same in absurd cc);
          },
    )

    -- no level is left
    pub deep_fault : (of : Collection) (kept : ReadError) (r : Refused) (n : Remaining) → found.head ≡ head_of of n → found.levels ≡ 0 → r ≡ refused.Kept → IsAt reading.RecursionLimitExceeded m.offset kept → IsErrorOf kept r e → BeginningFault kind allowed levels s e
    deep_fault of kept r n is none keeps at made = inl (found_fault (λ bs reports.
        let told = kept_code kept r e reading.RecursionLimitExceeded m.offset keeps at made in
        let l = limits m bs in
        let there : offset_of e + length bs ≡ m.offset + length bs = ap (λ (k : ℕ). k + length bs) told.1 in
        let stops = ap (λ (h : Head). passed (behind_any found.levels h l bs)) is ∙ deep of found.levels n l bs none in
        subst (λ (k : ErrorCode). FailsBy (ReportsIo allowed) k (m.offset + length bs) (offset_of e) (passes l bs)) (sym told.0) (length bs, there, stops)))
