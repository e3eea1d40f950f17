-- The fault that is told of an item that isn't lent.
use Rattle.std.proofs.Common.{◌≡◌, inl, inr, ℕ, Bool, List, None, sym, subst}
use Rattle.cbor_model.specs.Formats.{Formats}
use Rattle.cbor_model.specs.Plain.{Val}
use Rattle.cbor_model.specs.Reader.{Reads, item_at}
use Rattle.cbor_read.specs.Source.{Input}
use Rattle.cbor_io.specs.Error.{HasNoOffset, IsMessageOf, code_of, offset_of}
use Rattle.cbor_io.specs.declared.error.Error.{Error}
use Rattle.cbor_io.specs.declared.error.ErrorCode.TheVariants as code
use Rattle.cbor_io.specs.declared.read_error.ReadError.{ReadError}
use Rattle.cbor_io.specs.declared.read_error.ReadErrorCode.{ReadErrorCode}
use Rattle.cbor_decode.specs.Gives.{IsErrorOf, Limits, Stopped, values}
use Rattle.cbor_decode.specs.Heads.{passed}
use Rattle.cbor_decode.specs.declared.refusal.Refused.{Refused}
use Rattle.cbor_decode.proofs.facts.Steps.{passed_stops, stopped_map}
use Rattle.cbor_decode_as.specs.Takes.{ItemFault, Refuses, any_item}
use Rattle.cbor_decode_as.proofs.enums.ContentFaults.{formats_if_any}
use Rattle.cbor_decode_as.proofs.heads.PassedOver.{excused_whole}
use Rattle.cbor_decode_as.proofs.numbers.Scalars.{reported_by}
use Rattle.cbor_decode_as.proofs.refused.Faults.{message_says_none, said_if_any, whole_if_any}

module _ (allowed : ReadErrorCode → Bool) (levels : ℕ) (s : Input) (e : Error) where
  -- memory ran out
  pub memory_told : code_of e ≡ code.OutOfMemory → ItemFault allowed levels s e
  memory_told is = message_says_none allowed s e (any_item levels) (subst (IsMessageOf None) (sym is) tt, e.placed (subst HasNoOffset (sym is) tt))

  -- the item was passed over, and has a fault
  pub passed_told : {t : Input} (f : Formats) (kept : ReadError) (r : Refused) → IsErrorOf kept r e
      → Stopped allowed (λ l bs. passed (item_at (values f l) levels bs)) s t kept r → ItemFault allowed levels s e
  passed_told {t = t} f kept r is stopped =
      let read : (Limits → List ℕ → Reads Val) = λ l. item_at (values f l) levels in
      let met = stopped_map {t = t} allowed (λ l bs. passed (item_at (values f l) levels bs)) read s kept r (λ l bs d. passed_stops (item_at (values f l) levels bs) d) stopped in
      formats_if_any allowed levels s e f (reported_by {t = t} allowed read s kept r e is met)

  -- no fault of the item's
  pub excused_told : {t : Input} → Refuses allowed s t (code_of e) (offset_of e) (λ l bs. ⊥) → ItemFault allowed levels s e
  excused_told refused = whole_if_any allowed s e levels (excused_whole allowed levels s e (λ bs reports. elim (refused.reported bs reports) [ inl excused ↦ excused | inr none ↦ absurd none ]))
