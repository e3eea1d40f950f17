-- Where a type reads every item, a refusal is the first that the bytes allow.
use Rattle.std.proofs.Common.{◌≡◌, ◌⊎◌, ◌∙◌, ℕ, Bool, List, length, Option, None, Result, Ok, Err, IfErr, refl, sym, ap, subst, arith}
use Rattle.cbor_model.specs.Laws.{FirstRefusal, NoneAllowed, OneFirstRefusal}
use Rattle.cbor_model.specs.Plain.{Val}
use Rattle.cbor_model.specs.Raw.{AreBytes}
use Rattle.cbor_model.specs.Reader.{Fault, read_value, read_value_in}
use Rattle.cbor_model.specs.Refusal.{Refusal, end_in_value, end_in_array, end_in_map}
use Rattle.cbor_model.specs.Refusal.{length_out_of_range, invalid_utf8, unassigned_code}
use Rattle.cbor_model.specs.Refusal.{unexpected_code, trailing_data, too_deep, scratch_too_small}
use Rattle.cbor_model.specs.Refusal.{wrong_struct_format}
use Rattle.cbor_model.specs.Allowed.{limits_of}
use Rattle.cbor_io.specs.declared.error.Error.{Error}
use Rattle.cbor_io.specs.declared.error.ErrorCode.{ErrorCode}
use Rattle.cbor_io.specs.Error.{offset_of, IsOutOfMemory}
use Rattle.cbor_decode.specs.Gives.{Fails, FailsAs, FailsBy, FailsOrFaults, IsMemoryOrFault}
use Rattle.cbor_decode.specs.FirstRefusal.{ReportsFirst, refusal_code}
use Rattle.cbor_de.specs.FirstOfItem.{FirstIsFault}
use Rattle.cbor_decode.proofs.facts.FirstRefusal.{first_or_memory, first_or_fault}
use Rattle.cbor_decode_as.specs.Takes.{WhereTotal}
use Rattle.cbor_de.proofs.refusals.Faults.{where_map}

pub first : {A : Type 0} (total : Bool) (room : Option ℕ) (bs : List ℕ) → AreBytes bs → (r : Result A Error)
    → IfErr r (λ e. WhereTotal total (Fails (length bs) e (read_value_in room bs)))
    → IfErr r (λ e. WhereTotal total (IsOutOfMemory e ⊎ ReportsFirst (limits_of room) bs e))
first total room bs fits (Ok x) h = tt
first total room bs fits (Err e) h = where_map total (first_or_memory room bs fits e) h

pub first_from_reader : {A : Type 0} (total : Bool) (bs : List ℕ) → AreBytes bs → (r : Result A Error)
    → IfErr r (λ e. WhereTotal total (FailsOrFaults (length bs) e (read_value bs)))
    → IfErr r (λ e. WhereTotal total (IsMemoryOrFault e ⊎ ReportsFirst (limits_of None) bs e))
first_from_reader total bs fits (Ok x) h = tt
first_from_reader total bs fits (Err e) h = where_map total (first_or_fault None bs fits e) h

-- ---- the other way

-- a fault is reported by its code
fault_by : (why : Refusal) (end at : ℕ) (read : Result Val Fault) → FailsAs why end at read → FailsBy ⊥ (refusal_code why) end at read
fault_by end_in_value end at read h = h
fault_by end_in_array end at read h = h
fault_by end_in_map end at read h = h
fault_by length_out_of_range end at read h = h
fault_by invalid_utf8 end at read h = h
fault_by unassigned_code end at read h = h
fault_by unexpected_code end at read h = h
fault_by trailing_data end at read h = h
fault_by too_deep end at read h = h
fault_by scratch_too_small end at read h = h
fault_by wrong_struct_format end at read h = h

module _ (first : FirstRefusal) (one : OneFirstRefusal) (none : NoneAllowed) (room : Option ℕ) (bytes : List ℕ) (e : Error) (fits : AreBytes bytes) (reported : ReportsFirst (limits_of room) bytes e) where
  by_read : (read : Result Val Fault) → read_value_in room bytes ≡ read → Fails (length bytes) e (read_value_in room bytes)
  by_read (Ok v) is = absurd (none room bytes v fits is reported.why reported.first.place reported.offset reported.first.allowed)
  by_read (Err f) is =
      let met = first room bytes f fits is in
      let same = one (limits_of room) bytes reported.why f.why reported.offset met.0 reported.first met.2 in
      let fault : read_value_in room bytes ≡ Err (record { why = reported.why; left = f.left }) = is ∙ ap (λ (why : Refusal). Err (record { why = why; left = f.left })) (sym same.0) in
      subst (λ (k : ErrorCode). FailsBy ⊥ k (length bytes) (offset_of e) (read_value_in room bytes)) (sym reported.code)
      (fault_by reported.why (length bytes) (offset_of e) (read_value_in room bytes) (f.left, omega (arith, reported.at, same.1, met.1), fault))

pub first_is_fault : FirstRefusal → OneFirstRefusal → NoneAllowed → FirstIsFault
first_is_fault first one none room bytes e fits reported = by_read first one none room bytes e fits reported (read_value_in room bytes) refl
