-- What a call answers that reads all that a source has to give, by what is known of its source.
use Rattle.std.proofs.Common.{◌≡◌, ◌<◌, ◌^◌, ℕ, Bool, List, length, Option, None, Result, IfErr, refl, subst, arith}
use Rattle.cbor_model.specs.Acceptable.{max_depth}
use Rattle.cbor_model.specs.Formats.{all_formats}
use Rattle.cbor_model.specs.Raw.{AreBytes, Raw}
use Rattle.cbor_io.specs.Error.{IsOutOfMemory}
use Rattle.cbor_io.specs.declared.error.Error.{Error}
use Rattle.cbor_io.specs.declared.read_error.ReadErrorCode.{ReadErrorCode}
use Rattle.cbor_read.specs.Source.{Input, reader_refusals, start_of_reader, start_of_slice}
use Rattle.cbor_decode.specs.Gives.{Gave, IsMemoryOrFault, Reports, ReportsIo}
use Rattle.cbor_decode_as.specs.Takes.{MemoryFor, WhereTotal}
use Rattle.cbor_de.specs.Calls.{reports_any}
use Rattle.cbor_de.specs.Whole.{Answers, ReadsAll, ReportsWhole, WholeFault}
use Rattle.cbor_de.proofs.inputs.Inputs.{accepted, accepted_or_fault, asked_or_fault, found}
use Rattle.cbor_de.proofs.refusals.Every.{every, every_or_fault}
use Rattle.cbor_de.proofs.refusals.Faults.{fails, fails_or_faults}
use Rattle.cbor_de.proofs.refusals.FirstRefusals.{first, first_from_reader}
use Rattle.cbor_de.proofs.refusals.OwnFaults.{own_first}
use Rattle.cbor_de.proofs.refusals.PassedOver.{passed_over, passed_over_by_reader}

-- What the reading of all that a source has to give is known to answer.
pub record Known {A : Type 0} (passes_over total reports_faults : Bool) (reads : Raw → A → Type 0) (asks : Raw → Type 0) (allowed : ReadErrorCode → Bool) (s : Input) (r : Result A Error) : Type 0 where
  pub read : ReadsAll allowed all_formats reads max_depth s r
  pub fault : IfErr r (ReportsWhole passes_over total allowed all_formats reads max_depth s)
  pub own_fault : IfErr r (λ e. WhereTotal (reports_any passes_over total reports_faults) (WholeFault allowed max_depth s e))
  pub memory : IfErr r (MemoryFor asks all_formats reads max_depth s)

module _ {A : Type 0} (passes_over total reports_faults : Bool) (reads : Raw → A → Type 0) (asks : Raw → Type 0) (allowed : ReadErrorCode → Bool) (r : Result A Error) where
  at_start : (scratch : Option ℕ) (bs : List ℕ) → AreBytes bs → length bs < 2 ^ 64 → (ReportsIo allowed → ⊥)
      → Known passes_over total reports_faults reads asks allowed (start_of_slice bs scratch) r → Answers passes_over total reports_faults reads asks IsOutOfMemory scratch bs r
  at_start scratch bs fits short device h =
      let s = start_of_slice bs scratch in
      let reports : Reports s bs = record { is = refl; short = omega (arith, short) } in
      let failed = fails passes_over total allowed reads s bs reports refl device r h.fault in
      record {
        found = found allowed all_formats reads s bs reports refl fits r h.read;
        accepted = λ x spelt room. accepted allowed all_formats reads s bs reports refl fits device x spelt room r h.read;
        memory = λ x spelt room. asked_or_fault allowed all_formats reads s bs reports refl fits asks x spelt room r h.memory;
        every = λ v spelt room. every total allowed reads s bs reports refl short v spelt room r h.read failed;
        first = first total scratch bs fits r failed;
        fault = passed_over passes_over total allowed reads s bs reports refl fits device r h.fault;
        own_fault = own_first allowed (reports_any passes_over total reports_faults) IsOutOfMemory (λ e given other. absurd (device given)) s bs reports refl fits r h.own_fault;
      }

  -- of a source that tells no fault of a device
  pub by_bytes : (s : Input) (scratch : Option ℕ) (bs : List ℕ) → s ≡ start_of_slice bs scratch → AreBytes bs → length bs < 2 ^ 64 → (ReportsIo allowed → ⊥)
      → Known passes_over total reports_faults reads asks allowed s r → Answers passes_over total reports_faults reads asks IsOutOfMemory scratch bs r
  by_bytes s scratch bs is fits short device h =
      at_start scratch bs fits short device (subst (λ (s : Input). Known passes_over total reports_faults reads asks allowed s r) is h)

-- of a reader that reports its bytes
module _ {A : Type 0} (passes_over total reports_faults : Bool) (reads : Raw → A → Type 0) (asks : Raw → Type 0) (r : Result A Error) where
  of_reader : (remaining : Option (List ℕ)) (bs : List ℕ) → Gave remaining bs
      → Known passes_over total reports_faults reads asks reader_refusals (start_of_reader remaining) r → Answers passes_over total reports_faults reads asks IsMemoryOrFault None bs r
  of_reader remaining bs gave h =
      let allowed = reader_refusals in
      let s = start_of_reader remaining in
      let reports : Reports s bs = record { is = gave.reported; short = omega (arith, gave.short) } in
      let failed = fails_or_faults passes_over total allowed reads s bs reports refl r h.fault in
      record {
        found = found allowed all_formats reads s bs reports refl gave.are_bytes r h.read;
        accepted = λ x spelt room. accepted_or_fault allowed all_formats reads s bs reports refl gave.are_bytes x spelt room r h.read;
        memory = λ x spelt room. asked_or_fault allowed all_formats reads s bs reports refl gave.are_bytes asks x spelt room r h.memory;
        every = λ v spelt room. every_or_fault total allowed reads s bs reports refl gave.short v spelt room r h.read failed;
        first = first_from_reader total bs gave.are_bytes r failed;
        fault = passed_over_by_reader passes_over total allowed reads s bs reports refl gave.are_bytes r h.fault;
        own_fault = own_first allowed (reports_any passes_over total reports_faults) IsMemoryOrFault (λ e given other. other) s bs reports refl gave.are_bytes r h.own_fault;
      }

  pub by_reader : (s : Input) (remaining : Option (List ℕ)) (bs : List ℕ) → s ≡ start_of_reader remaining → Gave remaining bs
      → Known passes_over total reports_faults reads asks reader_refusals s r → Answers passes_over total reports_faults reads asks IsMemoryOrFault None bs r
  by_reader s remaining bs is gave h =
      of_reader remaining bs gave (subst (λ (s : Input). Known passes_over total reports_faults reads asks reader_refusals s r) is h)
