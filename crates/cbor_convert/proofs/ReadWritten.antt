-- What is answered by a call that writes, and reads what was written as a type.
use Rattle.std.proofs.Common.{◌≡◌, inl, ℕ, Bool, true, false, List, None, refl, sym, subst}
use Rattle.std.specs.Prelude.{Result, Ok, Err, IfErr, OnOk}
use Rattle.std.specs.Result.{IsErrAnd}
use Rattle.cbor_model.specs.Formats.{all_formats}
use Rattle.cbor_model.specs.Raw.{Raw}
use Rattle.cbor_io.specs.declared.error.Error.{Error}
use Rattle.cbor_io.specs.declared.error.ErrorCode.{ErrorCode}
use Rattle.cbor_io.specs.declared.error.ErrorCode.TheVariants.{Message, OutOfMemory}
use Rattle.cbor_io.specs.Error.{IsOutOfMemory, code_of}
use Rattle.cbor_read.specs.Source.{start_of_slice}
use Rattle.cbor_ser.specs.Written.{IsNotWritten, IsRefusedBy, IsUnstorableCode}
use Rattle.cbor_decode_as.specs.Takes.{WhereTotal}
use Rattle.cbor_de.specs.Calls.{reports_any}
use Rattle.cbor_de.specs.Forms.{FormOnlyIf, MayReport, WrongForms, may_report}
use Rattle.cbor_de.specs.Whole.{Answers}
use Rattle.cbor_de.proofs.facts.Forms.{only_err}
use Rattle.cbor_convert.specs.ReadWritten.{ReadsWritten}

-- ---- what isn't written

pub memory_code : (code : ErrorCode) (S : Type 0) → S → IsRefusedBy code S → code ≡ OutOfMemory
memory_code (Message text) S s h = absurd (h.1 s)
memory_code OutOfMemory S s h = refl
memory_code _ S s h = absurd h

unstorable_code : (code : ErrorCode) (S : Type 0) → IsRefusedBy code S → IsUnstorableCode code
unstorable_code (Message text) S h = h.0
unstorable_code OutOfMemory S h = tt
unstorable_code _ S h = absurd h

no_form : (may : Bool) (code : ErrorCode) (S : Type 0) → IsRefusedBy code S → FormOnlyIf may code
no_form true code S h = tt
no_form false (Message text) S h = tt
no_form false OutOfMemory S h = tt
no_form false _ S h = absurd h

where_any : {P : Type 0} (b : Bool) → P → WhereTotal b P
where_any false p = tt
where_any true p = p

module _ {A : Type 0} (passes_over total reports_faults : Bool) (wrong_forms : WrongForms) (reads : Raw → A → Type 0) (S : Type 0) (bs : List ℕ) (r : Result A Error) where
  -- what can be stored is refused for lack of memory alone
  refused_unwritten : (e : Error) → IsNotWritten S e → ReadsWritten passes_over total reports_faults wrong_forms reads S bs (Err e)
  refused_unwritten e h =
      let memory : S → IsOutOfMemory e = λ s. (memory_code (code_of e) S s h.0, h.1) in
      record {
        storable = tt;
        found = tt;
        accepted = λ s x spelt. memory s;
        refused = λ not. (unstorable_code (code_of e) S h.0, h.1);
        first = λ s. where_any total (inl (memory s));
        fault = λ s. where_any passes_over (inl (memory s));
        own_fault = λ s. where_any (reports_any passes_over total reports_faults) (λ is. inl (memory s));
        form = no_form (may_report wrong_forms) (code_of e) S h.0;
      }

  pub unwritten : (e : Error) → IsNotWritten S e → IsErrAnd r (λ x. x ≡ e) → ReadsWritten passes_over total reports_faults wrong_forms reads S bs r
  unwritten e h is = by r is
    where
      by : (r : Result A Error) → IsErrAnd r (λ x. x ≡ e) → ReadsWritten passes_over total reports_faults wrong_forms reads S bs r
      by (Ok x) is = absurd is
      by (Err x) is = subst (λ (e : Error). ReadsWritten passes_over total reports_faults wrong_forms reads S bs (Err e)) (sym is) (refused_unwritten e h)

  -- ---- what is written, and read

  pub read_again : (asks : Raw → Type 0) (written : List ℕ) → written ≡ bs → S
      → Answers passes_over total reports_faults reads asks IsOutOfMemory None written r → IfErr r (MayReport wrong_forms all_formats (start_of_slice written None))
      → ReadsWritten passes_over total reports_faults wrong_forms reads S bs r
  read_again asks written is s answers form =
      let a = subst (λ (b : List ℕ). Answers passes_over total reports_faults reads asks IsOutOfMemory None b r) is answers in
      record {
        storable = stored r;
        found = a.found;
        accepted = λ s x spelt. a.accepted x spelt tt;
        refused = λ not. absurd (not s);
        first = λ s. a.first;
        fault = λ s. a.fault;
        own_fault = λ s. a.own_fault;
        form = only_err wrong_forms all_formats (start_of_slice written None) r form;
      }
    where
      stored : (r : Result A Error) → OnOk r S
      stored (Ok x) = s
      stored (Err e) = tt
