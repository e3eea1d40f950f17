-- Which fault the refusal of an enum's content reports, by what is said of the type of its part.
use Rattle.std.proofs.Common.{ℕ, Bool, true, false, List, Option, Some, None, Result, Ok, Err, IfErr}
use Rattle.cbor_model.specs.Formats.{Formats}
use Rattle.cbor_model.specs.Raw.{Raw}
use Rattle.cbor_io.specs.declared.error.Error.{Error}
use Rattle.cbor_io.specs.declared.error.ErrorCode.{ErrorCode}
use Rattle.cbor_io.specs.declared.error.ErrorCode.TheVariants as code
use Rattle.cbor_io.specs.Error.{IsMessageOf}
use Rattle.cbor_io.specs.declared.read_error.ReadErrorCode.{ReadErrorCode}
use Rattle.cbor_read.specs.Source.{Input}
use Rattle.cbor_decode_as.specs.Contents.{ContentFault, PartFault}
use Rattle.cbor_decode_as.specs.Takes.{ItemFault, WhereTotal}
use Rattle.cbor_decode_as.specs.declared.variant.Form.{Form}
use Rattle.cbor_decode_as.proofs.facts.Enums.{part_content}
use Rattle.cbor_de.specs.Access.{TypeFault}
use Rattle.cbor_de.specs.Calls.{reports_any}
use Rattle.cbor_de.proofs.refusals.OwnFaults.{item_fault}

-- a message of whatever text
pub text_message : (text : Option (List ℕ)) (k : ErrorCode) → IsMessageOf text k → IsMessageOf None k
text_message text (code.Message s) h = tt
text_message text code.OutOfMemory h = tt
text_message None k h = absurd h
text_message (Some t) k h = absurd h

pub err_both : {A : Type 0} (r : Result A Error) (P Q : Error → Type 0) → IfErr r P → IfErr r Q → IfErr r (λ e. P e × Q e)
err_both (Ok x) P Q p q = tt
err_both (Err e) P Q p q = (p, q)

-- what a type reports of the one part, where it reports the faults of the bytes, is reported of the content
pub part_any : {A : Type 0} (passes_over total faults : Bool) (allowed : ReadErrorCode → Bool) (reads : Raw → A → Type 0) (f : Formats) (left : ℕ) (k : Form) (s : Input) (e : Error) → PartFault allowed (TypeFault passes_over total faults allowed f left) reads f left k s e
    → WhereTotal (reports_any passes_over total faults) (ContentFault allowed left k s e)
part_any passes_over total faults allowed reads f left k s e h = by (reports_any passes_over total faults) (λ t own. item_fault allowed t e left f passes_over total faults own.0 own.1)
  where
    by : (reports : Bool) → ((t : Input) → TypeFault passes_over total faults allowed f left t e → WhereTotal reports (ItemFault allowed left t e)) → WhereTotal reports (ContentFault allowed left k s e)
    by true on = part_content allowed (TypeFault passes_over total faults allowed f left) reads f left k s e on h
    by false on = tt
