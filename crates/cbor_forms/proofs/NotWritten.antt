-- What is refused on the way to the bytes.
use Rattle.std.proofs.Common.{◌≡◌, inl, inr, sym, subst}
use Rattle.std.specs.Prelude.{Result, Ok, Err, IfErr, IsErrAnd, OnOk}
use Rattle.cbor_model.specs.Plain.{Val}
use Rattle.cbor_model.specs.Canonical.{IsStorable}
use Rattle.cbor_model.specs.Document.{document_of, IsStorableDocument}
use Rattle.cbor_model.proofs.facts.Documents.{storable_document}
use Rattle.cbor_io.specs.declared.error.Error.{Error}
use Rattle.cbor_io.specs.declared.error.ErrorCode.{ErrorCode}
use Rattle.cbor_io.specs.declared.error.ErrorCode.TheVariants.{Message, OutOfMemory}
use Rattle.cbor_ser.specs.Written as written
use Rattle.cbor_ser.specs.Written.{IsNotWritten}
use Rattle.cbor_forms.specs.Shortened as other
use Rattle.cbor_forms.specs.Shortened.{IsNotRewritten}
use Rattle.cbor_forms.specs.Deterministic.{IsRefusedBy, IsNotWrittenIn}
use Rattle.cbor_forms.specs.declared.values.Form.{Form}

unstored_code : (form : Form) (code : ErrorCode) (S K : Type 0) → written.IsRefusedBy code S
    → IsRefusedBy form code S K
unstored_code form (Message text) S K h = inl h
unstored_code form OutOfMemory S K h = tt
unstored_code form _ S K h = absurd h

form_code : (form : Form) (code : ErrorCode) (S K : Type 0) → other.IsRefusedBy form code K
    → IsRefusedBy form code S K
form_code form (Message text) S K h = inr h
form_code form OutOfMemory S K h = tt
form_code form _ S K h = absurd h

-- what is storable is refused for lack of memory alone
memory_code : (form : Form) (code : ErrorCode) (P S K : Type 0) → P → written.IsRefusedBy code P
    → IsRefusedBy form code S K
memory_code form (Message text) P S K is h = absurd (h.1 is)
memory_code form OutOfMemory P S K is h = tt
memory_code form _ P S K is h = absurd h

pub not_stored : {A : Type 0} (form : Form) (r : Result A Error) (e : Error) (S K : Type 0)
    → IsErrAnd r (λ y. y ≡ e) → IsNotWritten S e → IfErr r (IsNotWrittenIn form S K)
not_stored form (Ok x) e S K is h = tt
not_stored form (Err y) e S K is h =
    subst (IsNotWrittenIn form S K) (sym is) (unstored_code form e.code S K h.0, h.1)

pub not_allowed : {A : Type 0} (form : Form) (r : Result A Error) (e : Error) (S K : Type 0)
    → IsErrAnd r (λ y. y ≡ e) → IsNotRewritten form K e → IfErr r (IsNotWrittenIn form S K)
not_allowed form (Ok x) e S K is h = tt
not_allowed form (Err y) e S K is h =
    subst (IsNotWrittenIn form S K) (sym is) (form_code form e.code S K h.0, h.1)

pub no_memory : {A : Type 0} (form : Form) (r : Result A Error) (v : Val) (S K : Type 0)
    → IsStorable v → IfErr r (IsNotWritten (IsStorableDocument (document_of v)))
    → IfErr r (IsNotWrittenIn form S K)
no_memory form (Ok x) v S K is h = tt
no_memory form (Err e) v S K is h = (
  memory_code form e.code (IsStorableDocument (document_of v)) S K (storable_document v is) h.0,
  h.1,
)

pub on_ok_always : {A : Type 0} (r : Result A Error) {P : Type 0} → P → OnOk r P
on_ok_always (Ok x) p = p
on_ok_always (Err e) p = tt
