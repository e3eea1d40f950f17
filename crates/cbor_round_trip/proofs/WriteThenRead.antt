-- What the calls that write a value and read it again answer.
use Rattle.std.proofs.Common.{◌≡◌, ◌≤◌, ℕ, List, false, subst, sym}
use Rattle.std.specs.Prelude.{Result, Ok, Err, IfOk, IfErr}
use Rattle.std.specs.Result.{IsErrAnd}
use Rattle.std.proofs.lemmas.Result.{IfOk-weaker}
use Rattle.cbor_model.specs.Acceptable.{max_depth}
use Rattle.cbor_model.specs.Document.{Doc, raw_of, document_bytes, IsStorableDocument, IsDocumentInRange}
use Rattle.cbor_model.specs.Formats.{all_formats}
use Rattle.cbor_model.specs.Raw.{Raw, depth}
use Rattle.cbor_model.specs.Readable.{Context, SpellsAs}
use Rattle.cbor_io.specs.Error.{IsOutOfMemory}
use Rattle.cbor_io.specs.declared.error.Error.{Error}
use Rattle.cbor_read.specs.Source.{Lends}
use Rattle.cbor_ser.specs.Written.{IsNotWritten}
use Rattle.cbor_de.specs.Whole.{from_reader_context}
use Rattle.cbor_convert.proofs.ReadWritten.{memory_code}
use Rattle.cbor_round_trip.specs.ReadBack.{IsReadBack}
use Rattle.cbor_round_trip.proofs.WrittenReadBack.{written}

-- what a reader lends
abbrev of_reader : Lends
of_reader = record { whole = false; joined = false }

-- what can be stored is refused for lack of memory alone
pub only_memory : {T : Type 0} (r : Result T Error) (S : Type 0) (e : Error) → IsNotWritten S e → IsErrAnd r (λ x. x ≡ e)
    → S → IfErr r IsOutOfMemory
only_memory (Ok x) S e h is s = tt
only_memory (Err x) S e h is s = subst IsOutOfMemory (sym is) (memory_code e.code S s h.0, h.1)

module _ {A : Type 0} (document : A → Doc) (reads : Context → Raw → A → Type 0) (fits : A → Type 0) (determined : Type 0) (law : IsReadBack document reads fits determined)
    (x : A) (bytes : List ℕ) (stored : IsStorableDocument (document x)) (range : IsDocumentInRange (document x)) (is : bytes ≡ document_bytes (document x) false false) where
  pub same_again : (r : Result A Error) → fits x → IfOk r (SpellsAs all_formats (reads from_reader_context) bytes)
      → IfOk r (λ again. document again ≡ document x)
  same_again r fit found =
      IfOk-weaker r (SpellsAs all_formats (reads from_reader_context) bytes) (λ again. document again ≡ document x)
      (λ again reported. (written document reads fits determined law).alone x again fit of_reader false false stored range
      (subst (λ (bs : List ℕ). SpellsAs all_formats (reads from_reader_context) bs again) is reported)) found

  pub spelled_again : fits x → depth (raw_of (document x) false false) ≤ max_depth
      → SpellsAs all_formats (reads from_reader_context) bytes x
  spelled_again fit nests =
      subst (λ (bs : List ℕ). SpellsAs all_formats (reads from_reader_context) bs x) (sym is)
      ((written document reads fits determined law).itself x fit of_reader false false stored range nests)
