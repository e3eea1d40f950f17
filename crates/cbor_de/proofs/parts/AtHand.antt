-- What is read where nothing was found at hand.
use Rattle.std.proofs.Common.{◌≡◌, ℕ, Bool, Result, Ok, Err, IfErr, subst}
use Rattle.cbor_model.specs.Raw.{Raw}
use Rattle.cbor_io.specs.declared.error.Error.{Error}
use Rattle.cbor_io.specs.declared.read_error.ReadErrorCode.{ReadErrorCode}
use Rattle.cbor_read.specs.Source.{Input}
use Rattle.cbor_decode.specs.declared.formats.Formats.{Formats}
use Rattle.cbor_decode_as.specs.Takes.{TakesItem, formats_of}
use Rattle.cbor_de.specs.Forms.{WrongForms, MayReport}

module _ (f g : Formats) (formats : g ≡ f) (s m : Input) (kept : m ≡ s) where
  pub read_here : {A : Type 0} (allowed : ReadErrorCode → Bool) (reads : Formats → Raw → A → Type 0) (levels left : ℕ) → left ≡ levels → (t : Input) (r : Result A Error) → TakesItem allowed (formats_of g) (reads g) left m t r
      → TakesItem allowed (formats_of f) (reads f) levels s t r
  read_here allowed reads levels left same t r h =
      subst (λ (x : Formats). TakesItem allowed (formats_of x) (reads x) levels s t r) formats
      (subst (λ (n : ℕ). TakesItem allowed (formats_of g) (reads g) n s t r) same
      (subst (λ (x : Input). TakesItem allowed (formats_of g) (reads g) left x t r) kept h))

  pub form_here : (a : WrongForms) (e : Error) → MayReport a (formats_of g) m e → MayReport a (formats_of f) s e
  form_here a e h = subst (λ (x : Formats). MayReport a (formats_of x) s e) formats (subst (λ (x : Input). MayReport a (formats_of g) x e) kept h)

  pub forms_here : {A : Type 0} (a : WrongForms) (r : Result A Error) → IfErr r (MayReport a (formats_of g) m) → IfErr r (MayReport a (formats_of f) s)
  forms_here a (Ok x) h = h
  forms_here a (Err e) h = form_here a e h
