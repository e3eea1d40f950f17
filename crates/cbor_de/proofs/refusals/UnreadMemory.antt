-- Where memory ran out for an item that isn't read.
use Rattle.std.proofs.Common.{inl, inr, ℕ, Bool}
use Rattle.cbor_model.specs.Formats.{Formats}
use Rattle.cbor_model.specs.Raw.{Raw}
use Rattle.cbor_model.specs.Reader.{item_at}
use Rattle.cbor_io.specs.declared.error.Error.{Error}
use Rattle.cbor_io.specs.declared.error.ErrorCode.{ErrorCode}
use Rattle.cbor_io.specs.declared.error.ErrorCode.TheVariants.{InvalidUtf8}
use Rattle.cbor_io.specs.declared.read_error.ReadErrorCode.{ReadErrorCode}
use Rattle.cbor_read.specs.Source.{Input}
use Rattle.cbor_decode_as.specs.Takes.{raws, IsNotRead, MemoryFor, Refuses}

-- what is refused by any code isn't read
pub unread_memory : {A : Type 0} {t : Input} (allowed : ReadErrorCode → Bool) (f : Formats) (reads : Raw → A → Type 0) (levels : ℕ) (s : Input) (asks : Raw → Type 0) (e : Error)
    → ((k : ErrorCode) (at : ℕ) → Refuses allowed s t k at (λ l bs. IsNotRead reads (item_at (raws f l) levels bs))) → MemoryFor asks f reads levels s e
unread_memory allowed f reads levels s asks e refused is bs reports x rest got = elim ((refused InvalidUtf8 0).reported bs reports) [
  | inl excused ↦ absurd excused
  | inr none ↦ absurd (none x rest got)
]
