-- What byte strings are read as.
use Rattle.std.proofs.Common.{ℕ, Bool, List, length, Result, Ok, Err, IfErr, ap, sym, subst, ◌∙◌}
use Rattle.cbor_value.specs.declared.bytes.ByteArray.{ByteArray}
use Rattle.cbor_model.specs.Formats.{Formats}
use Rattle.cbor_model.specs.Raw.{Raw}
use Rattle.cbor_model.specs.Readable.{PassesTags}
use Rattle.cbor_model.specs.Reader.{Reads, item_at}
use Rattle.cbor_io.specs.Error.{code_of, offset_of}
use Rattle.cbor_io.specs.declared.error.Error.{Error}
use Rattle.cbor_io.specs.declared.read_error.ReadErrorCode.{ReadErrorCode}
use Rattle.cbor_read.specs.Source.{Input, Lends, part_bytes}
use Rattle.cbor_read.specs.declared.EitherLifetime.{EitherLifetime}
use Rattle.cbor_decode.specs.Gives.{Limits}
use Rattle.cbor_decode_as.specs.Strings.{IsByteArray, IsByteString, IsLentBytes, LendsBytes}
use Rattle.cbor_decode_as.specs.Takes.{raws, lending, MemoryFor, TakesItem}
use Rattle.cbor_decode_as.proofs.facts.Strings.{made_read, made_none, one_byte_string}
use Rattle.cbor_de.proofs.refusals.UnreadMemory.{unread_memory}
use Rattle.cbor_de.specs.ByteStrings.{IsArrayOf}

module _ (allowed : ReadErrorCode → Bool) (f : Formats) (l : Lends) (levels : ℕ) (s t : Input) (p : EitherLifetime) where
  abbrev lent : Raw → EitherLifetime → Type 0
  lent = IsLentBytes (lending f l)

  abbrev read : Limits → List ℕ → Reads Raw
  read l bs = item_at (raws f l) levels bs

  -- the array of the bytes that are lent
  pub array_takes : (n : ℕ) (r : Result (ByteArray n) Error) → LendsBytes allowed (lending f l) levels s t (Ok p) → IsArrayOf n (part_bytes p) r → TakesItem allowed f (PassesTags (λ r x. IsByteArray n r x.0)) levels s t r
  array_takes n (Ok x) step is =
      made_read allowed (λ r x. IsByteArray n r x.0) lent read s t x p
      (λ r here. (subst (IsByteString r) (sym is.0) here.0, ap length is.0 ∙ is.1)) step
  array_takes n (Err e) step other =
      made_none allowed (λ r x. IsByteArray n r x.0) lent read s t (code_of e) (offset_of e) p
      (λ r x here means. other (ap length (one_byte_string r x.0 (part_bytes p) means.0 here.0) ∙ means.1)) step

  -- where they are too few or too many, none is read
  pub array_memory : (n : ℕ) (asks : Raw → Type 0) (r : Result (ByteArray n) Error) → LendsBytes allowed (lending f l) levels s t (Ok p) → IsArrayOf n (part_bytes p) r → IfErr r (MemoryFor {A = ByteArray n} asks f (PassesTags (λ r x. IsByteArray n r x.0)) levels s)
  array_memory n asks (Ok x) step is = tt
  array_memory n asks (Err e) step other =
      unread_memory allowed f (PassesTags (λ r x. IsByteArray n r x.0)) levels s asks e
      (λ k at. made_none allowed (λ r x. IsByteArray n r x.0) lent read s t k at p
      (λ r x here means. other (ap length (one_byte_string r x.0 (part_bytes p) means.0 here.0) ∙ means.1)) step)
