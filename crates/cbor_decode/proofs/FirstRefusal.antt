-- The fault of the reference reader that an error reports is the first refusal.
use Rattle.std.proofs.Common.{◌≡◌, ◌⊎◌, ℕ, ◌+◌, ◌-◌, List, length, Option, Some, None, Result, refl, subst, sym, ap}
use Rattle.std.proofs.Common.{◌∙◌, arith, inl, inr}
use Rattle.std.specs.Prelude.{⊤}
use Rattle.cbor_model.specs.Raw.{AreBytes}
use Rattle.cbor_model.specs.Refusal.{Refusal, end_in_value, end_in_array, end_in_map}
use Rattle.cbor_model.specs.Refusal.{length_out_of_range, invalid_utf8, unassigned_code}
use Rattle.cbor_model.specs.Refusal.{unexpected_code, trailing_data, too_deep, scratch_too_small}
use Rattle.cbor_model.specs.Refusal.{wrong_struct_format}
use Rattle.cbor_model.specs.Formats.{all_formats}
use Rattle.cbor_model.specs.Reader.{Fault, item_at, read_value_in}
use Rattle.cbor_model.specs.Allowed as model
use Rattle.cbor_model.specs.Allowed.{Limits, IsFirstRefusal, limits_of}
use Rattle.cbor_model.proofs.facts.Refusals.{refused_at, refused_first, one_first, same_first}
use Rattle.cbor_read.specs.Source.{Input}
use Rattle.cbor_io.specs.declared.error.ErrorCode.{ErrorCode}
use Rattle.cbor_io.specs.declared.error.ErrorCode.TheVariants as code
use Rattle.cbor_io.specs.declared.error.Error.{Error}
use Rattle.cbor_io.specs.Error.{code_of, offset_of, IsOutOfMemory}
use Rattle.cbor_decode.specs.Gives.{FailsAs, FailsBy, Fails, FailsOrFaults, IsMemoryOrFault}
use Rattle.cbor_decode.specs.Gives.{IsMemoryOrFaultBy, limits, values}
use Rattle.cbor_decode.specs.FirstRefusal.{refusal_code, ReportsFirst}

-- memory ran out, or a device has a fault, or each fault that is reported is met
module _ {A : Type 0} (e : Error) (end : ℕ) (read : Result A Fault) (P : Type 0)
    (each : (why : Refusal) → code_of e ≡ refusal_code why → FailsAs why end (offset_of e) read → P) where
  by_code : (D : Type 0) (k : ErrorCode) → code_of e ≡ k → FailsBy D k end (offset_of e) read
      → IsOutOfMemory e ⊎ ((D × IsMemoryOrFault e) ⊎ P)
  by_code D code.EofWhileParsingValue is h = inr (inr (each end_in_value is h))
  by_code D code.EofWhileParsingArray is h = inr (inr (each end_in_array is h))
  by_code D code.EofWhileParsingMap is h = inr (inr (each end_in_map is h))
  by_code D code.LengthOutOfRange is h = inr (inr (each length_out_of_range is h))
  by_code D code.InvalidUtf8 is h = inr (inr (each invalid_utf8 is h))
  by_code D code.UnassignedCode is h = inr (inr (each unassigned_code is h))
  by_code D code.UnexpectedCode is h = inr (inr (each unexpected_code is h))
  by_code D code.TrailingData is h = inr (inr (each trailing_data is h))
  by_code D code.RecursionLimitExceeded is h = inr (inr (each too_deep is h))
  by_code D code.ScratchTooSmall is h = inr (inr (each scratch_too_small is h))
  by_code D code.WrongStructFormat is h = inr (inr (each wrong_struct_format is h))
  by_code D (code.Io fault) is h = inr (inl (h.0, (subst IsMemoryOrFaultBy (sym is) tt, h.1)))
  by_code D code.OutOfMemory is h = inl (is, h)
  by_code D _ is h = absurd h

-- ---- a whole input

module _ (room : Option ℕ) (bs : List ℕ) (fits : AreBytes bs) (e : Error) where
  reported : (why : Refusal) → code_of e ≡ refusal_code why
      → FailsAs why (length bs) (offset_of e) (read_value_in room bs) → ReportsFirst (limits_of room) bs e
  reported why is h = record {
    why = why;
    offset = offset_of e;
    code = is;
    at = omega arith;
    first = refused_at room bs why (offset_of e) h.0 fits h.1 h.2;
  }

  pub first_or_memory : Fails (length bs) e (read_value_in room bs)
      → IsOutOfMemory e ⊎ ReportsFirst (limits_of room) bs e
  first_or_memory h =
      elim (by_code e (length bs) (read_value_in room bs) (ReportsFirst (limits_of room) bs e) reported ⊥ (code_of e) refl h) [
        | inl memory ↦ inl memory
        | inr others ↦ elim others [ inl device ↦ absurd device.0 | inr first ↦ inr first ]
      ]

  pub first_or_fault : FailsOrFaults (length bs) e (read_value_in room bs)
      → IsMemoryOrFault e ⊎ ReportsFirst (limits_of room) bs e
  first_or_fault h =
      elim (by_code e (length bs) (read_value_in room bs) (ReportsFirst (limits_of room) bs e) reported ⊤ (code_of e) refl h) [
        | inl memory ↦ inl (subst IsMemoryOrFaultBy (sym memory.0) tt, memory.1)
        | inr others ↦ elim others [ inl device ↦ inl device.1 | inr first ↦ inr first ]
      ]

-- ---- one item of an input

-- what bounds an item that is to come, of which so many levels are read
abbrev pub item_limits : ℕ → Input → model.Limits
item_limits levels s = record { start = s.offset; levels = levels; scratch = s.room }

module _ (levels : ℕ) (s : Input) (bs : List ℕ) (fits : AreBytes bs) (e : Error) where
  item_reported : (why : Refusal) → code_of e ≡ refusal_code why
      → FailsAs why (s.offset + length bs) (offset_of e) (item_at (values all_formats (limits s bs)) levels bs)
      → ReportsFirst (item_limits levels s) bs e
  item_reported why is h =
      let total = s.offset + length bs in
      let f : Fault = record { why = why; left = h.0 } in
      let got = refused_first s.room total levels bs f (omega arith) fits (rw h.2 refl) in
      let start : total - length bs ≡ s.offset = omega arith in
      record {
        why = why;
        offset = got.0;
        code = is;
        at = omega (arith, h.1, got.1);
        first = subst (λ (n : ℕ). IsFirstRefusal (record { start = n; levels = levels; scratch = s.room }) bs why got.0) start got.2;
      }

  -- memory ran out, or the device has a fault, or the error reports the item's first refusal
  pub item_first : (D : Type 0) → FailsBy D (code_of e) (s.offset + length bs) (offset_of e) (item_at (values all_formats (limits s bs)) levels bs)
      → IsOutOfMemory e ⊎ ((D × IsMemoryOrFault e) ⊎ ReportsFirst (item_limits levels s) bs e)
  item_first D h =
      by_code e (s.offset + length bs) (item_at (values all_formats (limits s bs)) levels bs) (ReportsFirst (item_limits levels s) bs e) item_reported D (code_of e) refl h

-- ---- two errors

-- errors that report the first refusal of the same bytes report the same
pub same_error : (l : Limits) (bs : List ℕ) (e e' : Error) → ReportsFirst l bs e → ReportsFirst l bs e'
    → (code_of e ≡ code_of e') × (offset_of e ≡ offset_of e')
same_error l bs e e' t t' =
    let one = one_first l bs t.why t'.why t.offset t'.offset t.first t'.first in (
      t.code ∙ ap refusal_code one.0 ∙ sym t'.code,
      omega (arith, t.at, t'.at, one.1),
    )

-- with a scratch, that it is too small, or what is reported without one
pub without_scratch : (room : ℕ) (bs : List ℕ) (e : Error) → AreBytes bs → ReportsFirst (limits_of (Some room)) bs e
    → (code_of e ≡ code.ScratchTooSmall) ⊎ ReportsFirst (limits_of None) bs e
without_scratch room bs e fits t =
    elim (same_first room bs t.why t.offset fits t.first) [
      | inl small ↦ inl (t.code ∙ ap refusal_code small)
      | inr first ↦ inr (record { why = t.why; offset = t.offset; code = t.code; at = t.at; first = first })
    ]
