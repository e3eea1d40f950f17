-- The item at the front of bytes, as a decoder passes over it.
use Rattle.std.proofs.Common.{◌≡◌, ◌⊎◌, inl, inr, ◌∙◌, ℕ, ◌<◌, ◌^◌, List, length, None, Ok, Err}
use Rattle.std.proofs.Common.{ap, sym, subst, refl, arith}
use Rattle.std.proofs.lemmas.List.{length-append}
use Rattle.cbor_model.specs.Formats.{Formats, all_formats}
use Rattle.cbor_model.specs.Plain.{Val}
use Rattle.cbor_model.specs.Raw.{Raw, AreBytes}
use Rattle.cbor_model.specs.Reader.{Reads, item_at}
use Rattle.cbor_model.specs.Spelling.{spell}
use Rattle.cbor_model.specs.Value.{value}
use Rattle.cbor_model.proofs.facts.Reader.{item_found, ok_is}
use Rattle.cbor_io.specs.Error.{IsOutOfMemory}
use Rattle.cbor_io.specs.declared.error.Error.{Error}
use Rattle.cbor_io.specs.declared.read_error.ReadError.{ReadError}
use Rattle.cbor_read.specs.Source.{Input, slice_refusals, start_of_slice}
use Rattle.cbor_decode.specs.FirstRefusal.{ReportsFirst}
use Rattle.cbor_decode.specs.Gives.{IsErrorOf, Reports, ReportsIo, Step, Stopped, limits, values}
use Rattle.cbor_decode.specs.HasChunks.{raws}
use Rattle.cbor_decode.specs.Heads.{passed}
use Rattle.cbor_decode.specs.declared.refusal.Refused.{Refused}
use Rattle.cbor_decode.proofs.facts.FirstRefusal.{item_first}
use Rattle.cbor_decode.proofs.facts.Readings.{along, value_seen}
use Rattle.cbor_decode.proofs.facts.Steps.{passed_stops, passed_was, stopped_map}
use Rattle.cbor_decode_as.proofs.facts.Refusals.{reported_by}
use Rattle.cbor_serde_de.specs.Fronts.{HasItem, item_limits}

-- what is read as a value is read as it is spelled
pub seen_was : (read : Reads Raw) (v : Val) (rest : List ℕ) → along value read ≡ Ok (v, rest) → (r : Raw) × (read ≡ Ok (r, rest))
seen_was (Ok x) v rest e = (x.0, ap (λ (p : Val × List ℕ). Ok (x.0, p.1)) (ok_is (value x.0, x.1) (v, rest) e))
seen_was (Err f) v rest e = absurd cc

-- the same of a list that is the same
pub of_bytes : (levels : ℕ) (bs bytes : List ℕ) (e : Error) → bs ≡ bytes → IsOutOfMemory e ⊎ ReportsFirst (item_limits levels) bs e
    → IsOutOfMemory e ⊎ ReportsFirst (item_limits levels) bytes e
of_bytes levels bs bytes e same h = subst (λ (l : List ℕ). IsOutOfMemory e ⊎ ReportsFirst (item_limits levels) l e) same h

module _ (bytes : List ℕ) (fits : AreBytes bytes) (short : length bytes < 2 ^ 64) (levels : ℕ) where
  abbrev start : Input
  start = start_of_slice bytes None

  reports : Reports start bytes
  reports = record { is = refl; short = omega (arith, short) }

  -- an item was passed over
  pub item_passed : (f : Formats) (t : Input) → Step start t (λ l bs rest. passed (item_at (values f l) levels bs) ≡ Ok (tt, rest))
      → HasItem levels bytes t.offset
  item_passed f t step =
      let l = limits start bytes in
      let got = step.reported bytes reports in
      let read = passed_was (item_at (values f l) levels bytes) got.rest got.holds in
      let spelt = seen_was (item_at (raws f l) levels bytes) read.0 got.rest (sym (value_seen f l levels bytes) ∙ read.1) in
      let begins = (item_found f l.total l.room levels bytes got.rest spelt.0 fits spelt.1).0 in
      record {
        item = spelt.0;
        rest = got.rest;
        begins = begins;
        ends = omega (arith, got.total, ap length begins.spelled, length-append (spell spelt.0) got.rest);
      }

  no_device : ReportsIo slice_refusals → ⊥
  no_device device = absurd cc

  -- none was, and the error says why
  pub item_refused : {t : Input} (f : Formats) (kept : ReadError) (r : Refused) (e : Error) → f ≡ all_formats → IsErrorOf kept r e
      → Stopped slice_refusals (λ l bs. passed (item_at (values f l) levels bs)) start t kept r
      → IsOutOfMemory e ⊎ ReportsFirst (item_limits levels) bytes e
  item_refused {t = t} f kept r e all is stopped =
      let h = subst (λ (f : Formats). Stopped slice_refusals (λ l bs. passed (item_at (values f l) levels bs)) start t kept r) all stopped in
      let met = stopped_map {t = t} slice_refusals (λ l bs. passed (item_at (values all_formats l) levels bs)) (λ l. item_at (values all_formats l) levels) start kept r (λ l bs fault. passed_stops (item_at (values all_formats l) levels bs) fault) h in
      let fault = reported_by {t = t} slice_refusals (λ l. item_at (values all_formats l) levels) start kept r e is met bytes reports in
      elim (item_first levels start bytes fits e (ReportsIo slice_refusals) fault) [
        | inl memory ↦ inl memory
        | inr others ↦ elim others [ inl device ↦ absurd (no_device device.0) | inr first ↦ inr first ]
      ]
