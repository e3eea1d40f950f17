-- The item that begins at a place of some bytes, as a decoder passes over it.
use Rattle.std.proofs.Common.{◌≡◌, ◌∙◌, ◌<◌, ◌≤◌, ◌+◌, ◌^◌, ℕ, List, [], ◌++◌, length, drop, Some, None, Option, Ok, refl, sym, ap, subst, arith}
use Rattle.std.specs.Io.KnownBytes.{Consumes}
use Rattle.std.proofs.lemmas.List.{drop-drop, length-drop}
use Rattle.std.proofs.Math.Seq.{drop-append_seam}
use Rattle.cbor_model.specs.Formats.{Formats, all_formats}
use Rattle.cbor_model.specs.Plain.{Val, Pairs, Vals}
use Rattle.cbor_model.specs.Reader.{Reading, Reads, item_at}
use Rattle.cbor_io.specs.Error.{code_of, offset_of}
use Rattle.cbor_io.specs.ReadError.{why, place, error_code}
use Rattle.cbor_io.specs.declared.error.Error.{Error}
use Rattle.cbor_io.specs.declared.error.ErrorCode.{ErrorCode}
use Rattle.cbor_io.specs.declared.error.ErrorCode.TheVariants as code
use Rattle.cbor_io.specs.declared.read_error.ReadError.{ReadError}
use Rattle.cbor_read.specs.Source.{Input, slice_input, slice_refusals}
use Rattle.cbor_decode.specs.Gives.{Advances, Fails, FailsBy, IsErrorOf, Reports, ReportsIo, Step, Stopped, limits, values}
use Rattle.cbor_decode.specs.Heads.{passed}
use Rattle.cbor_decode.specs.declared.refusal.Refused.{Refused}
use Rattle.cbor_decode.specs.declared.refusal.Refused.TheVariants as refused
use Rattle.cbor_decode.proofs.facts.Steps.{passed_stops, passed_on}
use Rattle.cbor_pushed.specs.Rests.{reading}

-- what is left behind some of the bytes
left_behind : (xs ys some : List ℕ) → xs ≡ some ++ ys → ys ≡ drop (length some) xs
left_behind xs ys some is = sym (ap (λ (l : List ℕ). drop (length some) l) is ∙ drop-append_seam some ys)

is_some : (xs ys : List ℕ) (o : Option (List ℕ)) (some : List ℕ) → o ≡ Some ys → Consumes (Some xs) o some → xs ≡ some ++ ys
is_some xs ys o some is took = subst (λ (p : Option (List ℕ)). Consumes (Some xs) p some) is took

module _ (bytes : List ℕ) (at levels : ℕ) (within : at ≤ length bytes) (short : length bytes < 2 ^ 64) where
  abbrev start : Input
  start = slice_input bytes at [] None

  long : at + length (drop at bytes) ≡ length bytes
  long = omega (arith, length-drop at bytes)

  reports : Reports start (drop at bytes)
  reports = record { is = refl; short = omega (arith, long) }

  same : values all_formats (limits start (drop at bytes)) ≡ reading (length bytes)
  same = ap reading long

  -- it was passed over
  pub item_passed : (f : Formats) (t : Input) → f ≡ all_formats → Step start t (λ l bs rest. passed (item_at (values f l) levels bs) ≡ Ok (tt, rest)) → Advances start t
      → (at < t.offset) × (t.offset ≤ length bytes) × (passed (item_at (reading (length bytes)) levels (drop at bytes)) ≡ Ok (tt, drop t.offset bytes))
  item_passed f t all step further =
      let got = step.reported (drop at bytes) reports in
      let some = step.took.some in
      let rest : got.rest ≡ drop (length some) (drop at bytes) = left_behind (drop at bytes) got.rest some (is_some (drop at bytes) got.rest t.to_come some got.reports.is step.took.bytes) in
      let here : got.rest ≡ drop t.offset bytes = rest ∙ drop-drop (length some) at bytes ∙ ap (λ (n : ℕ). drop n bytes) (sym step.took.count) in
      let read = ap (λ (g : Formats). passed (item_at (values g (limits start (drop at bytes))) levels (drop at bytes))) (sym all) ∙ got.holds in (
        further.further,
        omega (arith, got.total, long),
        ap (λ (m : Reading Val Vals (Pairs → Pairs)). passed (item_at m levels (drop at bytes))) (sym same) ∙ read ∙ ap (λ (l : List ℕ). Ok (tt, l)) here,
      )

  no_device : ReportsIo slice_refusals → ⊥
  no_device device = absurd cc

  -- a source that has no device reports no fault of one
  without : {A : Type 0} (k : ErrorCode) (end offset : ℕ) (read : Reads A) → FailsBy (ReportsIo slice_refusals) k end offset read → FailsBy ⊥ k end offset read
  without (code.Io e) end offset read h = absurd (no_device h.0)
  without (code.Message s) end offset read h = h
  without code.ScratchTooSmall end offset read h = h
  without code.EofWhileParsingValue end offset read h = h
  without code.EofWhileParsingArray end offset read h = h
  without code.EofWhileParsingMap end offset read h = h
  without code.LengthOutOfRange end offset read h = h
  without code.InvalidUtf8 end offset read h = h
  without code.UnassignedCode end offset read h = h
  without code.UnexpectedCode end offset read h = h
  without code.TrailingData end offset read h = h
  without code.ArrayTooShort end offset read h = h
  without code.ArrayTooLong end offset read h = h
  without code.RecursionLimitExceeded end offset read h = h
  without code.WrongEnumFormat end offset read h = h
  without code.WrongStructFormat end offset read h = h
  without code.NotCanonical end offset read h = h
  without code.OutOfMemory end offset read h = h

  memory_fails : {A : Type 0} (k : ErrorCode) (end offset : ℕ) (read : Reads A) → k ≡ code.OutOfMemory → offset ≡ 0 → FailsBy ⊥ k end offset read
  memory_fails k end offset read is none = subst (λ (k : ErrorCode). FailsBy ⊥ k end offset read) (sym is) none

  -- what the decoder read
  abbrev here : Formats → Reads (Unit {0})
  here f = passed (item_at (values f (limits start (drop at bytes))) levels (drop at bytes))

  -- an error of what the decoder kept reports the fault
  by_kept : (f : Formats) (t : Input) (kept : ReadError) (r : Refused) (e : Error) → IsErrorOf kept r e
      → Stopped slice_refusals (λ l bs. passed (item_at (values f l) levels bs)) start t kept r
      → FailsBy ⊥ (code_of e) (length bytes) (offset_of e) (here f)
  by_kept f t kept refused.OutOfMemory e is stopped = memory_fails (code_of e) (length bytes) (offset_of e) (here f) is.0 is.1
  by_kept f t kept refused.Kept e is stopped =
      let fails = stopped.reported.reported (drop at bytes) reports in
      let D = ReportsIo slice_refusals in
      let by_length = subst (λ (n : ℕ). FailsBy D (error_code (why kept)) n (place kept) (here f)) long fails in
      let by_code = subst (λ (k : ErrorCode). FailsBy D k (length bytes) (place kept) (here f)) (sym is.0) by_length in
      let by_place = subst (λ (n : ℕ). FailsBy D (code_of e) (length bytes) n (here f)) (sym is.1) by_code in
      without (code_of e) (length bytes) (offset_of e) (here f) by_place

  -- it wasn't, and the error says why
  pub item_refused : (f : Formats) (t : Input) (kept : ReadError) (r : Refused) (e : Error) → f ≡ all_formats → IsErrorOf kept r e
      → Stopped slice_refusals (λ l bs. passed (item_at (values f l) levels bs)) start t kept r
      → Fails (length bytes) e (item_at (reading (length bytes)) levels (drop at bytes))
  item_refused f t kept r e all is stopped =
      let fails = by_kept f t kept r e is stopped in
      let read = item_at (reading (length bytes)) levels (drop at bytes) in
      let one : here f ≡ passed read =
      ap here all ∙ ap (λ (m : Reading Val Vals (Pairs → Pairs)). passed (item_at m levels (drop at bytes))) same in
      passed_on ⊥ (code_of e) (length bytes) (offset_of e) (here f) read (λ fault h. passed_stops read fault (sym one ∙ h)) fails
