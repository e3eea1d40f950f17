-- What is read of the bytes that were written.
use Rattle.std.proofs.Common.{◌≡◌, ℕ, ◌+◌, ◌^◌, ◌<◌, ◌≤◌, ◌++◌, List, [], length, false, append-nil, refl, sym, ap, ◌∙◌, subst, arith, None}
use Rattle.std.specs.Prelude.{Result, Ok, Err, IfOk, IfErr, MatchResult}
use Rattle.cbor_model.specs.Raw.{Raw, depth}
use Rattle.cbor_model.specs.Spelling.{spell}
use Rattle.cbor_model.specs.Acceptable.{IsAcceptableWithin}
use Rattle.cbor_model.specs.Canonical.{IsStorable, IsOrdered}
use Rattle.cbor_model.specs.Document.{Doc, raw_of, document_bytes, IsStorableDocument, IsDocumentInRange}
use Rattle.cbor_model.specs.Formats.{Formats, all_formats}
use Rattle.cbor_model.specs.Plain.{Val}
use Rattle.cbor_model.specs.Reader.{Fault, item_at}
use Rattle.cbor_model.specs.Value.{value}
use Rattle.cbor_model.proofs.facts.Laws.{document_is_acceptable, depth-le, value_is_canonical}
use Rattle.cbor_model.proofs.facts.Reader.{ok_is, value_again}
use Rattle.cbor_read.specs.Source.{Input, start_of_slice, slice_refusals}
use Rattle.cbor_io.specs.declared.error.Error.{Error}
use Rattle.cbor_io.specs.declared.error.ErrorCode.{ErrorCode}
use Rattle.cbor_io.specs.declared.error.ErrorCode.TheVariants as code
use Rattle.cbor_io.specs.Error.{IsOutOfMemory}
use Rattle.cbor_io.specs.declared.read_error.ReadError.{ReadError}
use Rattle.cbor_io.specs.ReadError.{why, place, error_code}
use Rattle.cbor_decode.specs.Gives.{FailsAs, FailsBy, limits, values, Reports, Gives, ReportsIo, IsErrorOf}
use Rattle.cbor_decode.specs.declared.refusal.Refused.{Refused}
use Rattle.cbor_decode.specs.declared.refusal.Refused.TheVariants as refused
use Rattle.cbor_value.specs.declared.Value.{Value}
use Rattle.cbor_value.specs.View.{view}
use Rattle.cbor_ser.specs.Written.{IsNotWritten}
use Rattle.cbor_convert.specs.Meaning.{value_of}
use Rattle.cbor_convert.proofs.MemoryAnswers.{refused_memory}

-- ---- the item of a document

module _ (d : Doc) (bytes : List ℕ) (stored : IsStorableDocument d) (fits : IsDocumentInRange d) (is : bytes ≡ document_bytes d false false) where
  pub item_spelled : spell (raw_of d false false) ≡ bytes
  unfolding document_bytes
  item_spelled = sym is

  -- it nests no deeper than it has bytes
  pub item_acceptable : IsAcceptableWithin (length bytes) (raw_of d false false)
  item_acceptable =
      let r = raw_of d false false in
      let nests : depth r ≤ length bytes = omega (arith, depth-le r, ap length item_spelled) in
      document_is_acceptable (length bytes) d false false stored fits nests

  pub value_kept : length bytes < 2 ^ 64 → IsStorable (value_of d) × IsOrdered (value_of d)
  unfolding value_of
  value_kept short =
      let few : length (spell (raw_of d false false)) < 2 ^ 64 = omega (arith, short, ap length item_spelled) in
      let all = value_is_canonical (length bytes) (raw_of d false false) item_acceptable few in
      (all.0, all.1)

-- ---- how it is read

-- nothing but lack of memory refuses what the reference reader reads
no_fault : {A : Type 0} (code : _) (end offset : ℕ) (read : Result A Fault) (y : A) → read ≡ Ok y → FailsAs code end offset read → ⊥
no_fault code end offset read y is h = absurd (let same : Ok y ≡ Err (record { why = code; left = h.0 }) = sym is ∙ h.2 in cc)

fails_memory : {A : Type 0} (k : ErrorCode) (end offset : ℕ) (read : Result A Fault) (y : A) → read ≡ Ok y → FailsBy (ReportsIo slice_refusals) k end offset read → (k ≡ code.OutOfMemory) × (offset ≡ 0)
fails_memory code.OutOfMemory end offset read y is h = (refl, h)
fails_memory (code.Io fault) end offset read y is h = absurd (let none : false ≡ _ = h.0.1 in cc)
fails_memory code.EofWhileParsingValue end offset read y is h = absurd (no_fault _ end offset read y is h)
fails_memory code.EofWhileParsingArray end offset read y is h = absurd (no_fault _ end offset read y is h)
fails_memory code.EofWhileParsingMap end offset read y is h = absurd (no_fault _ end offset read y is h)
fails_memory code.LengthOutOfRange end offset read y is h = absurd (no_fault _ end offset read y is h)
fails_memory code.InvalidUtf8 end offset read y is h = absurd (no_fault _ end offset read y is h)
fails_memory code.UnassignedCode end offset read y is h = absurd (no_fault _ end offset read y is h)
fails_memory code.UnexpectedCode end offset read y is h = absurd (no_fault _ end offset read y is h)
fails_memory code.TrailingData end offset read y is h = absurd (no_fault _ end offset read y is h)
fails_memory code.RecursionLimitExceeded end offset read y is h = absurd (no_fault _ end offset read y is h)
fails_memory code.ScratchTooSmall end offset read y is h = absurd (no_fault _ end offset read y is h)
fails_memory code.WrongStructFormat end offset read y is h = absurd (no_fault _ end offset read y is h)
fails_memory _ end offset read y is h = absurd h

module _ (bs : List ℕ) (r : Raw) (good : IsAcceptableWithin (length bs) r) (spelled : spell r ≡ bs) (short : length bs < 2 ^ 64) where
  abbrev source : Input
  source = start_of_slice bs None

  reports : Reports source bs
  reports = record { is = refl; short = omega (arith, short) }

  read_as : item_at (values all_formats (limits source bs)) (length bs) bs ≡ Ok (value r, [])
  read_as =
      let same : spell r ++ [] ≡ bs = append-nil (spell r) ∙ spelled in
      subst (λ (t : List ℕ). item_at (values all_formats (limits source bs)) (length bs) t ≡ Ok (value r, [])) same
      (value_again (length bs) (limits source bs).total None r [] (omega (arith, short)) (omega (arith, ap length same)) tt good)

  -- what a deserializer of these formats and levels answers, which begins at s and ends at t
  abbrev Reads : Formats → ℕ → Input → Input → ReadError → Result Value Refused → Type 0
  Reads f levels s t kept answer = Gives slice_refusals view (λ l. item_at (values f l) levels) s t kept answer

  from_front : (f : Formats) (levels : ℕ) (s t : Input) (kept : ReadError) (answer : Result Value Refused) → f ≡ all_formats → levels ≡ length bs → s ≡ source → Reads f levels s t kept answer → Reads all_formats (length bs) source t kept answer
  from_front f levels s t kept answer all deep front given =
      subst (λ (f : Formats). Reads f (length bs) source t kept answer) all
      (subst (λ (levels : ℕ). Reads f levels source t kept answer) deep
      (subst (λ (s : Input). Reads f levels s t kept answer) front given))

  pub is_value : (f : Formats) (levels : ℕ) (s t : Input) (kept : ReadError) (v : Value) → f ≡ all_formats → levels ≡ length bs → s ≡ source → Reads f levels s t kept (Ok v) → view v ≡ value r
  is_value f levels s t kept v all deep front given =
      let got = (from_front f levels s t kept (Ok v) all deep front given).reported bs reports in
      ap (λ (p : Val × List ℕ). p.0) (ok_is _ _ (sym got.holds ∙ read_as))

  stopped_memory : (t : Input) (kept : ReadError) (why : Refused) (e : Error) → Reads all_formats (length bs) source t kept (Err why) → IsErrorOf kept why e → IsOutOfMemory e
  stopped_memory t kept refused.OutOfMemory e h is = is
  stopped_memory t kept refused.Kept e h is =
      let m = fails_memory (error_code (why kept)) (source.offset + length bs) (place kept) _ (value r, []) read_as (h.reported.reported bs reports) in
      (is.0 ∙ m.0, is.1 ∙ m.1)

  pub memory_alone : {t : Input} (f : Formats) (levels : ℕ) (s : Input) (kept : ReadError) (why : Refused) (e : Error) → f ≡ all_formats → levels ≡ length bs → s ≡ source → Reads f levels s t kept (Err why) → IsErrorOf kept why e → IsOutOfMemory e
  memory_alone {t} f levels s kept why e all deep front given = stopped_memory t kept why e (from_front f levels s t kept (Err why) all deep front given)

-- ---- what `to_value` answers

value_part : (d : Doc) (answer : Result Value Error) → MatchResult answer (λ v. view v ≡ value_of d) IsOutOfMemory → IfOk answer (λ v. view v ≡ value_of d)
value_part d (Ok v) h = h
value_part d (Err e) h = tt

kept_part : (d : Doc) (P : Val → Type 0) (answer : Result Value Error) → P (value_of d) → MatchResult answer (λ v. view v ≡ value_of d) IsOutOfMemory → IfOk answer (λ v. P (view v))
kept_part d P (Ok v) h same = subst P (sym same) h
kept_part d P (Err e) h same = tt

memory_part : (d : Doc) (answer : Result Value Error) → MatchResult answer (λ v. view v ≡ value_of d) IsOutOfMemory → IfErr answer (IsNotWritten (IsStorableDocument d))
memory_part d (Ok v) h = tt
memory_part d (Err e) h = refused_memory (IsStorableDocument d) e h

module _ (d : Doc) (bytes : List ℕ) (answer : Result Value Error) (stored : IsStorableDocument d) (fits : IsDocumentInRange d) (is : bytes ≡ document_bytes d false false) (short : length bytes < 2 ^ 64)
    (given : (r : Raw) → IsAcceptableWithin (length bytes) r → spell r ≡ bytes → MatchResult answer (λ v. view v ≡ value r) IsOutOfMemory) where
  matched : MatchResult answer (λ v. view v ≡ value_of d) IsOutOfMemory
  unfolding value_of
  matched = given (raw_of d false false) (item_acceptable d bytes stored fits is) (item_spelled d bytes stored fits is)

  pub value_answered : IfOk answer (λ v. view v ≡ value_of d)
  value_answered = value_part d answer matched

  pub stored_answered : IfOk answer (λ v. IsStorable (view v))
  stored_answered = kept_part d IsStorable answer (value_kept d bytes stored fits is short).0 matched

  pub ordered_answered : IfOk answer (λ v. IsOrdered (view v))
  ordered_answered = kept_part d IsOrdered answer (value_kept d bytes stored fits is short).1 matched

  pub memory_answered : IfErr answer (IsNotWritten (IsStorableDocument d))
  memory_answered = memory_part d answer matched
