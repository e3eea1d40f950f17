-- Strings that are passed over after their heads.
use Rattle.std.proofs.Common.{◌≡◌, ◌+◌, ◌-◌, ℕ, Bool, List, length, Option, Some, None, Result, Ok, Err, IfErr, refl, sym, ap, subst, ◌∙◌, arith}
use Rattle.std.specs.Str.{IsUtf8}
use Rattle.std.specs.Str.Lossy.{utf8_valid_len}
use Rattle.cbor_model.specs.Formats.{all_formats}
use Rattle.cbor_model.specs.Plain as plain
use Rattle.cbor_model.specs.Plain.{Val}
use Rattle.cbor_model.specs.Reader.{Fault, Reads, bytes_at, chunks_at, exceeds_most, string_at, string_chunks_at, text_at, text_chunks_at}
use Rattle.cbor_read.specs.Source.{Input}
use Rattle.cbor_io.specs.Error.{code_of, offset_of}
use Rattle.cbor_io.specs.ReadError.{why, place, error_code}
use Rattle.cbor_io.specs.declared.error.Error.{Error}
use Rattle.cbor_io.specs.declared.error.ErrorCode.{ErrorCode}
use Rattle.cbor_io.specs.declared.error.ErrorCode.TheVariants as code
use Rattle.cbor_io.specs.declared.read_error.ReadError.{ReadError}
use Rattle.cbor_io.specs.declared.read_error.ReadErrorCode.{ReadErrorCode}
use Rattle.cbor_io.specs.declared.read_error.ReadErrorCode.TheVariants as reading
use Rattle.cbor_decode.specs.Gives.{FailsBy, IsErrorOf, Limits, limits, ReportsIo, Step, ReportsWhy, Reports, values}
use Rattle.cbor_decode.specs.Heads.{passed}
use Rattle.cbor_decode.specs.declared.head.Head.{Head}
use Rattle.cbor_decode.specs.declared.head.Head.TheVariants as head
use Rattle.cbor_decode.specs.declared.refusal.Refused.{Refused}
use Rattle.cbor_decode.specs.declared.refusal.Refused.TheVariants as refused
use Rattle.cbor_decode.proofs.facts.Steps.{step_map, why_map}
use Rattle.cbor_decode_as.specs.TaggedHeads.{RefusesBehind, behind_any, opened_at}
use Rattle.cbor_decode_as.specs.Strings.{IsNotUtf8, KeepsTextOf, ReportsString, behind_string, content_at}
use Rattle.cbor_decode_as.specs.Takes.{FaultOrMessage, RefusesWhole, HasItem, ReportsFault, any_item}
use Rattle.cbor_decode_as.specs.declared.head.HeadAt.{HeadAt}
use Rattle.cbor_decode_as.proofs.texts.StringContents.{bad_text, chunks_of, no_chunks, none_picked, passes, picked, stops_at}
use Rattle.cbor_decode_as.proofs.heads.PassedOver.{behind_stands, behind_stops, behind_whole, reported_or_excused}
use Rattle.cbor_decode_as.proofs.numbers.Scalars.{reported_why}

-- ---- after a head

module _ (l : Limits) (left : ℕ) where
  pub bytes_passed : (n : Option ℕ) (bs b rest : List ℕ) → content_at l (head.Bytes n) bs ≡ Ok (b, rest) → passed (behind_any left (head.Bytes n) l bs) ≡ Ok (tt, rest)
  unfolding string_at string_chunks_at
  bytes_passed (Some n) bs b rest is = rw is refl
  bytes_passed None bs b rest is = rw (chunks_of (chunks_at (exceeds_most l.room) 0 2 bs) b rest is).is refl

  pub bytes_fail : (n : Option ℕ) (bs : List ℕ) (f : Fault) → content_at l (head.Bytes n) bs ≡ Err f → behind_any left (head.Bytes n) l bs ≡ Err f
  unfolding string_at string_chunks_at
  bytes_fail (Some n) bs f is = rw is refl
  bytes_fail None bs f is = rw (no_chunks (chunks_at (exceeds_most l.room) 0 2 bs) f is) refl

  pub text_passed : (n : Option ℕ) (bs b rest : List ℕ) → content_at l (head.Text n) bs ≡ Ok (b, rest) → IsUtf8 b → passed (behind_any left (head.Text n) l bs) ≡ Ok (tt, rest)
  unfolding text_at text_chunks_at
  text_passed (Some n) bs b rest is utf8 = ap (λ (r : Reads Val). passed r) (picked _ (bytes_at n bs) _ _ (b, rest) is ∙ passes (values all_formats l) (λ b. refl) (plain.text b) b rest utf8)
  text_passed None bs b rest is utf8 =
      let cs = chunks_of (chunks_at (exceeds_most l.room) 0 3 bs) b rest is in
      rw (cs.is, cs.bytes) (ap (λ (r : Reads Val). passed r) (passes (values all_formats l) (λ b. refl) (plain.text b) b rest utf8))

  pub text_fails : (n : Option ℕ) (bs : List ℕ) (f : Fault) → content_at l (head.Text n) bs ≡ Err f → behind_any left (head.Text n) l bs ≡ Err f
  unfolding text_at text_chunks_at
  text_fails (Some n) bs f is = none_picked _ (bytes_at n bs) _ _ f is
  text_fails None bs f is = rw (no_chunks (chunks_at (exceeds_most l.room) 0 3 bs) f is) refl

  pub text_faulty : (n : Option ℕ) (bs b rest : List ℕ) → content_at l (head.Text n) bs ≡ Ok (b, rest) → (IsUtf8 b → ⊥) → behind_any left (head.Text n) l bs ≡ Err (bad_text b rest)
  unfolding text_at text_chunks_at
  text_faulty (Some n) bs b rest is bad = picked _ (bytes_at n bs) _ _ (b, rest) is ∙ stops_at (values all_formats l) (λ b. refl) (plain.text b) b rest bad
  text_faulty None bs b rest is bad =
      let cs = chunks_of (chunks_at (exceeds_most l.room) 0 3 bs) b rest is in
      rw (cs.is, cs.bytes) (stops_at (values all_formats l) (λ b. refl) (plain.text b) b rest bad)

  -- a string holds no levels
  bytes_level : (n : Option ℕ) (bs : List ℕ) → behind_string (head.Bytes n) l bs ≡ behind_any left (head.Bytes n) l bs
  bytes_level (Some n) bs = refl
  bytes_level None bs = refl

  text_level : (n : Option ℕ) (bs : List ℕ) → behind_string (head.Text n) l bs ≡ behind_any left (head.Text n) l bs
  text_level (Some n) bs = refl
  text_level None bs = refl

-- ---- errors

-- the error of a kept refusal of bytes that aren't UTF-8
pub kept_bad : (kept : ReadError) (b : List ℕ) (end back : ℕ) (e : Error) → (IsUtf8 b → ⊥) → back ≡ length b - utf8_valid_len b
    → (why kept ≡ reading.InvalidUtf8) × (place kept + back ≡ end) → IsErrorOf kept refused.Kept e → IsNotUtf8 b end e
kept_bad kept b end back e bad long at is = record {
  bad = bad;
  code = is.0 ∙ ap error_code at.0;
  place = ap (λ (n : ℕ). n + (length b - utf8_valid_len b)) is.1 ∙ ap (λ (n : ℕ). place kept + n) (sym long) ∙ at.1;
}

-- of bytes that aren't UTF-8
pub bad_fails : (allowed : ReadErrorCode → Bool) (s t : Input) (n : Option ℕ) (b : List ℕ) (at : ℕ) → Step s t (λ l bs rest. content_at l (head.Text n) bs ≡ Ok (b, rest)) → (IsUtf8 b → ⊥) → at + (length b - utf8_valid_len b) ≡ t.offset
    → (bs : List ℕ) → Reports s bs → FailsBy (ReportsIo allowed) code.InvalidUtf8 (s.offset + length bs) at (behind_string (head.Text n) (limits s bs) bs)
bad_fails allowed s t n b at step bad place bs reports =
    let got = step.reported bs reports in
    let left : ℕ = length got.rest + (length b - utf8_valid_len b) in
    let there : at + left ≡ s.offset + length bs = omega (arith, place, got.total) in
    (left, there, text_faulty (limits s bs) 0 n bs b got.rest got.holds bad)

pub text_reported : (allowed : ReadErrorCode → Bool) (s t : Input) (n : Option ℕ) (b : List ℕ) (e : Error) → Step s t (λ l bs rest. content_at l (head.Text n) bs ≡ Ok (b, rest)) → IsNotUtf8 b t.offset e → ReportsFault allowed (behind_string (head.Text n)) s e
text_reported allowed s t n b e step is bs reports =
    subst (λ (k : ErrorCode). FailsBy (ReportsIo allowed) k (s.offset + length bs) (offset_of e) (behind_string (head.Text n) (limits s bs) bs)) (sym is.code)
    (bad_fails allowed s t n b (offset_of e) step is.bad is.place bs reports)

pub checked_reported : {X : Type 0} (view : X → List ℕ) (allowed : ReadErrorCode → Bool) (s t : Input) (n : Option ℕ) (b : List ℕ) (kept : ReadError) (r : Result X Refused) → Step s t (λ l bs rest. content_at l (head.Text n) bs ≡ Ok (b, rest)) → KeepsTextOf view b t.offset kept r
    → IfErr r (ReportsString allowed (head.Text n) s kept)
checked_reported view allowed s t n b kept (Ok x) step is = tt
checked_reported view allowed s t n b kept (Err r) step is = λ e made. text_reported allowed s t n b e step (is e made)

pub text_unread : (allowed : ReadErrorCode → Bool) (s : Input) (n : Option ℕ) (kept : ReadError) (r : Refused) → ReportsWhy allowed (λ l. content_at l (head.Text n)) s kept r → ReportsWhy allowed (behind_string (head.Text n)) s kept r
text_unread allowed s n kept r h = why_map allowed (λ l. content_at l (head.Text n)) (behind_string (head.Text n)) s kept r (λ l bs f is. text_fails l 0 n bs f is) h

pub bytes_unread : (allowed : ReadErrorCode → Bool) (s : Input) (n : Option ℕ) (kept : ReadError) (r : Refused) → ReportsWhy allowed (λ l. content_at l (head.Bytes n)) s kept r → ReportsWhy allowed (behind_string (head.Bytes n)) s kept r
bytes_unread allowed s n kept r h = why_map allowed (λ l. content_at l (head.Bytes n)) (behind_string (head.Bytes n)) s kept r (λ l bs f is. bytes_fail l 0 n bs f is) h

pub text_reports : (allowed : ReadErrorCode → Bool) (s : Input) (n : Option ℕ) (kept : ReadError) (r : Refused) → ReportsWhy allowed (λ l. content_at l (head.Text n)) s kept r → ReportsString allowed (head.Text n) s kept r
text_reports allowed s n kept r h e is = reported_why allowed (behind_string (head.Text n)) s kept r e is (text_unread allowed s n kept r h)

-- ---- the item at the front

module _ (allowed : ReadErrorCode → Bool) (found : HeadAt) (levels : ℕ) (s m : Input) (opens : Step s m (λ l bs rest. opened_at levels bs ≡ Ok ((found.levels, found.head), rest))) where
  -- the fault of a string
  string_whole : (h : Head) (e : Error) → found.head ≡ h → ((l : Limits) (bs : List ℕ) → behind_string h l bs ≡ behind_any found.levels h l bs) → ReportsFault allowed (behind_string h) m e → RefusesWhole allowed levels s e
  string_whole h e is level reported = behind_whole allowed found levels s m e opens here
    where
      here : RefusesBehind allowed found m e
      here bs reports =
          let l = limits m bs in
          let D = ReportsIo allowed in
          let end = m.offset + length bs in
          let there = reported_or_excused D (code_of e) end (offset_of e) (behind_string h l bs) (reported bs reports) in
          subst (λ (r : Reads Val). FaultOrMessage D (code_of e) end (offset_of e) r) (level l bs ∙ ap (λ (h : Head). behind_any found.levels h l bs) (sym is)) there

  pub text_whole : (n : Option ℕ) (e : Error) → found.head ≡ head.Text n → ReportsFault allowed (behind_string (head.Text n)) m e → RefusesWhole allowed levels s e
  text_whole n e is = string_whole (head.Text n) e is (λ l bs. text_level l found.levels n bs)

  pub bytes_whole : (n : Option ℕ) (kept : ReadError) (r : Refused) (e : Error) → found.head ≡ head.Bytes n → ReportsWhy allowed (λ l. content_at l (head.Bytes n)) m kept r → IsErrorOf kept r e → RefusesWhole allowed levels s e
  bytes_whole n kept r e is h made = string_whole (head.Bytes n) e is (λ l bs. bytes_level l found.levels n bs) (reported_why allowed (behind_string (head.Bytes n)) m kept r e made (bytes_unread allowed m n kept r h))

  pub bytes_stand : (n : Option ℕ) (t : Input) (b : List ℕ) → found.head ≡ head.Bytes n → Step m t (λ l bs rest. content_at l (head.Bytes n) bs ≡ Ok (b, rest)) → HasItem levels s
  bytes_stand n t b is step =
      behind_stands allowed found levels s m t opens
      (step_map m t (λ l bs rest. content_at l (head.Bytes n) bs ≡ Ok (b, rest)) (λ l bs rest. passed (behind_any found.levels found.head l bs) ≡ Ok (tt, rest))
      (λ l bs rest here. ap (λ (h : Head). passed (behind_any found.levels h l bs)) is ∙ bytes_passed l found.levels n bs b rest here) step)

  pub text_stands : (n : Option ℕ) (t : Input) (b : List ℕ) → found.head ≡ head.Text n → IsUtf8 b → Step m t (λ l bs rest. content_at l (head.Text n) bs ≡ Ok (b, rest)) → HasItem levels s
  text_stands n t b is utf8 step =
      behind_stands allowed found levels s m t opens
      (step_map m t (λ l bs rest. content_at l (head.Text n) bs ≡ Ok (b, rest)) (λ l bs rest. passed (behind_any found.levels found.head l bs) ≡ Ok (tt, rest))
      (λ l bs rest here. ap (λ (h : Head). passed (behind_any found.levels h l bs)) is ∙ text_passed l found.levels n bs b rest here utf8) step)

  -- what follows the head stops the item
  string_stops : (h : Head) (kept : ReadError) (r : Refused) → found.head ≡ h → ((l : Limits) (bs : List ℕ) → behind_string h l bs ≡ behind_any found.levels h l bs) → ReportsWhy allowed (behind_string h) m kept r → ReportsWhy allowed (any_item levels) s kept r
  string_stops h kept r is level stopped =
      behind_stops allowed found levels s m kept r opens
      (why_map allowed (behind_string h) (λ l bs. passed (behind_any found.levels found.head l bs)) m kept r
      (λ l bs f here. ap (λ (r : Reads Val). passed r) (ap (λ (h : Head). behind_any found.levels h l bs) is ∙ sym (level l bs) ∙ here)) stopped)

  pub text_stops : (n : Option ℕ) (kept : ReadError) (r : Refused) → found.head ≡ head.Text n → ReportsWhy allowed (behind_string (head.Text n)) m kept r → ReportsWhy allowed (any_item levels) s kept r
  text_stops n kept r is = string_stops (head.Text n) kept r is (λ l bs. text_level l found.levels n bs)

  pub bytes_stop_item : (n : Option ℕ) (kept : ReadError) (r : Refused) → found.head ≡ head.Bytes n → ReportsWhy allowed (behind_string (head.Bytes n)) m kept r → ReportsWhy allowed (any_item levels) s kept r
  bytes_stop_item n kept r is = string_stops (head.Bytes n) kept r is (λ l bs. bytes_level l found.levels n bs)
