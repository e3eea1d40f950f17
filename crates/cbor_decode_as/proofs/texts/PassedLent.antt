-- Strings that are lent, and items of other kinds that are passed over.
use Rattle.std.proofs.Common.{◌≡◌, inl, inr, ◌+◌, ◌-◌, ◌^◌, ◌<◌, ℕ, Bool, true, false, ltb, List, length, Option, Some, None, Result, Ok, Err, IfErr, refl, sym, ap, subst, ◌∙◌, arith}
use Rattle.std.specs.Str.{IsUtf8}
use Rattle.std.proofs.lemmas.Bool.{lt-ltb}
use Rattle.cbor_model.specs.Refusal.{length_out_of_range}
use Rattle.cbor_model.specs.Reader.{Fault, Reads, before, bytes_at, ended}
use Rattle.cbor_read.specs.Source.{Input, IsOfSource, Lends, RefusedPart, TookSome, part_bytes}
use Rattle.cbor_read.specs.declared.EitherLifetime.{EitherLifetime}
use Rattle.cbor_io.specs.Error.{code_of, offset_of}
use Rattle.cbor_io.specs.ReadError.{why, place, error_code, IsMemory}
use Rattle.cbor_io.specs.declared.error.Error.{Error}
use Rattle.cbor_io.specs.declared.error.ErrorCode.{ErrorCode}
use Rattle.cbor_io.specs.declared.read_error.ReadError.{ReadError}
use Rattle.cbor_io.specs.declared.read_error.ReadErrorCode.{ReadErrorCode}
use Rattle.cbor_io.specs.declared.read_error.ReadErrorCode.TheVariants as reading
use Rattle.cbor_decode.specs.Gives.{FailsBy, IsAt, Limits, limits, ReportsIo, Step, ReportsWhy, Stops, ReportsNoKey}
use Rattle.cbor_decode.specs.Heads.{passed}
use Rattle.cbor_decode.specs.declared.head.Head.{Head}
use Rattle.cbor_decode.specs.declared.head.Head.TheVariants as head
use Rattle.cbor_decode.specs.declared.refusal.Refused.{Refused}
use Rattle.cbor_decode.specs.declared.refusal.Refused.TheVariants as refused
use Rattle.cbor_decode.proofs.facts.Steps.{kept_reports, passed_on, refused_stops}
use Rattle.cbor_decode_as.specs.TaggedHeads.{opened_at, behind_any}
use Rattle.cbor_decode_as.specs.Strings.{BytesOf, IsKept, IsNoKey, IsMadeOf, Lent, LentText, LendsWhole, PartText, UnreadBehind, UnreadBy, UnreadWhole, Utf8Of, behind_string, content_at, text_bytes}
use Rattle.cbor_decode_as.specs.Takes.{Refuses, RefusesWhole, any_item}
use Rattle.cbor_decode_as.specs.declared.borrowed.EitherStr.{EitherStr}
use Rattle.cbor_decode_as.specs.declared.borrowed.Unread.{Unread}
use Rattle.cbor_decode_as.specs.declared.borrowed.Unread.TheVariants.{Stopped as Halted, Other}
use Rattle.cbor_decode_as.specs.declared.head.HeadAt.{HeadAt}
use Rattle.cbor_decode_as.proofs.heads.PassedOver.{behind_stops, stands_whole, stood_stands, reported_or_excused, unopened_stops}
use Rattle.cbor_decode_as.proofs.texts.PassedStrings.{bad_fails, bytes_stand, bytes_stop_item, bytes_unread, text_stands, text_stops, text_unread}
use Rattle.cbor_decode_as.proofs.texts.Lending.{ends_at}
use Rattle.cbor_decode_as.proofs.numbers.Scalars.{excused_or}

-- ---- bytes

cut : (n : ℕ) (bs : List ℕ) → length bs < n → bytes_at n bs ≡ Err ended
cut n bs short = rw (lt-ltb (length bs) n short) refl

too_far : (s : Input) (bs : List ℕ) (n : ℕ) → ltb (s.offset + n) (2 ^ 64) ≡ false → ltb ((limits s bs).total - length bs + n) (2 ^ 64) ≡ false
too_far s bs n h = subst (λ (k : ℕ). ltb (k + n) (2 ^ 64) ≡ false) (omega arith) h

-- ---- refusals

memory_stop : {A : Type 0} (allowed : ReadErrorCode → Bool) (read : Limits → List ℕ → Reads A) (s : Input) (q : ReadError) → IsMemory q → Stops allowed read s q
memory_stop allowed read s q is = record {
  reported = λ bs reports. subst (λ (k : ReadErrorCode). FailsBy (ReportsIo allowed) (error_code k) (s.offset + length bs) (place q) (read (limits s bs) bs)) (sym is.0) is.1;
}

-- the refusal that was kept
pub kept_stop : {A : Type 0} (allowed : ReadErrorCode → Bool) (read : Limits → List ℕ → Reads A) (s : Input) (kept : ReadError) (r : Refused) (q : ReadError) → IsKept kept r q → ReportsWhy allowed read s kept r → Stops allowed read s q
kept_stop allowed read s kept refused.OutOfMemory q is h = memory_stop allowed read s q is
kept_stop allowed read s kept refused.Kept q is h = subst (Stops allowed read s) (sym is) h

pub kept_is : (kept : ReadError) (r : Refused) (q : ReadError) (Q : ReadError → Type 0) → r ≡ refused.Kept → Q kept → IsKept kept r q → Q q
kept_is kept refused.OutOfMemory q Q keeps h is = absurd cc
kept_is kept refused.Kept q Q keeps h is = subst Q (sym is) h

pub source_no_key : (q : ReadError) → IsOfSource (why q) → IsNoKey (Halted q)
source_no_key q kind = λ key. absurd (subst IsOfSource key kind)

pub kept_no_key : (kept : ReadError) (r : Refused) (q : ReadError) → IsKept kept r q → ReportsNoKey kept r → IsNoKey (Halted q)
kept_no_key kept refused.OutOfMemory q is h = λ key. let memory = is.0 in absurd cc
kept_no_key kept refused.Kept q is h = λ key. h (ap why (sym is) ∙ key)

-- what stops a reading leaves nothing that is read
pub stops_refuses : {A : Type 0} {t : Input} (allowed : ReadErrorCode → Bool) (read : Limits → List ℕ → Reads A) (s : Input) (q : ReadError) (N : Limits → List ℕ → Type 0) → ((l : Limits) (bs : List ℕ) (f : Fault) → read l bs ≡ Err f → N l bs) → Stops allowed read s q
    → TookSome s t → Refuses allowed s t (error_code (why q)) (place q) N
stops_refuses allowed read s q N none h took = record {
  took = took;
  reported = λ bs reports.
      let l = limits s bs in
      elim (excused_or (ReportsIo allowed) (error_code (why q)) (s.offset + length bs) (place q) (read l bs) (h.reported bs reports)) [
        | inl excused ↦ inl excused
        | inr met ↦ inr (none l bs met.0 met.1)
      ];
}

abbrev NoContent : Head → Limits → List ℕ → Type 0
NoContent h l bs = (b rest : List ℕ) → content_at l h bs ≡ Ok (b, rest) → ⊥

abbrev NoText : Head → Limits → List ℕ → Type 0
NoText h l bs = (b rest : List ℕ) → content_at l h bs ≡ Ok (b, rest) → IsUtf8 b → ⊥

pub content_refuses : {t : Input} (allowed : ReadErrorCode → Bool) (h : Head) (s : Input) (q : ReadError) → Stops allowed (λ l. content_at l h) s q → TookSome s t → Refuses allowed s t (error_code (why q)) (place q) (NoContent h)
content_refuses allowed h s q = stops_refuses allowed (λ l. content_at l h) s q (NoContent h) (λ l bs f stops b rest is. absurd (let both = sym is ∙ stops in cc))

pub content_refuses_text : {t : Input} (allowed : ReadErrorCode → Bool) (h : Head) (s : Input) (q : ReadError) → Stops allowed (λ l. content_at l h) s q → TookSome s t → Refuses allowed s t (error_code (why q)) (place q) (NoText h)
content_refuses_text allowed h s q = stops_refuses allowed (λ l. content_at l h) s q (NoText h) (λ l bs f stops b rest is utf8. absurd (let both = sym is ∙ stops in cc))

-- n bytes that aren't there
pub bytes_cut : (allowed : ReadErrorCode → Bool) (s t : Input) (n : ℕ) (q : ReadError) → RefusedPart allowed s t n q → Stops allowed (λ l. content_at l (head.Bytes (Some n))) s q
bytes_cut allowed s t n q h = refused_stops allowed s t n q (λ l. content_at l (head.Bytes (Some n))) (λ l bs short. cut n bs short) h.1 h.0

pub text_cut : (allowed : ReadErrorCode → Bool) (s t : Input) (n : ℕ) (q : ReadError) → ltb (s.offset + n) (2 ^ 64) ≡ true → RefusedPart allowed s t n q → Stops allowed (λ l. content_at l (head.Text (Some n))) s q
text_cut allowed s t n q room h =
    let bytes = refused_stops allowed s t n q (λ l. bytes_at n) (λ l bs short. cut n bs short) h.1 h.0 in
    record {
      reported = λ bs reports.
          let same : bytes_at n bs ≡ content_at (limits s bs) (head.Text (Some n)) bs = rw (ends_at s bs n room) refl in
          subst (λ (r : Reads (List ℕ)). FailsBy (ReportsIo allowed) (error_code (why q)) (s.offset + length bs) (place q) r) same (bytes.reported bs reports);
    }

pub text_too_long : (allowed : ReadErrorCode → Bool) (s : Input) (n : ℕ) (kept : ReadError) (r : Refused) → ltb (s.offset + n) (2 ^ 64) ≡ false → r ≡ refused.Kept → IsAt reading.LengthOutOfRange s.offset kept → ReportsWhy allowed (λ l. content_at l (head.Text (Some n))) s kept r
text_too_long allowed s n kept r room is keeps = kept_reports allowed s (λ l. content_at l (head.Text (Some n))) kept r (IsAt reading.LengthOutOfRange s.offset) here is keeps
  where
    here : (e : ReadError) → IsAt reading.LengthOutOfRange s.offset e → Stops allowed (λ l. content_at l (head.Text (Some n))) s e
    here e at = record {
      reported = λ bs reports.
          let l = limits s bs in
          let there : place e + length bs ≡ s.offset + length bs = omega (arith, at.1) in
          let long : content_at l (head.Text (Some n)) bs ≡ Err (before length_out_of_range bs) = rw (too_far s bs n room) refl in
          subst (λ (k : ReadErrorCode). FailsBy (ReportsIo allowed) (error_code k) (s.offset + length bs) (place e) (content_at l (head.Text (Some n)) bs)) (sym at.0) (length bs, there, long);
    }

-- a string whose content stops
pub bytes_by : (allowed : ReadErrorCode → Bool) (s : Input) (n : Option ℕ) (q : ReadError) → Stops allowed (λ l. content_at l (head.Bytes n)) s q → UnreadBy allowed (behind_string (head.Bytes n)) s (Halted q)
bytes_by allowed s n q h = bytes_unread allowed s n q refused.Kept h

pub text_by : (allowed : ReadErrorCode → Bool) (s : Input) (n : Option ℕ) (q : ReadError) → Stops allowed (λ l. content_at l (head.Text n)) s q → UnreadBy allowed (behind_string (head.Text n)) s (Halted q)
text_by allowed s n q h = text_unread allowed s n q refused.Kept h

-- what stops a reading stops passing over it
passes_stop : {A : Type 0} (allowed : ReadErrorCode → Bool) (read : Limits → List ℕ → Reads A) (s : Input) (q : ReadError) → Stops allowed read s q → Stops allowed (λ l bs. passed (read l bs)) s q
passes_stop allowed read s q h = record {
  reported = λ bs reports. passed_on (ReportsIo allowed) (error_code (why q)) (s.offset + length bs) (place q) (read (limits s bs) bs) (passed (read (limits s bs) bs)) (λ f is. rw is refl) (h.reported bs reports);
}

-- the text of a part
pub part_reported : (allowed : ReadErrorCode → Bool) (s t : Input) (n : Option ℕ) (p : EitherLifetime) (end : ℕ) (r : Result EitherStr Unread) → Step s t (λ l bs rest. content_at l (head.Text n) bs ≡ Ok (part_bytes p, rest)) → end ≡ t.offset → PartText p end r
    → IfErr r (UnreadBy allowed (behind_string (head.Text n)) s)
part_reported allowed s t n p end (Ok x) step same is = tt
part_reported allowed s t n p end (Err (Halted e)) step same is = record {
  reported = λ bs reports.
      subst (λ (k : ReadErrorCode). FailsBy (ReportsIo allowed) (error_code k) (s.offset + length bs) (place e) (behind_string (head.Text n) (limits s bs) bs)) (sym is.1)
      (bad_fails allowed s t n (part_bytes p) (place e) step is.0 (is.2 ∙ same) bs reports);
}
part_reported allowed s t n p end (Err Other) step same is = absurd is

-- ---- the item at the front

module _ (allowed : ReadErrorCode → Bool) (found : HeadAt) (levels : ℕ) (s m : Input) (opens : Step s m (λ l bs rest. opened_at levels bs ≡ Ok ((found.levels, found.head), rest))) where
  pub text_lends : (lends : Lends) (n : Option ℕ) (t : Input) (r : Result EitherStr Unread) → found.head ≡ head.Text n → LentText allowed lends (head.Text n) m t r → IfErr r (UnreadBy allowed (behind_string (head.Text n)) m) → LendsWhole allowed levels s r
  text_lends lends n t (Ok x) is lent by = text_stands allowed found levels s m opens n t (text_bytes x) is lent.1 lent.0
  text_lends lends n t (Err (Halted q)) is lent by = text_stops allowed found levels s m opens n q refused.Kept is by
  text_lends lends n t (Err Other) is lent by = absurd by

  pub bytes_lends : (lends : Lends) (n : Option ℕ) (t : Input) (r : Result EitherLifetime Unread) → found.head ≡ head.Bytes n → Lent allowed lends (head.Bytes n) m t r → IfErr r (UnreadBy allowed (behind_string (head.Bytes n)) m) → LendsWhole allowed levels s r
  bytes_lends lends n t (Ok p) is lent by = bytes_stand allowed found levels s m opens n t (part_bytes p) is lent.0
  bytes_lends lends n t (Err (Halted q)) is lent by = bytes_stop_item allowed found levels s m opens n q refused.Kept is by
  bytes_lends lends n t (Err Other) is lent by = absurd by

  pub utf8_lends : (lends : Lends) (n : Option ℕ) (t : Input) (p : EitherLifetime) (r : Result EitherStr Unread) → found.head ≡ head.Bytes n → Lent allowed lends (head.Bytes n) m t (Ok p) → Utf8Of p r → LendsWhole allowed levels s r
  utf8_lends lends n t p (Ok x) is lent utf8 = bytes_stand allowed found levels s m opens n t (part_bytes p) is lent.0
  utf8_lends lends n t p (Err u) is lent utf8 = subst (UnreadWhole allowed levels s) (sym utf8.1) (bytes_stand allowed found levels s m opens n t (part_bytes p) is lent.0)

  pub bytes_of_lends : (lends : Lends) (n : Option ℕ) (t : Input) (x : EitherStr) (r : Result EitherLifetime Unread) → found.head ≡ head.Text n → LentText allowed lends (head.Text n) m t (Ok x) → BytesOf x r → LendsWhole allowed levels s r
  bytes_of_lends lends n t x (Ok p) is lent of = text_stands allowed found levels s m opens n t (text_bytes x) is lent.1 lent.0
  bytes_of_lends lends n t x (Err u) is lent of = absurd of

  pub other_lends : (u : Unread) → UnreadBehind allowed found m u → UnreadWhole allowed levels s u
  other_lends (Halted q) h = behind_stops allowed found levels s m q refused.Kept opens (passes_stop allowed (behind_any found.levels found.head) m q h)
  other_lends Other h = stood_stands allowed found levels s m opens h

pub unopened_lends : (allowed : ReadErrorCode → Bool) (levels : ℕ) (s : Input) (kept : ReadError) (r : Refused) (q : ReadError) → ReportsWhy allowed (λ l. opened_at levels) s kept r → IsKept kept r q → Stops allowed (any_item levels) s q
unopened_lends allowed levels s kept r q h is = kept_stop allowed (any_item levels) s kept r q is (unopened_stops allowed levels s kept r h)

-- ---- errors

-- the error that is made of what wasn't lent
pub made_whole : (allowed : ReadErrorCode → Bool) (levels : ℕ) (s : Input) (u : Unread) (e : Error) → IsMadeOf u e → UnreadWhole allowed levels s u → RefusesWhole allowed levels s e
made_whole allowed levels s (Halted q) e made h = λ bs reports.
    let D = ReportsIo allowed in
    let end = s.offset + length bs in
    let read = any_item levels (limits s bs) bs in
    let there = subst (λ (k : ErrorCode). FailsBy D k end (place q) read) (sym made.0) (h.reported bs reports) in
    reported_or_excused D (code_of e) end (offset_of e) read (subst (λ (n : ℕ). FailsBy D (code_of e) end n read) (sym made.1) there)
made_whole allowed levels s Other e made h = stands_whole allowed levels s e None made.0 made.1 h
