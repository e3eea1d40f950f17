-- Passing over strings.
use Rattle.std.proofs.Common.{◌≡◌, ◌∙◌, ◌+◌, ◌-◌, ◌^◌, ◌<◌, ◌≤◌, ℕ, Bool, true, false, eqb, ltb, List, length, take, drop, ◌++◌, Result, Ok, Err, refl, sym, ap, arith, length-append}
use Rattle.std.specs.Io.KnownBytes.{Consumes}
use Rattle.std.specs.Str.{IsUtf8}
use Rattle.std.specs.Str.Lossy.{utf8_valid_len}
use Rattle.std.proofs.Math.Seq.{take-append_seam, drop-append_seam}
use Rattle.std.proofs.lemmas.Bool.{ne_eqb, eq-eqb, eqb-true, lt-ltb, le-ltb}
use Rattle.std.proofs.lemmas.Str.{utf8_valid_len_le, utf8_valid_len-IsUtf8}
use Rattle.cbor_model.specs.Formats.{all_formats}
use Rattle.cbor_model.specs.Head.{no_bytes}
use Rattle.cbor_model.specs.Plain.{Val}
use Rattle.cbor_model.specs.Plain as plain
use Rattle.cbor_model.specs.Refusal.{invalid_utf8, length_out_of_range}
use Rattle.cbor_model.specs.Reader.{Fault, Reads, ended, bytes_at, chunks_at, string_at, string_chunks_at, checked_text, text_at, text_chunks_at, exceeds_most}
use Rattle.cbor_model.proofs.facts.Reader.{ok_is}
use Rattle.cbor_read.specs.Source.{Input, Skipped, SkippedText, RefusedPart}
use Rattle.cbor_io.specs.declared.read_error.ReadError.{ReadError}
use Rattle.cbor_io.specs.declared.read_error.ReadErrorCode.{ReadErrorCode}
use Rattle.cbor_decode.specs.declared.refusal.Refused.{Refused as Reason}
use Rattle.cbor_decode.specs.declared.refusal.Refused.TheVariants as refused
use Rattle.cbor_decode.specs.Gives.{Limits, limits, values, Step, Stopped, Gives}
use Rattle.cbor_decode.specs.Heads.{joined_of, passed}
use Rattle.cbor_decode.specs.Strings.{bad_of, checked_by}
use Rattle.cbor_decode.proofs.Steps.{step_map, taken_step, refused_stops, gives_seen}
use Rattle.cbor_decode.proofs.SourceCalls.{source_stops}
use Rattle.cbor_decode.proofs.Inside.{bytes_read, bytes_stop, chunks_read, chunks_stop}
use Rattle.cbor_decode.proofs.Texts.{no_room, has_room, text_stop, text_joined, text_fault}

-- ---- what was taken

-- so many bytes at the front
bytes_here : (n : ℕ) (p bs rest : List ℕ) → length p ≡ n → bs ≡ p ++ rest → bytes_at n bs ≡ Ok (p, rest)
bytes_here n p bs rest len is =
    let enough : ltb (length (p ++ rest)) n ≡ false = le-ltb (length (p ++ rest)) n (omega (arith, length-append p rest, len)) in
    let front : take n (p ++ rest) ≡ p = ap (λ (k : ℕ). take k (p ++ rest)) (sym len) ∙ take-append_seam p rest in
    let back : drop n (p ++ rest) ≡ rest = ap (λ (k : ℕ). drop k (p ++ rest)) (sym len) ∙ drop-append_seam p rest in
    rw (is, enough, front, back) refl

bytes_step : (s t : Input) (n : ℕ) (p : List ℕ) → length p ≡ n → Consumes s.to_come t.to_come p → t.offset ≡ s.offset + n → t.room ≡ s.room → Step s t (λ l bs rest. bytes_at n bs ≡ Ok (p, rest))
bytes_step s t n p len took count room =
    step_map s t (λ l bs rest. bs ≡ p ++ rest) (λ l bs rest. bytes_at n bs ≡ Ok (p, rest)) (λ l bs rest is. bytes_here n p bs rest len is) (taken_step s t p took (omega (arith, count, len)) room)

pub bytes_skipped : (s t : Input) (n : ℕ) → Skipped s t n → Step s t (λ l bs rest. passed (string_at (values all_formats l) no_bytes n bs) ≡ Ok (tt, rest))
bytes_skipped s t n h =
    step_map s t (λ l bs rest. bytes_at n bs ≡ Ok (h.some, rest)) (λ l bs rest. passed (string_at (values all_formats l) no_bytes n bs) ≡ Ok (tt, rest)) (λ l bs rest is. ap (λ r. passed r) (bytes_read l n bs h.some rest is)) (bytes_step s t n h.some h.len h.bytes h.count h.room)

pub bad_step : (s t : Input) (n valid : ℕ) → SkippedText s t n valid → Step s t (λ l bs rest. bad_of (bytes_at n bs) ≡ Ok (n - valid, rest))
bad_step s t n valid h =
    let same : length h.some - utf8_valid_len h.some ≡ n - valid = omega (arith, h.len, h.utf8) in
    step_map s t (λ l bs rest. bytes_at n bs ≡ Ok (h.some, rest)) (λ l bs rest. bad_of (bytes_at n bs) ≡ Ok (n - valid, rest)) (λ l bs rest is. ap (λ r. bad_of r) is ∙ ap (λ (k : ℕ). Ok (k, rest)) same) (bytes_step s t n h.some h.len h.bytes h.count h.room)

-- no more of the bytes are UTF-8 than there are
pub valid_within : (s t : Input) (n valid : ℕ) → SkippedText s t n valid → valid ≤ n
valid_within s t n valid h = omega (arith, h.len, h.utf8, utf8_valid_len_le h.some)

pub bad_within : (s t : Input) (n valid : ℕ) → SkippedText s t n valid → n - valid ≤ t.offset
bad_within s t n valid h = omega (arith, h.count)

-- ---- what could not be taken

too_few : (n : ℕ) (bs : List ℕ) → length bs < n → bytes_at n bs ≡ Err ended
too_few n bs short = rw (lt-ltb (length bs) n short) refl

module _ (allowed : ReadErrorCode → Bool) (s t : Input) (n : ℕ) (kept : ReadError) (r : Reason) (e : ReadError) (is : r ≡ refused.Kept) (keeps : kept ≡ e) (h : RefusedPart allowed s t n e) where
  pub bytes_cut : Stopped allowed (λ l bs. passed (string_at (values all_formats l) no_bytes n bs)) s t kept r
  bytes_cut = source_stops allowed s (λ l bs. passed (string_at (values all_formats l) no_bytes n bs)) kept r e is keeps h.0.moved
      (refused_stops allowed s t n e (λ l bs. passed (string_at (values all_formats l) no_bytes n bs)) (λ l bs short. ap (λ r. passed r) (bytes_stop l n bs ended (too_few n bs short))) h.1 h.0)

  pub bad_cut : Stopped allowed (λ l bs. bad_of (bytes_at n bs)) s t kept r
  bad_cut = source_stops allowed s (λ l bs. bad_of (bytes_at n bs)) kept r e is keeps h.0.moved
      (refused_stops allowed s t n e (λ l bs. bad_of (bytes_at n bs)) (λ l bs short. ap (λ r. bad_of r) (too_few n bs short)) h.1 h.0)

-- ---- what is UTF-8

-- all of a text is UTF-8
pub all_valid : (b : List ℕ) → IsUtf8 b → length b ≡ utf8_valid_len b
all_valid b is = sym (utf8_valid_len-IsUtf8 b is)

bad_test : (v n : ℕ) (t : Bool) → v ≤ n → eqb v n ≡ t → eqb (n - v) 0 ≡ t
bad_test v n true le is = eq-eqb (n - v) 0 (omega (arith, eqb-true v n is))
bad_test v n false le is = ne_eqb (n - v) 0 (λ none. absurd_test (sym is ∙ eq-eqb v n (omega (arith, none, le))))
  where
    absurd_test : false ≡ true → ⊥
    absurd_test e = absurd cc

by_test : (l : Limits) (x : Val) (b bs : List ℕ) (t : Bool) → eqb (utf8_valid_len b) (length b) ≡ t → passed (checked_text (values all_formats l) x b bs) ≡ checked_by (length b - utf8_valid_len b) bs
unfolding checked_text
by_test l x b bs true is = rw (is, bad_test (utf8_valid_len b) (length b) true (utf8_valid_len_le b) is) refl
by_test l x b bs false is = rw (is, bad_test (utf8_valid_len b) (length b) false (utf8_valid_len_le b) is) refl

text_checked : (l : Limits) (x : Val) (b bs : List ℕ) → passed (checked_text (values all_formats l) x b bs) ≡ checked_by (length b - utf8_valid_len b) bs
text_checked l x b bs = by_test l x b bs (eqb (utf8_valid_len b) (length b)) refl

pub checked_bad : (bad : ℕ) (bs : List ℕ) → (bad ≡ 0 → ⊥) → checked_by bad bs ≡ Err (record { why = invalid_utf8; left = length bs + bad })
checked_bad bad bs some = rw (ne_eqb bad 0 some) refl

-- the bytes of which so many aren't UTF-8
record BadWas (read : Reads (List ℕ)) (bad : ℕ) (rest : List ℕ) : Type 0 where
  bytes : List ℕ
  is : read ≡ Ok (bytes, rest)
  same : length bytes - utf8_valid_len bytes ≡ bad

bad_was : (read : Reads (List ℕ)) (bad : ℕ) (rest : List ℕ) → bad_of read ≡ Ok (bad, rest) → BadWas read bad rest
bad_was (Ok x) bad rest is =
    let both = ok_is (length x.0 - utf8_valid_len x.0, x.1) (bad, rest) is in
    record { bytes = x.0; is = ap (λ (q : ℕ × List ℕ). Ok (x.0, q.1)) both; same = ap (λ (q : ℕ × List ℕ). q.0) both }
bad_was (Err f) bad rest is = absurd cc

bad_stops : (read : Reads (List ℕ)) (f : Fault) → bad_of read ≡ Err f → read ≡ Err f
bad_stops (Ok x) f is = absurd cc
bad_stops (Err g) f is = cc

-- ---- texts

module _ (s : Input) (n : ℕ) (bs : List ℕ) where
  pub text_skipped : (bad : ℕ) (mid : List ℕ) → ltb (s.offset + n) (2 ^ 64) ≡ true → bad_of (bytes_at n bs) ≡ Ok (bad, mid) → passed (text_at (values all_formats (limits s bs)) no_bytes n bs) ≡ checked_by bad mid
  text_skipped bad mid room is =
      let w = bad_was (bytes_at n bs) bad mid is in
      ap (λ r. passed r) (has_room s bs w.bytes mid n room w.is) ∙ text_checked (limits s bs) (plain.text w.bytes) w.bytes mid ∙ ap (λ (k : ℕ). checked_by k mid) w.same

  pub text_cut : (f : Fault) → ltb (s.offset + n) (2 ^ 64) ≡ true → bad_of (bytes_at n bs) ≡ Err f → passed (text_at (values all_formats (limits s bs)) no_bytes n bs) ≡ Err f
  text_cut f room is = ap (λ r. passed r) (text_stop s bs n f room (bad_stops (bytes_at n bs) f is))

  pub text_too_long : ltb (s.offset + n) (2 ^ 64) ≡ false → passed (text_at (values all_formats (limits s bs)) no_bytes n bs) ≡ Err (record { why = length_out_of_range; left = length bs })
  text_too_long room = ap (λ r. passed r) (no_room s bs n room)

-- ---- chunks

pub text_chunks_skipped : (l : Limits) (bs b mid : List ℕ) → joined_of (chunks_at (exceeds_most l.room) 0 3 bs) ≡ Ok (b, mid) → passed (text_chunks_at (values all_formats l) bs) ≡ checked_by (length b - utf8_valid_len b) mid
text_chunks_skipped l bs b mid is = ap (λ r. passed r) (text_joined l bs b mid is) ∙ text_checked l (plain.text b) b mid

pub text_chunks_cut : (l : Limits) (bs : List ℕ) (f : Fault) → joined_of (chunks_at (exceeds_most l.room) 0 3 bs) ≡ Err f → passed (text_chunks_at (values all_formats l) bs) ≡ Err f
text_chunks_cut l bs f is = ap (λ r. passed r) (text_fault l bs f is)

pub byte_chunks_skipped : (allowed : ReadErrorCode → Bool) (view : Unit {0} → List ℕ) (s t : Input) (kept : ReadError) (r : Result (Unit {0}) Reason) → Gives allowed view (λ l bs. joined_of (chunks_at (exceeds_most l.room) 0 2 bs)) s t kept r
    → Gives allowed (λ u. u) (λ l bs. passed (string_chunks_at (values all_formats l) bs)) s t kept r
byte_chunks_skipped allowed view s t kept r =
    gives_seen allowed view (λ u. u) (λ l bs. joined_of (chunks_at (exceeds_most l.room) 0 2 bs)) (λ l bs. passed (string_chunks_at (values all_formats l) bs)) s t kept r
    (λ l bs rest u is. ap (λ r. passed r) (chunks_read l bs (view u) rest is)) (λ l bs f is. ap (λ r. passed r) (chunks_stop l bs f is))
