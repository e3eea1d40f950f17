-- What the bytes are, as far as a scan went.
use Rattle.std.proofs.Common.{◌≡◌, ◌⊎◌, ◌∙◌, ◌<◌, ◌≤◌, ◌+◌, ◌-◌, ◌*◌, ◌^◌, ℕ, zero, suc, false, List, [], ◌∷◌, ◌++◌, length, drop, Err, refl, sym, ap, subst, arith, inl, inr}
use Rattle.std.proofs.lemmas.List.{append-nil, length-append}
use Rattle.std.proofs.Math.Seq.{drop-length}
use Rattle.cbor_model.specs.Allowed.{IsOfStrings}
use Rattle.cbor_model.specs.Plain.{Val}
use Rattle.cbor_model.specs.Refusal.{end_in_value, end_in_array, end_in_map}
use Rattle.cbor_model.specs.Reader.{Fault, Reads, ◌>>=◌, ended, byte_at, string_chunks_at, text_chunks_at, content_at, after_first, item_by, item_at}
use Rattle.cbor_io.specs.declared.error.Category.TheVariants as category
use Rattle.cbor_io.specs.declared.error.Error.{Error}
use Rattle.cbor_io.specs.declared.error.ErrorCode.{ErrorCode}
use Rattle.cbor_io.specs.declared.error.ErrorCode.TheVariants as code
use Rattle.cbor_io.specs.Error.{category_of, code_of, offset_of}
use Rattle.cbor_decode.specs.Gives.{Fails, FailsBy}
use Rattle.cbor_decode.specs.Heads.{passed}
use Rattle.cbor_decode.proofs.facts.Steps.{passed_stops, passed_on}
use Rattle.cbor_pushed.specs.Rests.{all_at, around_at, behind, ends_by, is_over, reading, rest_at}
use Rattle.cbor_pushed.specs.Scanned.{ChunksEnd, IsCut, HasScanned, chunks_to, item_of}
use Rattle.cbor_pushed.specs.declared.rest.Rest.{Rest}
use Rattle.cbor_pushed.proofs.GoesOn.{cut, item_due}

-- ---- faults

stops_then : {B : Type 0} (r : Reads (Unit {0})) (f : Unit {0} × List ℕ → Reads B) (d : Fault) → r ≡ Err d → (r >>= f) ≡ Err d
stops_then r f d is = rw is refl

item_stops : {B : Type 0} (r : Reads Val) (f : Val × List ℕ → Reads B) (d : Fault) → r ≡ Err d → (r >>= f) ≡ Err d
item_stops r f d is = rw is refl

-- a string whose chunks stop so stops so
module _ (total : ℕ) (tail : List ℕ) (f : Fault) where
  bytes_stop : (levels : ℕ) → chunks_to 0 2 tail ≡ Err f → item_at (reading total) levels (0x5f ∷ tail) ≡ Err f
  unfolding item_at item_by byte_at after_first content_at string_chunks_at
  bytes_stop levels is = elim levels as (λ n. item_at (reading total) n (0x5f ∷ tail) ≡ Err f) [ zero ↦ rw is refl | suc n ↦ rw is refl ]

  text_stops : (levels : ℕ) → chunks_to 0 3 tail ≡ Err f → item_at (reading total) levels (0x7f ∷ tail) ≡ Err f
  unfolding item_at item_by byte_at after_first content_at text_chunks_at
  text_stops levels is = elim levels as (λ n. item_at (reading total) n (0x7f ∷ tail) ≡ Err f) [ zero ↦ rw is refl | suc n ↦ rw is refl ]

  chunks_stop : (levels major : ℕ) → IsOfStrings major → chunks_to 0 major tail ≡ Err f → item_at (reading total) levels ((32 * major + 31) ∷ tail) ≡ Err f
  chunks_stop levels major (inl two) is =
      subst (λ (k : ℕ). item_at (reading total) levels ((32 * k + 31) ∷ tail) ≡ Err f) (sym two) (bytes_stop levels (subst (λ (k : ℕ). chunks_to 0 k tail ≡ Err f) two is))
  chunks_stop levels major (inr three) is =
      subst (λ (k : ℕ). item_at (reading total) levels ((32 * k + 31) ∷ tail) ≡ Err f) (sym three) (text_stops levels (subst (λ (k : ℕ). chunks_to 0 k tail ≡ Err f) three is))

module _ (levels at chunks : ℕ) (innermost : Rest) (around : List Rest) (front : List ℕ) (s : HasScanned levels at chunks innermost around front) (short : length front < 2 ^ 64) where
  abbrev left : ℕ
  left = levels - length around

  -- with nothing added
  now : passed (item_of levels front) ≡ all_at (length front) levels around innermost (drop at front)
  now =
      let P : List ℕ → List ℕ → Type 0 = λ all here. passed (item_at (reading (length all)) levels all) ≡ all_at (length all) levels around innermost here in
      let fewer : length (front ++ []) < 2 ^ 64 = omega (arith, length-append {A = ℕ} front []) in
      subst (λ (l : List ℕ). P l (drop at front)) (append-nil front) (subst (λ (l : List ℕ). P (front ++ []) l) (append-nil (drop at front)) (s.same [] fewer))

  -- what stops the innermost stops the item
  stops : (f : Fault) → rest_at (length front) left innermost (drop at front) ≡ Err f → item_of levels front ≡ Err f
  stops f is =
      passed_stops (item_of levels front) f (now ∙ stops_then (rest_at (length front) left innermost (drop at front)) (λ x. around_at (length front) levels around x.1) f is)

  -- the bytes end where an item or a break is wanted
  pub cut_here : is_over innermost ≡ false → length front ≤ at → IsCut levels front
  cut_here goes_on last =
      let none : drop at front ≡ [] = ap (λ (n : ℕ). drop n front) (omega (arith, s.within, last)) ∙ drop-length front in
      let c = cut (length front) left innermost goes_on in
      record {
        why = c.why;
        left = 0;
        ends = c.ends;
        stops = stops (record { why = c.why; left = 0 }) (ap (rest_at (length front) left innermost) none ∙ c.stops);
      }

  module _ (b : ℕ) (tail : List ℕ) (byte : drop at front ≡ b ∷ tail) (goes_on : is_over innermost ≡ false) (no_end : ends_by innermost b ≡ false) where
    -- what stops the item that is due
    due_stops : (f : Fault) → item_at (reading (length front)) left (drop at front) ≡ Err f → item_of levels front ≡ Err f
    due_stops f is =
        let here : item_at (reading (length front)) left (b ∷ tail) ≡ Err f = ap (item_at (reading (length front)) left) (sym byte) ∙ is in
        let rest = item_due (length front) left innermost b tail goes_on no_end in
        stops f (ap (rest_at (length front) left innermost) byte ∙ rest
        ∙ item_stops (item_at (reading (length front)) left (b ∷ tail)) (λ x. rest_at (length front) left (behind innermost) x.1) f here)

    pub due_fails : (e : Error) → Fails (length front) e (item_at (reading (length front)) left (drop at front)) → Fails (length front) e (item_of levels front)
    due_fails e = passed_on ⊥ (code_of e) (length front) (offset_of e) (item_at (reading (length front)) left (drop at front)) (item_of levels front) due_stops

    -- the bytes end within the chunks of a string
    pub cut_chunks : (major n : ℕ) → ChunksEnd major (drop at front) n → IsCut levels front
    cut_chunks major n c =
        let i = c.so_far in
        let rest = ap (chunks_to i.have major) (append-nil (drop n (drop at front))) ∙ c.ends in
        let all = ap (chunks_to 0 major) (sym (append-nil i.tail)) ∙ i.stops [] ended rest in
        let item = ap (item_at (reading (length front)) left) i.begins ∙ chunks_stop (length front) i.tail ended left major i.of_strings all in
        record { why = end_in_value; left = 0; ends = tt; stops = due_stops ended item }

-- ---- an end of input

-- a fault that is an end
pub cut_by : (levels : ℕ) (front : List ℕ) (k : ErrorCode) (offset : ℕ) → category_of k ≡ category.Eof → FailsBy ⊥ k (length front) offset (item_of levels front) → IsCut levels front
cut_by levels front code.EofWhileParsingValue offset is h = record { why = end_in_value; left = h.0; ends = tt; stops = h.2 }
cut_by levels front code.EofWhileParsingArray offset is h = record { why = end_in_array; left = h.0; ends = tt; stops = h.2 }
cut_by levels front code.EofWhileParsingMap offset is h = record { why = end_in_map; left = h.0; ends = tt; stops = h.2 }
cut_by levels front (code.Message s) offset is h = absurd h
cut_by levels front (code.Io e) offset is h = absurd h.0
cut_by levels front code.ScratchTooSmall offset is h = absurd cc
cut_by levels front code.LengthOutOfRange offset is h = absurd cc
cut_by levels front code.InvalidUtf8 offset is h = absurd cc
cut_by levels front code.UnassignedCode offset is h = absurd cc
cut_by levels front code.UnexpectedCode offset is h = absurd cc
cut_by levels front code.TrailingData offset is h = absurd cc
cut_by levels front code.ArrayTooShort offset is h = absurd h
cut_by levels front code.ArrayTooLong offset is h = absurd h
cut_by levels front code.RecursionLimitExceeded offset is h = absurd cc
cut_by levels front code.WrongEnumFormat offset is h = absurd h
cut_by levels front code.WrongStructFormat offset is h = absurd cc
cut_by levels front code.NotCanonical offset is h = absurd h
cut_by levels front code.OutOfMemory offset is h = absurd cc

-- memory ran out, or there is a fault
pub stopped_by : {A : Type 0} (k : ErrorCode) (end offset : ℕ) (read : Reads A) → FailsBy ⊥ k end offset read → (k ≡ code.OutOfMemory) ⊎ ((f : Fault) × (read ≡ Err f))
stopped_by code.EofWhileParsingValue end offset read h = inr (_, h.2)
stopped_by code.EofWhileParsingArray end offset read h = inr (_, h.2)
stopped_by code.EofWhileParsingMap end offset read h = inr (_, h.2)
stopped_by (code.Message s) end offset read h = absurd h
stopped_by (code.Io e) end offset read h = absurd h.0
stopped_by code.ScratchTooSmall end offset read h = inr (_, h.2)
stopped_by code.LengthOutOfRange end offset read h = inr (_, h.2)
stopped_by code.InvalidUtf8 end offset read h = inr (_, h.2)
stopped_by code.UnassignedCode end offset read h = inr (_, h.2)
stopped_by code.UnexpectedCode end offset read h = inr (_, h.2)
stopped_by code.TrailingData end offset read h = inr (_, h.2)
stopped_by code.ArrayTooShort end offset read h = absurd h
stopped_by code.ArrayTooLong end offset read h = absurd h
stopped_by code.RecursionLimitExceeded end offset read h = inr (_, h.2)
stopped_by code.WrongEnumFormat end offset read h = absurd h
stopped_by code.WrongStructFormat end offset read h = inr (_, h.2)
stopped_by code.NotCanonical end offset read h = absurd h
stopped_by code.OutOfMemory end offset read h = inl refl
