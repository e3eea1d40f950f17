-- A short text at hand.
use Rattle.std.proofs.Common.{◌≡◌, ◌<◌, ◌≤◌, ◌+◌, ℕ, zero, suc, List, [], ◌∷◌, ◌++◌, length, take, drop, Option, None, Some, refl, sym, ap, ◌∙◌, subst, arith}
use Rattle.std.specs.Prelude.{Bool, true, false, MatchBool, slice_index, slice_range}
use Rattle.std.specs.Str.{IsUtf8}
use Rattle.cbor_model.specs.Acceptable.{FitsScratch}
use Rattle.cbor_model.specs.Formats.{Formats}
use Rattle.cbor_model.specs.Head.{no_bytes}
use Rattle.cbor_model.specs.Raw as raw
use Rattle.cbor_model.specs.Raw.{AreBytes}
use Rattle.cbor_model.specs.RawReader.{Begins}
use Rattle.cbor_model.specs.Readable.{PassesTags, IsText}
use Rattle.cbor_model.specs.Reader.{item_at}
use Rattle.cbor_model.specs.Spelling.{spell}
use Rattle.cbor_model.proofs.facts.Reader.{item_again}
use Rattle.cbor_read.specs.Source.{Input, TookKept}
use Rattle.cbor_read.specs.Sources.{input_of_slice}
use Rattle.cbor_read.specs.declared.slice_read.SliceRead.{SliceRead}
use Rattle.cbor_decode.specs.Gives.{Step, limits}
use Rattle.cbor_decode.proofs.facts.Steps.{taken_step}
use Rattle.cbor_decode_as.specs.Takes.{IsRead, formats_of, raws}
use Rattle.cbor_serde_de.specs.AtHand.{BeginsText, CountsDown}
use Rattle.cbor_serde_de.specs.Given.{ReadsAs}
use Rattle.cbor_serde_de.specs.Places.{input_of}
use Rattle.cbor_serde_de.specs.declared.cbor.Cbor.{Cbor}

halves : (n : ℕ) (xs : List ℕ) → xs ≡ take n xs ++ drop n xs
halves zero xs = refl
halves (suc n) [] = refl
halves (suc n) (x ∷ xs) = ap (λ z. x ∷ z) (halves n xs)

taken_length : (n : ℕ) (xs : List ℕ) → n ≤ length xs → length (take n xs) ≡ n
taken_length zero xs h = refl
taken_length (suc n) [] h = absurd (omega (arith, h))
taken_length (suc n) (x ∷ xs) h = ap suc (taken_length n xs (omega (arith, h)))

bytes_of_front : (n : ℕ) (xs : List ℕ) → AreBytes xs → AreBytes (take n xs)
bytes_of_front zero xs h i = omega arith
bytes_of_front (suc n) [] h i = omega arith
bytes_of_front (suc n) (x ∷ xs) h zero = h zero
bytes_of_front (suc n) (x ∷ xs) h (suc i) = bytes_of_front n xs (λ j. h (suc j)) i

begins_by : (n first : ℕ) (xs : List ℕ) → first ≡ 0x60 + n → n < 24 → n ≤ length xs → AreBytes (first ∷ xs) → BeginsText (first ∷ xs) (take n xs)
begins_by n first xs is small inside fits = record {
  rest = drop n xs;
  parts = ap (λ b. b ∷ xs) (is ∙ ap (λ m. 0x60 + m) (sym (taken_length n xs inside))) ∙ ap (λ zs. (0x60 + length (take n xs)) ∷ zs) (halves n xs);
  small = subst (λ m. m < 24) (sym (taken_length n xs inside)) small;
  are_bytes = bytes_of_front n xs (λ i. fits (suc i));
}

-- the bytes behind such a head
pub begins : (n : ℕ) (ahead : List ℕ) → slice_index ahead 0 ≡ 0x60 + n → n < 24 → n + 1 ≤ length ahead → AreBytes ahead → BeginsText ahead (slice_range ahead 1 (n + 1))
begins n [] is small inside fits = absurd (omega (arith, inside))
begins n (first ∷ xs) is small inside fits = subst (λ m. BeginsText (first ∷ xs) (take m xs)) (omega arith) (begins_by n first xs is small (omega (arith, inside)) fits)

whole_front : (xs ys : List ℕ) → take (length xs) (xs ++ ys) ≡ xs
whole_front [] ys = refl
whole_front (x ∷ xs) ys = ap (λ zs. x ∷ zs) (whole_front xs ys)

more_taken : (n m b : ℕ) (xs : List ℕ) → m ≡ suc n → take m (b ∷ xs) ≡ b ∷ take n xs
more_taken n m b xs e = subst (λ k. take k (b ∷ xs) ≡ b ∷ take n xs) (sym e) refl

-- it is taken with its head
short_taken : (s t : Input) (ahead text : List ℕ) → BeginsText ahead text → TookKept s t (take (1 + length text) ahead) → TookKept s t ((0x60 + length text) ∷ text)
short_taken s t ahead text begins took =
    let head = 0x60 + length text in
    subst (λ bs. TookKept s t bs)
    (ap (λ bs. take (1 + length text) bs) begins.parts
    ∙ (more_taken (length text) (1 + length text) head (text ++ begins.rest) (omega arith) ∙ ap (λ bs. head ∷ bs) (whole_front text begins.rest))) took

counted_source : (old mid : Cbor) (b : Bool) → MatchBool b (CountsDown old mid) (mid ≡ old) → mid.decoder.source ≡ old.decoder.source
counted_source old mid true h = ap (λ (c : Cbor). c.decoder.source) h.counted
counted_source old mid false h = ap (λ (c : Cbor). c.decoder.source) h

-- what is at hand stays there where a pair is counted
pub still_at_hand : (old mid : Cbor) (b : Bool) (ahead : List ℕ) → MatchBool b (CountsDown old mid) (mid ≡ old)
    → ahead ≡ drop old.decoder.source.taken old.decoder.source.slice.now → drop mid.decoder.source.taken mid.decoder.source.slice.now ≡ ahead
still_at_hand old mid b ahead counted is = ap (λ (s : SliceRead). drop s.taken s.slice.now) (counted_source old mid b counted) ∙ sym is

-- ---- as an item

-- it is in no chunks
unjoined : (most : Option ℕ) (text : List ℕ) → FitsScratch most (raw.text (record { width = no_bytes; bytes = text }))
unjoined None text = tt
unjoined (Some room) text = omega arith

begins_item : (levels : ℕ) (bs text rest : List ℕ) → length text < 24 → AreBytes text → IsUtf8 text → bs ≡ ((0x60 + length text) ∷ text) ++ rest
    → Begins levels bs (raw.text (record { width = no_bytes; bytes = text })) rest
unfolding spell
begins_item levels bs text rest small fits utf8 is = record {
  spelled = is;
  acceptable = record { fits = (small, fits); nests = omega arith; texts = utf8 };
}

-- the reference reader reads it
short_read : (f : Formats) (levels : ℕ) (s t : Input) (text : List ℕ) → length text < 24 → AreBytes text → IsUtf8 text → TookKept s t ((0x60 + length text) ∷ text)
    → Step s t (λ l bs rest. IsRead (PassesTags IsText) (item_at (raws f l) levels bs) text rest)
short_read f levels s t text small fits utf8 took =
    let step = taken_step s t ((0x60 + length text) ∷ text) took.bytes took.count took.room in
    record {
      took = step.took;
      reported = λ bs reports.
          let one = step.reported bs reports in
          let l = limits s bs in
          record {
            rest = one.rest;
            reports = one.reports;
            total = one.total;
            holds = record {
              item = raw.text (record { width = no_bytes; bytes = text });
              is = item_again f l.total l.room levels bs one.rest (raw.text (record { width = no_bytes; bytes = text })) reports.short (omega arith) (unjoined l.room text) (begins_item levels bs text one.rest small fits utf8 one.holds) tt;
              means = (refl, utf8);
            };
          };
    }

pub text_read : (old : Cbor) (t : SliceRead) (hand ahead text : List ℕ) → BeginsText ahead text → IsUtf8 text → hand ≡ ahead → TookKept (input_of old) (input_of_slice t) (take (1 + length text) hand)
    → ReadsAs IsText old text (record old { decoder = record old.decoder { source = t } })
text_read old t hand ahead text begins utf8 same took = record {
  taken = short_read (formats_of old.decoder.formats) old.decoder.levels (input_of old) (input_of_slice t) text begins.small begins.are_bytes utf8 (short_taken (input_of old) (input_of_slice t) ahead text begins (subst (λ bs. TookKept (input_of old) (input_of_slice t) (take (1 + length text) bs)) same took));
  kept = record { around = refl; settings = record { levels = refl; formats = refl } };
}
