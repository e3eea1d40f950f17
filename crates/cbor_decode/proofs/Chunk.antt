-- A chunk that is joined in a source's buffer.
use Rattle.std.proofs.Common.{◌≡◌, ◌≢◌, ◌∙◌, ◌+◌, ◌/◌, ◌%◌, ◌<◌, ◌≤◌, ℕ, Bool, List, length, take, drop, ◌++◌, Option, None, Some, Ok, Err, IfSome, refl, sym, ap, subst, arith, ltb, eqb, true, false, ◌⊎◌, inl, inr, length-append}
use Rattle.std.specs.Prelude.{MatchOption, ◌&&◌, ⊤}
use Rattle.std.proofs.lemmas.Bool.{eq-eqb, lt-ltb, le-ltb, eqb-true, ltb-true}
use Rattle.std.proofs.Math.Seq.{take-append_seam, drop-append_seam}
use Rattle.cbor_model.specs.Head.{HeadWidth}
use Rattle.cbor_model.specs.Raw.{Chunk}
use Rattle.cbor_model.specs.Refusal.{unexpected_code, scratch_too_small}
use Rattle.cbor_model.specs.Reader.{Fault, Reads, ended, before, number_behind, width_of, begins_chunk, content_of_chunk, chunk_at, exceeds_most}
use Rattle.cbor_read.specs.Source.{Input, Buffered, FitsRoom, RefusedToBuffer}
use Rattle.cbor_read.proofs.facts.Sources.{some_then}
use Rattle.cbor_io.specs.ReadError.{why, place, error_code}
use Rattle.cbor_io.specs.declared.read_error.ReadError.{ReadError}
use Rattle.cbor_io.specs.declared.read_error.ReadErrorCode.{ReadErrorCode}
use Rattle.cbor_io.specs.declared.read_error.ReadErrorCode.TheVariants as reading
use Rattle.cbor_decode.specs.Gives.{FailsBy, Limits, limits, Step, ReportsIo, Stops}
use Rattle.cbor_decode.specs.Strings.{content, ChunkStep}
use Rattle.cbor_decode.proofs.Steps.{stops_then, taken_step, refused_stops}

-- ---- in the reference reader

module _ (exceeds : ℕ → Bool) (major first : ℕ) (bs : List ℕ) where
  begins : first / 32 ≡ major → first % 32 < 28 → begins_chunk major first ≡ true
  begins is small = rw (is, eq-eqb major major refl, lt-ltb (first % 32) 28 small) refl

  pub chunk_number : (f : Fault) → first / 32 ≡ major → first % 32 < 28 → number_behind (first % 32) bs ≡ Err f → chunk_at exceeds major first bs ≡ Err f
  unfolding chunk_at
  chunk_number f is small stops = rw (begins is small, stops) refl

  pub chunk_behind : (n : ℕ) (mid : List ℕ) → first / 32 ≡ major → first % 32 < 28 → number_behind (first % 32) bs ≡ Ok (n, mid) → chunk_at exceeds major first bs ≡ content_of_chunk exceeds (width_of (first % 32)) n mid
  unfolding chunk_at
  chunk_behind n mid is small number = rw (begins is small, number) refl

other_or : (a b : Bool) → ((a ≡ true) → (b ≡ true) → ⊥) → (a && b) ≡ false
other_or true true h = absurd (h refl refl)
other_or true false h = refl
other_or false b h = refl

pub no_chunk : (exceeds : ℕ → Bool) (major first : ℕ) (bs : List ℕ) → (first / 32 ≡ major → first % 32 < 28 → ⊥) → chunk_at exceeds major first bs ≡ Err (record { why = unexpected_code; left = length bs })
unfolding chunk_at
no_chunk exceeds major first bs other =
    let none : begins_chunk major first ≡ false = other_or (eqb (first / 32) major) (ltb (first % 32) 28) (λ a b. other (eqb-true _ _ a) (ltb-true _ _ b)) in
    rw none refl

-- ---- a chunk's content

content_too_short : (exceeds : ℕ → Bool) (w : HeadWidth) (n : ℕ) (bs : List ℕ) → length bs < n → content_of_chunk exceeds w n bs ≡ Err ended
unfolding content_of_chunk
content_too_short exceeds w n bs short = rw (lt-ltb (length bs) n short) refl

content_too_long : (exceeds : ℕ → Bool) (w : HeadWidth) (n : ℕ) (bs : List ℕ) → n ≤ length bs → exceeds n ≡ true → content_of_chunk exceeds w n bs ≡ Err (before scratch_too_small bs)
unfolding content_of_chunk
content_too_long exceeds w n bs enough long = rw (le-ltb (length bs) n enough, long) refl

content_read : (exceeds : ℕ → Bool) (w : HeadWidth) (n : ℕ) (b rest : List ℕ) → length b ≡ n → exceeds n ≡ false → content (content_of_chunk exceeds w n (b ++ rest)) ≡ Ok (b, rest)
unfolding content_of_chunk
content_read exceeds w n b rest long fits =
    let enough : ltb (length (b ++ rest)) n ≡ false = le-ltb (length (b ++ rest)) n (omega (arith, length-append b rest, long)) in
    let front : take n (b ++ rest) ≡ b = ap (λ (k : ℕ). take k (b ++ rest)) (sym long) ∙ take-append_seam b rest in
    let back : drop n (b ++ rest) ≡ rest = ap (λ (k : ℕ). drop k (b ++ rest)) (sym long) ∙ drop-append_seam b rest in
    rw (enough, fits, front, back) refl

-- what fits the room isn't too long
joins : (room : Option ℕ) (n k : ℕ) → n ≤ k → MatchOption room ⊤ (λ most. k ≤ most) → exceeds_most room n ≡ false
joins None n k few h = refl
joins (Some most) n k few h = le-ltb most n (omega (arith, few, h))

too_long : (room : Option ℕ) (n : ℕ) → MatchOption room ⊥ (λ most. most < n) → exceeds_most room n ≡ true
too_long None n h = absurd h
too_long (Some most) n h = lt-ltb most n h

enough_there : (o : Option (List ℕ)) (bs : List ℕ) (n : ℕ) → o ≡ Some bs → IfSome o (λ bs. n ≤ length bs) → n ≤ length bs
enough_there o bs n is h = subst (λ (o : Option (List ℕ)). IfSome o (λ bs. n ≤ length bs)) is h

small_or : (k : ReadErrorCode) → (k ≡ reading.ScratchTooSmall) ⊎ (k ≢ reading.ScratchTooSmall)
small_or (reading.Io fault) = inr (λ q. absurd (cc))
small_or reading.ScratchTooSmall = inl refl
small_or reading.EofWhileParsingValue = inr (λ q. absurd (cc))
small_or reading.EofWhileParsingArray = inr (λ q. absurd (cc))
small_or reading.EofWhileParsingMap = inr (λ q. absurd (cc))
small_or reading.LengthOutOfRange = inr (λ q. absurd (cc))
small_or reading.InvalidUtf8 = inr (λ q. absurd (cc))
small_or reading.UnassignedCode = inr (λ q. absurd (cc))
small_or reading.UnexpectedCode = inr (λ q. absurd (cc))
small_or reading.TrailingData = inr (λ q. absurd (cc))
small_or reading.RecursionLimitExceeded = inr (λ q. absurd (cc))
small_or reading.WrongStructFormat = inr (λ q. absurd (cc))
small_or reading.OutOfMemory = inr (λ q. absurd (cc))

module _ (allowed : ReadErrorCode → Bool) (major first n : ℕ) (s t u : Input) (is : first / 32 ≡ major) (small : first % 32 < 28) (kept : t.buffer ≡ s.buffer)
    (number : Step s t (λ l bs mid. number_behind (first % 32) bs ≡ Ok (n, mid))) where
  abbrev read : Limits → ℕ → List ℕ → Reads Chunk
  read l have = chunk_at (λ n. exceeds_most l.room (have + n)) major first

  pub chunk_joined : Buffered t u n → FitsRoom u → ChunkStep read s u
  chunk_joined h room_fits =
      let took = taken_step t u h.some h.bytes (omega (arith, h.count, h.len)) h.room in
      let ex = λ (n : ℕ). exceeds_most s.room (length s.buffer + n) in
      let long : length s.buffer + n ≤ length u.buffer = omega (arith, ap length h.buffered, ap length kept, length-append t.buffer h.some, h.len) in
      let fits : ex n ≡ false = joins s.room (length s.buffer + n) (length u.buffer) long (subst (λ (o : Option ℕ). MatchOption o ⊤ (λ most. length u.buffer ≤ most)) (h.room ∙ number.took.room) room_fits) in
      record {
        some = h.some;
        buffer = h.buffered ∙ ap (λ (b : List ℕ). b ++ h.some) kept;
        step = record {
          took = some_then s t u number.took took.took;
          reported = λ bs reports.
              let one = number.reported bs reports in
              let two = took.reported one.rest one.reports in
              record {
                rest = two.rest;
                reports = two.reports;
                total = two.total ∙ one.total;
                holds = ap content (chunk_behind ex major first bs n one.rest is small one.holds ∙ ap (content_of_chunk ex (width_of (first % 32)) n) two.holds) ∙ content_read ex (width_of (first % 32)) n h.some two.rest h.len fits;
              };
        };
        counted = omega (arith, number.took.count, h.count, h.len);
      }

  pub chunk_refused : (e : ReadError) → RefusedToBuffer allowed t u n e → Stops allowed (λ l. read l (length s.buffer)) s e
  chunk_refused e h = elim (small_or (why e)) [
    | inl is_small ↦ record {
      reported = λ bs reports.
          let one = number.reported bs reports in
          let ex = λ (n : ℕ). exceeds_most s.room (length s.buffer + n) in
          let w = width_of (first % 32) in
          let small_is = h.small is_small in
          let room : MatchOption s.room ⊥ (λ most. most < length s.buffer + n) = subst (λ (o : Option ℕ). MatchOption o ⊥ (λ most. most < length s.buffer + n)) number.took.room (subst (λ (b : List ℕ). MatchOption t.room ⊥ (λ most. most < length b + n)) kept small_is.2.0) in
          let same : chunk_at ex major first bs ≡ content_of_chunk ex w n one.rest = chunk_behind ex major first bs n one.rest is small one.holds in
          let stops = same ∙ content_too_long ex w n one.rest (enough_there t.to_come one.rest n one.reports.is small_is.2.1) (too_long s.room (length s.buffer + n) room) in
          let at : place e + length one.rest ≡ s.offset + length bs = omega (arith, small_is.1, one.total) in
          subst (λ (k : ReadErrorCode). FailsBy (ReportsIo allowed) (error_code k) (s.offset + length bs) (place e) (read (limits s bs) (length s.buffer) bs)) (sym is_small) (length one.rest, at, stops);
    }
    | inr other ↦
        stops_then allowed (λ l. content_of_chunk (λ n. exceeds_most l.room (length s.buffer + n)) (width_of (first % 32)) n) (λ l. read l (length s.buffer)) s t e (λ l bs mid. number_behind (first % 32) bs ≡ Ok (n, mid))
        (λ bs mid f at stops. chunk_behind (λ n. exceeds_most s.room (length s.buffer + n)) major first bs n mid is small at ∙ stops) number
        (refused_stops allowed t u n e (λ l. content_of_chunk (λ n. exceeds_most l.room (length s.buffer + n)) (width_of (first % 32)) n) (λ l bs short. content_too_short (λ n. exceeds_most l.room (length s.buffer + n)) (width_of (first % 32)) n bs short) other h.refused)
  ]
