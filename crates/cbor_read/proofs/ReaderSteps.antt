-- What calls of a reader, one after the other, take of it as a source.
use Rattle.std.proofs.Common.{◌≡◌, ◌≢◌, ℕ, ◌+◌, ◌<◌, ◌≤◌, true, false, List, [], ◌∷◌, ◌++◌, length}
use Rattle.std.proofs.Common.{take, Option, Some, None, IfSome, refl, sym, ap, subst, ◌∙◌}
use Rattle.std.proofs.Common.{append_assoc, append-nil, length-append, length-take-le, add-zero}
use Rattle.std.proofs.Common.{slice_set, arith, rules}
use Rattle.std.proofs.Math.Seq.{take-append-add}
use Rattle.std.proofs.lemmas.List.{take-append-le}
use borrow.Rule.Slice.PartMut.{put_mid, post_of}
use Rattle.std.specs.Io.KnownBytes.{Consumes, Keeps, IsAtEnd}
use Rattle.std.proofs.KnownBytes.{Consumes-nil, Consumes-trans, Keeps-refl, Keeps-trans}
use Rattle.cbor_io.specs.ReadError.{why, place, HasNoPlace, IsMemory}
use Rattle.cbor_read.specs.Source.{Input, TookKept, TookSome, Stays, Buffered, TooFew, IsOfSource}
use Rattle.cbor_read.specs.Source.{RefusedCall, RefusedToBuffer, RefusedInto, RefusedByte}
use Rattle.cbor_read.specs.Source.{reader_refusals}
use Rattle.cbor_io.specs.declared.read_error.ReadError.{ReadError}
use Rattle.cbor_io.specs.declared.read_error.ReadErrorCode.TheVariants.{ScratchTooSmall}
use Rattle.cbor_io.specs.declared.read_error.ReadErrorCode.TheVariants.{EofWhileParsingValue}

-- ---- known bytes

consumes_none : (a b : Option (List ℕ)) → Keeps a b → Consumes a b []
consumes_none None b h = tt
consumes_none (Some xs) None h = absurd h
consumes_none (Some xs) (Some ys) h = sym h

pub at_end_before : (a b : Option (List ℕ)) → Consumes a b [] → IsAtEnd b → IsAtEnd a
at_end_before None b h e = tt
at_end_before (Some xs) None h e = absurd h
at_end_before (Some xs) (Some ys) h e = h ∙ e

reported_end : (a : Option (List ℕ)) → IfSome a (λ bs. bs ≡ []) → IsAtEnd a
reported_end None e = tt
reported_end (Some xs) e = e

-- all that was to come was taken, and it is too little
ended : (a b : Option (List ℕ)) (p : List ℕ) (n at start : ℕ) → Consumes a b p → IsAtEnd b
    → length p < n → at ≡ start + length p
    → IfSome a (λ bs. (length bs < n) × (at ≡ start + length bs))
ended None b p n at start h e l q = tt
ended (Some xs) None p n at start h e l q = absurd h
ended (Some xs) (Some ys) p n at start h e l q =
    let same : length xs ≡ length p = ap length (h ∙ ap (λ y. p ++ y) e ∙ append-nil p) in
    (omega arith, omega arith)

few_after : (a b : Option (List ℕ)) (p : List ℕ) (m n at mid start : ℕ) → Consumes a b p
    → length p + m ≤ n → mid ≡ start + length p
    → IfSome b (λ bs. (length bs < m) × (at ≡ mid + length bs))
    → IfSome a (λ bs. (length bs < n) × (at ≡ start + length bs))
few_after None b p m n at mid start h l q few = tt
few_after (Some xs) None p m n at mid start h l q few = absurd h
few_after (Some xs) (Some ys) p m n at mid start h l q few =
    let same : length xs ≡ length p + length ys = ap length h ∙ length-append p ys in
    let short = few.0 in
    let place = few.1 in
    (omega arith, omega arith)

-- ---- a piece in the middle of a slice

-- the front of what is written after the first a
pub filled_more : (a k n : ℕ) (xs ys : List ℕ) → a ≤ length xs → n ≤ length ys
    → take (a + n) (put_mid a k xs ys) ≡ take a xs ++ take n ys
filled_more a k n xs ys within fits =
    ap (λ m. take (m + n) (put_mid a k xs ys)) (sym (length-take-le a xs within))
    ∙ take-append-add (take a xs) (ys ++ post_of a k xs) n
    ∙ ap (λ v. take a xs ++ v) (take-append-le n ys (post_of a k xs) fits)

-- ---- one byte

first_set : (b : ℕ) (xs : List ℕ) → 0 < length xs → take 1 (slice_set xs 0 b) ≡ b ∷ []
first_set b [] h = search (rules, h)
first_set b (x ∷ xs) h = refl

pub first_taken : (s t : Input) (b : ℕ) (xs : List ℕ) → 0 < length xs → TookKept s t (b ∷ [])
    → TookKept s t (take 1 (slice_set xs 0 b))
first_taken s t b xs h w = subst (TookKept s t) (sym (first_set b xs h)) w

pub stays_same : (s : Input) → Stays s s
stays_same s = record { bytes = Keeps-refl s.to_come; count = refl; room = refl; kept = refl }

pub stays_then : (s t u : Input) → Stays s t → Stays t u → Stays s u
stays_then s t u h w = record {
  bytes = Keeps-trans s.to_come t.to_come u.to_come h.bytes w.bytes;
  count = w.count ∙ h.count;
  room = w.room ∙ h.room;
  kept = w.kept ∙ h.kept;
}

pub stays_kept : (s t : Input) → Stays s t → TookKept s t []
stays_kept s t w = record {
  bytes = consumes_none s.to_come t.to_come w.bytes;
  count = w.count ∙ sym (add-zero s.offset);
  room = w.room;
  kept = w.kept;
}

pub stays_end : (s : Input) → IfSome s.to_come (λ bs. bs ≡ []) → IsAtEnd s.to_come
stays_end s e = reported_end s.to_come e

-- ---- what was taken, and then more

pub kept_some : (s t : Input) (p : List ℕ) → TookKept s t p → TookSome s t
kept_some s t p h = record { some = p; bytes = h.bytes; count = h.count; room = h.room }

buffered_some : (s t : Input) (n : ℕ) → Buffered s t n → TookSome s t
buffered_some s t n h =
    record {
      some = h.some;
      bytes = h.bytes;
      count = h.count ∙ ap (λ m. s.offset + m) (sym h.len);
      room = h.room;
    }

pub some_then : (s t u : Input) → TookSome s t → TookSome t u → TookSome s u
some_then s t u h w = record {
  some = h.some ++ w.some;
  bytes = Consumes-trans s.to_come t.to_come u.to_come h.some w.some h.bytes w.bytes;
  count = omega (arith, length-append h.some w.some, h.count, w.count);
  room = w.room ∙ h.room;
}

pub kept_none : (s : Input) → TookKept s s []
kept_none s = record {
  bytes = Consumes-nil s.to_come;
  count = sym (add-zero s.offset);
  room = refl;
  kept = refl;
}

pub kept_more : (s t u : Input) (p q : List ℕ) → TookKept s t p → TookKept t u q
    → TookKept s u (p ++ q)
kept_more s t u p q h w = record {
  bytes = Consumes-trans s.to_come t.to_come u.to_come p q h.bytes w.bytes;
  count = omega (arith, length-append p q, h.count, w.count);
  room = w.room ∙ h.room;
  kept = w.kept ∙ h.kept;
}

pub buffered_none : (s : Input) → Buffered s s 0
buffered_none s = record {
  some = [];
  len = refl;
  bytes = Consumes-nil s.to_come;
  count = sym (add-zero s.offset);
  room = refl;
  buffered = sym (append-nil s.buffer);
}

pub buffered_more : (s t u : Input) (k m n : ℕ) → n ≡ k + m → Buffered s t k → Buffered t u m
    → Buffered s u n
buffered_more s t u k m n e h w = record {
  some = h.some ++ w.some;
  len = omega (arith, length-append h.some w.some, h.len, w.len, e);
  bytes = Consumes-trans s.to_come t.to_come u.to_come h.some w.some h.bytes w.bytes;
  count = omega (arith, h.count, w.count, e);
  room = w.room ∙ h.room;
  buffered = w.buffered ∙ ap (λ x. x ++ w.some) h.buffered ∙ append_assoc s.buffer h.some w.some;
}

-- ---- refusals

not_small : (e : ReadError) → reader_refusals (why e) ≡ true → why e ≢ ScratchTooSmall
not_small e h f =
    let never : false ≡ true = sym (ap reader_refusals f) ∙ h in
    absurd (cc)

-- the end was met, and more was wanted
at_end : (s t : Input) (n : ℕ) (e : ReadError) → why e ≡ EofWhileParsingValue → TookSome s t
    → TooFew s n (place e) → RefusedCall reader_refusals s t n e
at_end s t n e q h few = record {
  code = ap reader_refusals q;
  kind = subst IsOfSource (sym q) tt;
  moved = h;
  nowhere = λ f. absurd (subst HasNoPlace q f);
  ended = λ f. few;
  limit = λ f. absurd (cc);
}

pub piece_at_end : (s t : Input) (n : ℕ) (e : ReadError) → why e ≡ EofWhileParsingValue
    → place e ≡ t.offset → 0 < n → TookKept s t [] → IsAtEnd s.to_come
    → RefusedToBuffer reader_refusals s t n e
piece_at_end s t n e q at l h w = record {
  refused = at_end s t n e q (kept_some s t [] h)
      (ended s.to_come s.to_come [] n (place e) s.offset (Consumes-nil s.to_come) w l
      (at ∙ h.count));
  small = λ f. absurd (cc);
}

pub into_at_end : (s t u : Input) (p : List ℕ) (n : ℕ) (e : ReadError)
    → why e ≡ EofWhileParsingValue → place e ≡ u.offset → length p < n → TookKept s t p
    → TookKept t u []
    → IsAtEnd t.to_come → RefusedInto reader_refusals s u n e
into_at_end s t u p n e q at l h k w =
    let all = kept_more s t u p [] h k in
    record {
      refused = at_end s u n e q (kept_some s u (p ++ []) all)
          (ended s.to_come t.to_come p n (place e) s.offset h.bytes w l
          (omega (arith, at, h.count, k.count)));
      kept = all.kept;
      room = λ f. absurd (cc);
    }

-- a byte's refusal ends a call that wants more
byte_refused : (s t u : Input) (n : ℕ) (e : ReadError) → TookSome s t
    → RefusedByte reader_refusals t u e → RefusedCall reader_refusals s u n e
byte_refused s t u n e h w = record {
  code = w.refused.code;
  kind = w.refused.kind;
  moved = some_then s t u h w.refused.moved;
  nowhere = w.refused.nowhere;
  ended = λ f. absurd (w.ended f);
  limit = w.refused.limit;
}

pub piece_refused : (s t : Input) (n : ℕ) (e : ReadError) → RefusedByte reader_refusals s t e
    → RefusedToBuffer reader_refusals s t n e
piece_refused s t n e w = record {
  refused = byte_refused s s t n e (kept_some s s [] (kept_none s)) w;
  small = λ f. absurd (w.room f);
}

pub into_refused : (s t u : Input) (p : List ℕ) (n : ℕ) (e : ReadError) → TookKept s t p
    → RefusedByte reader_refusals t u e → RefusedInto reader_refusals s u n e
into_refused s t u p n e h w = record {
  refused = byte_refused s t u n e (kept_some s t p h) w;
  kept = w.stays.kept ∙ h.kept;
  room = w.room;
}

-- the bytes of a piece are in the buffer
pub piece_buffered : (s t u : Input) (n : ℕ) (piece : List ℕ) → n ≤ length piece
    → TookKept s t (take n piece) → u.to_come ≡ t.to_come → u.offset ≡ t.offset → u.room ≡ t.room
    → u.buffer ≡ t.buffer ++ take n piece → Buffered s u n
piece_buffered s t u n piece l h c o r b =
    let len : length (take n piece) ≡ n = length-take-le n piece l in
    record {
      some = take n piece;
      len = len;
      bytes = subst (λ v. Consumes s.to_come v (take n piece)) (sym c) h.bytes;
      count = o ∙ h.count ∙ ap (λ m. s.offset + m) len;
      room = r ∙ h.room;
      buffered = b ∙ ap (λ x. x ++ take n piece) h.kept;
    }

-- the buffer couldn't grow: the piece is gone
pub piece_lost : (s t u : Input) (n : ℕ) (p : List ℕ) (e : ReadError) → IsMemory e → TookKept s t p
    → u.to_come ≡ t.to_come → u.offset ≡ t.offset → u.room ≡ t.room
    → RefusedToBuffer reader_refusals s u n e
piece_lost s t u n p e m h c o r = let q = m.0 in record {
  refused = record {
    code = ap reader_refusals m.0;
    kind = subst IsOfSource (sym m.0) tt;
    moved = record {
      some = p;
      bytes = subst (λ v. Consumes s.to_come v p) (sym c) h.bytes;
      count = o ∙ h.count;
      room = r ∙ h.room;
    };
    nowhere = λ f. m.1;
    ended = λ f. absurd (cc);
    limit = λ f. absurd (cc);
  };
  small = λ f. absurd (cc);
}

-- some pieces are in the buffer, and the next was refused
pub join_refused : (s t u : Input) (k m n : ℕ) (e : ReadError) → k + m ≤ n → Buffered s t k
    → RefusedToBuffer reader_refusals t u m e → RefusedToBuffer reader_refusals s u n e
join_refused s t u k m n e l h w = record {
  refused = record {
    code = w.refused.code;
    kind = w.refused.kind;
    moved = some_then s t u (buffered_some s t k h) w.refused.moved;
    nowhere = w.refused.nowhere;
    ended = λ f. few_after s.to_come t.to_come h.some m n (place e) t.offset s.offset h.bytes
        (omega (arith, h.len, l)) (omega (arith, h.count, h.len)) (w.refused.ended f);
    limit = w.refused.limit;
  };
  small = λ f. absurd (not_small e w.refused.code f);
}
