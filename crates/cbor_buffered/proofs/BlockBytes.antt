-- The bytes of a block, before the reader's.
use Rattle.std.proofs.Common.{◌≡◌, ◌≢◌, ℕ, ◌+◌, ◌-◌, ◌<◌, ◌≤◌, List, [], ◌∷◌, ◌++◌, length, take, drop}
use Rattle.std.proofs.Common.{Option, Some, None, IfSome, refl, sym, ap, ◌∙◌, arith}
use Rattle.std.proofs.Common.{append_assoc, length-append}
use Rattle.std.proofs.Math.Seq.{take-append_seam}
use Rattle.std.proofs.lemmas.List.{drop-drop, drop-take, take-take, drop_all, length-drop}
use Rattle.std.proofs.lemmas.List.{length-take, length-take-le, take-append-drop}
use Rattle.std.proofs.lemmas.Str.{utf8_valid_len-IsUtf8}
use Rattle.std.specs.Str.{IsUtf8}
use Rattle.std.specs.Str.Lossy.{utf8_valid_len}
use Rattle.std.specs.Io.KnownBytes.{Consumes, Keeps, prepend_known}
use Rattle.cbor_read.specs.Source.{Input, TookKept, first_of}
use Rattle.cbor_buffered.specs.Block.{ahead_input}

-- ---- the block

-- the next n bytes are the same, wherever the block ends after them
pub front_same : (b : List ℕ) (t n e : ℕ) → t + n ≤ e
    → take n (drop t (take e b)) ≡ take n (drop t b)
front_same b t n e within =
    sym (drop-take t n (take e b))
    ∙ ap (drop t) (take-take (t + n) e b within)
    ∙ drop-take t n b

-- the next n bytes, and those after them
pub taken_apart : (b : List ℕ) (t n f : ℕ) → t + n ≤ f
    → drop t (take f b) ≡ take n (drop t b) ++ drop (t + n) (take f b)
taken_apart b t n f within =
    sym (take-append-drop n (drop t (take f b)))
    ∙ ap (λ l. l ++ drop n (drop t (take f b))) (front_same b t n f within)
    ∙ ap (λ l. take n (drop t b) ++ l) (drop-drop n t (take f b))

-- how many bytes there are from t on
pub count_ahead : (b : List ℕ) (t e : ℕ) → e ≤ length b → length (drop t (take e b)) ≡ e - t
count_ahead b t e within =
    length-drop t (take e b) ∙ ap (λ n. n - t) (length-take-le e b within)

-- none is left
pub none_left : (b : List ℕ) (t f : ℕ) → f ≤ t → drop t (take f b) ≡ []
none_left b t f ends = drop_all t (take f b) (omega (arith, length-take f b))

-- what was read behind the first f bytes, which stayed, comes after those that are left
pub read_on : (b c : List ℕ) (t f n : ℕ) → t ≤ f → take f c ≡ take f b
    → drop t (take (f + n) c) ≡ drop t (take f b) ++ take n (drop f c)
read_on b c t f n order same =
    let all : t + (f - t) ≡ f = omega arith in
    let left : take (f - t) (drop t c) ≡ drop t (take f b) =
    sym (drop-take t (f - t) c) ∙ ap (λ m. drop t (take m c)) all ∙ ap (drop t) same in
    taken_apart c t (f - t) (f + n) (omega arith)
    ∙ ap (λ l. l ++ drop (t + (f - t)) (take (f + n) c)) left
    ∙ ap (λ m. drop t (take f b) ++ drop m (take (f + n) c)) all
    ∙ ap (λ l. drop t (take f b) ++ l) (drop-take f n c)

-- ---- and the reader

pub prepended : (rem : Option (List ℕ)) (xs ys p : List ℕ) → xs ≡ p ++ ys
    → Consumes (prepend_known xs rem) (prepend_known ys rem) p
prepended None xs ys p e = tt
prepended (Some r) xs ys p e = ap (λ l. l ++ r) e ∙ append_assoc p ys r

-- none could be read
pub kept_on : (rem new : Option (List ℕ)) (xs ys : List ℕ) → xs ≡ [] → ys ≡ [] → Keeps rem new
    → Keeps (prepend_known xs rem) (prepend_known ys new)
kept_on None new xs ys e f h = tt
kept_on (Some r) None xs ys e f h = absurd h
kept_on (Some r) (Some left) xs ys e f h =
    ap (λ l. l ++ left) f ∙ h ∙ sym (ap (λ l. l ++ r) e)

-- some came behind those that were read before
pub kept_behind : (rem new : Option (List ℕ)) (xs ys more : List ℕ) → ys ≡ xs ++ more
    → Consumes rem new more → Keeps (prepend_known xs rem) (prepend_known ys new)
kept_behind None new xs ys more e h = tt
kept_behind (Some r) None xs ys more e h = absurd h
kept_behind (Some r) (Some left) xs ys more e h =
    ap (λ l. l ++ left) e ∙ append_assoc xs more left ∙ sym (ap (λ l. xs ++ l) h)

-- the bytes at hand are the front
pub front_ahead : (rem : Option (List ℕ)) (xs hand more : List ℕ) → xs ≡ hand ++ more
    → IfSome (prepend_known xs rem) (λ bs. take (length hand) bs ≡ hand)
front_ahead None xs hand more e = tt
front_ahead (Some r) xs hand more e =
    ap (λ l. take (length hand) (l ++ r)) e
    ∙ ap (take (length hand)) (append_assoc hand more r)
    ∙ take-append_seam hand (more ++ r)

-- where some are ahead, some are to come
pub some_to_come : (rem : Option (List ℕ)) (xs : List ℕ) → 0 < length xs
    → IfSome (prepend_known xs rem) (λ bs. bs ≢ [])
some_to_come None xs h = tt
some_to_come (Some r) xs h = λ e. absurd (omega (arith, ap length e, length-append xs r))

-- ---- steps of a source

-- those at hand are the front of those that are to come
pub at_front : (rem : Option (List ℕ)) (b : List ℕ) (t e f : ℕ) → t ≤ e → e ≤ f → f ≤ length b
    → IfSome (prepend_known (drop t (take f b)) rem)
    (λ bs. take (length (drop t (take e b))) bs ≡ drop t (take e b))
at_front rem b t e f order counted within =
    let ends : t + (e - t) ≡ e = omega arith in
    let whole = drop-take t (e - t) b in
    let hand : drop t (take e b) ≡ take (e - t) (drop t b) =
    ap (λ m. drop t (take m b)) (sym ends) ∙ whole in
    front_ahead rem (drop t (take f b)) (drop t (take e b)) (drop e (take f b))
    (taken_apart b t (e - t) f (omega arith)
    ∙ ap (λ l. l ++ drop (t + (e - t)) (take f b)) (sym hand)
    ∙ ap (λ m. drop t (take e b) ++ drop m (take f b)) ends)

-- the next n bytes, which are in the block, are taken
pub advanced : (rem : Option (List ℕ)) (b buffer : List ℕ) (t n e f start : ℕ) → t + n ≤ e
    → e ≤ f → f ≤ length b
    → TookKept (ahead_input (drop t (take f b)) rem buffer (start + t))
    (ahead_input (drop (t + n) (take f b)) rem buffer (start + (t + n)))
    (take n (drop t (take e b)))
advanced rem b buffer t n e f start within counted fits =
    let len : length (take n (drop t (take e b))) ≡ n =
    length-take-le n (drop t (take e b)) (omega (arith, count_ahead b t e (omega arith))) in
    record {
      bytes = prepended rem (drop t (take f b)) (drop (t + n) (take f b))
          (take n (drop t (take e b)))
          (taken_apart b t n f (omega arith)
          ∙ ap (λ l. l ++ drop (t + n) (take f b)) (sym (front_same b t n e within)));
      count = omega (arith, len);
      room = refl;
      kept = refl;
    }

-- ---- text

-- all of a text is UTF-8
pub all_valid : (b : List ℕ) → IsUtf8 b → length b ≡ utf8_valid_len b
all_valid b is = sym (utf8_valid_len-IsUtf8 b is)

-- how many bytes are taken
pub taken_length : (b : List ℕ) (t n e : ℕ) → t + n ≤ e → e ≤ length b
    → length (take n (drop t (take e b))) ≡ n
taken_length b t n e within fits =
    length-take-le n (drop t (take e b)) (omega (arith, count_ahead b t e fits))

-- what was taken was the front
pub took_front : (a left : Option (List ℕ)) (p : List ℕ) (n : ℕ) → length p ≡ n
    → Consumes a left p → IfSome a (λ bs. p ≡ take n bs)
took_front None left p n len h = tt
took_front (Some xs) None p n len h = absurd h
took_front (Some xs) (Some ys) p n len h =
    sym (take-append_seam p ys) ∙ ap (take (length p)) (sym h) ∙ ap (λ m. take m xs) len

-- the first byte that is at hand, once it is taken
pub first_taken : (s t : Input) (hand : List ℕ) → (0 < length hand → TookKept s t (take 1 hand))
    → IfSome (first_of hand) (λ b. TookKept s t (b ∷ []))
first_taken s t [] h = tt
first_taken s t (x ∷ xs) h = h (omega arith)
