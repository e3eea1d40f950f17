-- What reading the bytes of an item alone gives, where bytes that follow them were there as well.
use Rattle.std.proofs.Common.{◌≡◌, ◌⊎◌, inl, inr, ℕ, zero, suc, ◌+◌, ◌/◌, ◌%◌, ◌<◌, ◌≤◌, Bool, true, false, cond, eqb, ltb, List, [], ◌∷◌, ◌++◌, length, take, drop, Option, None, Some, Ok, Err, refl, sym, ap, subst, arith}
use Rattle.std.specs.Int.{Width, w8, w16, w32, w64, byte_len, from_be_bytes}
use Rattle.std.proofs.lemmas.Bool.{ltb-true, ltb-false}
use Rattle.std.proofs.lemmas.List.{length-append, length-drop}
use Rattle.cbor_model.specs.Allowed.{IsEnd}
use Rattle.cbor_model.specs.Head.{HeadWidth}
use Rattle.cbor_model.specs.Major.{Major, unsigned, negative, bytes, text, array, map, tag, simple, major_of}
use Rattle.cbor_model.specs.Raw.{Length, definite, indefinite, Chunk, joined}
use Rattle.cbor_model.specs.Reader.{Fault, Reads, ◌>>=◌, Reading, ended, byte_at, bytes_at, number_at, number_behind, width_of, with_number, with_length, float_at, simple_at, string_at, checked_text, text_at, begins_chunk, content_of_chunk, chunk_at, chunks_by, string_chunks_at, text_chunks_at, Remaining, counted, to_break, next_at, Parts, go_on, parts_by, key_at, pair_at, items_of, pairs_of, array_at, map_at, tag_at, content_at, after_first, item_by, item_at}
use Rattle.cbor_model.proofs.facts.Reader.{pair_taken, taken}

-- the same was read, and the bytes that follow are behind it
abbrev pub IsSame : {A : Type 0} → List ℕ → A × List ℕ → Reads A → Type 0
IsSame more x (Ok y) = (x.0 ≡ y.0) × (x.1 ≡ y.1 ++ more)
IsSame more x (Err d) = ⊥

-- the bytes end before
abbrev pub Ends : {A : Type 0} → Reads A → Type 0
Ends (Ok y) = ⊥
Ends (Err d) = IsEnd d.why

-- Where something is read of the bytes that more follow, the same is read of them alone; or some of
-- what follows was taken, and of the bytes alone the end is met.
abbrev pub Alone : {A : Type 0} → List ℕ → List ℕ → Reads A → Reads A → Type 0
Alone s more (Ok x) r =
    (length x.1 ≤ length s + length more)
    × (IsSame more x r ⊎ (Ends r × (length x.1 < length more)))
Alone s more (Err d) r = Unit {0}

-- where something is read, no more than n bytes are left
abbrev Leaves : {A : Type 0} → ℕ → Reads A → Type 0
Leaves n (Ok x) = length x.1 ≤ n
Leaves n (Err d) = Unit {0}

leaves_of : {A : Type 0} (more : List ℕ) (R r : Reads A) → Alone [] more R r → Leaves (length more) R
leaves_of more (Ok x) r h = omega (arith, h.0)
leaves_of more (Err d) r h = tt

leaves_map : {A B : Type 0} (n : ℕ) (R : Reads A) (g : A → B) → Leaves n R → Leaves n (R >>= (λ x. Ok (g x.0, x.1)))
leaves_map n (Ok x) g h = h
leaves_map n (Err d) g h = tt

alone_same : {A : Type 0} (s more : List ℕ) (a : A) (s' : List ℕ) → length s' ≤ length s → Alone {A = A} s more (Ok (a, s' ++ more)) (Ok (a, s'))
alone_same s more a s' le = (omega (arith, length-append s' more), inl (refl, refl))

wider : {A : Type 0} (s s' more : List ℕ) (R r : Reads A) → length s' ≤ length s → Alone s' more R r → Alone s more R r
wider s s' more (Ok x) r le h = (omega (arith, h.0), h.1)
wider s s' more (Err d) r le h = tt

-- what was read leaves no more than there was
few : {A : Type 0} (s more : List ℕ) (R r : Reads A) (x : A × List ℕ) → R ≡ Ok x → Alone s more R r → length x.1 ≤ length s + length more
few {A = A} s more R r x is h = (subst (λ (R : Reads A). Alone s more R r) is h).0

-- the end was met, and some of what follows was taken before
beyond : {B : Type 0} (s more left : List ℕ) (R : Reads B) (d : Fault) → IsEnd d.why → length left < length more → Leaves (length left) R → Alone {A = B} s more R (Err d)
beyond s more left (Ok z) d ends less h = (omega arith, inr (ends, omega arith))
beyond s more left (Err e) d ends less h = tt

-- ---- one after another

module _ {A B : Type 0} (s more : List ℕ) (F f : A × List ℕ → Reads B) (over : (a : A) (left : List ℕ) → Leaves (length left) (F (a, left))) where
  -- what is left after the first is less than n and what follows
  alone_bind : (n : ℕ) (R r : Reads A) → n ≤ suc (length s) → Alone s more R r → ((x : A × List ℕ) → R ≡ Ok x → length x.1 < n + length more)
      → ((a : A) (s' : List ℕ) → length s' < n → Alone s' more (F (a, s' ++ more)) (f (a, s')))
      → Alone s more (R >>= F) (r >>= f)
  alone_bind n (Err d) r le h less each = tt
  alone_bind n (Ok x) (Ok y) le (within, inl same) less each =
      let fewer : length y.1 < n = omega (arith, less x refl, ap length same.1, length-append y.1 more) in
      let there = wider s y.1 more (F (y.0, y.1 ++ more)) (f y) (omega arith) (each y.0 y.1 fewer) in
      subst (λ (a : A). Alone s more (F (a, x.1)) (f y)) (sym same.0) (subst (λ (l : List ℕ). Alone s more (F (y.0, l)) (f y)) (sym same.1) there)
  alone_bind n (Ok x) (Err d) le (within, inl same) less each = absurd same
  alone_bind n (Ok x) (Ok y) le (within, inr ends) less each = absurd ends.0
  alone_bind n (Ok x) (Err d) le (within, inr ends) less each = beyond s more x.1 (F x) d ends.0 ends.1 (over x.0 x.1)

  alone_then : (R r : Reads A) → Alone s more R r
      → ((a : A) (s' : List ℕ) → length s' ≤ length s → Alone s' more (F (a, s' ++ more)) (f (a, s')))
      → Alone s more (R >>= F) (r >>= f)
  alone_then R r h each =
      alone_bind (suc (length s)) R r (omega arith) h (λ x is. omega (arith, few s more R r x is h)) (λ a s' le. each a s' (omega arith))

alone_map : {A B : Type 0} (s more : List ℕ) (R r : Reads A) (g : A → B) → Alone s more R r → Alone s more (R >>= (λ x. Ok (g x.0, x.1))) (r >>= (λ x. Ok (g x.0, x.1)))
alone_map {B = B} s more R r g h =
    alone_then s more (λ x. Ok (g x.0, x.1)) (λ x. Ok (g x.0, x.1)) (λ a left. omega arith) R r h (λ a s' le. alone_same s' more (g a) s' (omega arith))

alone_cond : {A : Type 0} (s more : List ℕ) (b : Bool) (X x Y y : Reads A) → Alone s more X x → Alone s more Y y → Alone s more (cond b X Y) (cond b x y)
alone_cond s more true X x Y y one other = one
alone_cond s more false X x Y y one other = other

-- what passes with bytes behind passes alone
alone_pass : {A : Type 0} (s more : List ℕ) (b b' : Bool) (X x : Reads A) (d d' : Fault) → (b ≡ true → b' ≡ true) → Alone s more X x → Alone {A = A} s more (cond b X (Err d)) (cond b' x (Err d'))
alone_pass s more true b' X x d d' lets h = rw (lets refl) h
alone_pass s more false b' X x d d' lets h = tt

alone_stop : {A : Type 0} (s more : List ℕ) (b b' : Bool) (X x : Reads A) (d d' : Fault) → (b ≡ false → b' ≡ false) → Alone s more X x → Alone {A = A} s more (cond b (Err d) X) (cond b' (Err d') x)
alone_stop s more false b' X x d d' lets h = rw (lets refl) h
alone_stop s more true b' X x d d' lets h = tt

-- ---- bytes and numbers

take_front : (n : ℕ) (s more : List ℕ) → n ≤ length s → take n (s ++ more) ≡ take n s
take_front zero s more le = refl
take_front (suc n) [] more le = absurd (omega arith)
take_front (suc n) (b ∷ s) more le = ap (λ (l : List ℕ). b ∷ l) (take_front n s more (omega arith))

drop_front : (n : ℕ) (s more : List ℕ) → n ≤ length s → drop n (s ++ more) ≡ drop n s ++ more
drop_front zero s more le = refl
drop_front (suc n) [] more le = absurd (omega arith)
drop_front (suc n) (b ∷ s) more le = drop_front n s more (omega arith)

-- what is made of the first n bytes
front_alone : {A : Type 0} (g : List ℕ → A) (n : ℕ) (s more : List ℕ)
    → Alone {A = A} s more (cond (ltb (length (s ++ more)) n) (Err ended) (Ok (g (take n (s ++ more)), drop n (s ++ more)))) (cond (ltb (length s) n) (Err ended) (Ok (g (take n s), drop n s)))
front_alone {A = A} g n s more = by_length (ltb (length (s ++ more)) n) (ltb (length s) n) refl refl
  where
    by_length : (p q : Bool) → ltb (length (s ++ more)) n ≡ p → ltb (length s) n ≡ q
        → Alone {A = A} s more (cond p (Err ended) (Ok (g (take n (s ++ more)), drop n (s ++ more)))) (cond q (Err ended) (Ok (g (take n s), drop n s)))
    by_length true q is other = tt
    by_length false true is other =
        let enough = ltb-false (length (s ++ more)) n is in
        let short = ltb-true (length s) n other in
        let left = length-drop n (s ++ more) in
        let all = length-append s more in
        (omega arith, inr (tt, omega arith))
    by_length false false is other =
        let enough = ltb-false (length s) n other in
        let left = length-drop n (s ++ more) in
        let all = length-append s more in
        (omega arith, inl (ap g (take_front n s more enough), drop_front n s more enough))

byte_alone : (s more : List ℕ) → Alone s more (byte_at (s ++ more)) (byte_at s)
unfolding byte_at
byte_alone [] [] = tt
byte_alone [] (b ∷ more) = (omega arith, inr (tt, omega arith))
byte_alone (b ∷ s) more = alone_same (b ∷ s) more b s (omega arith)

byte_less : (s more : List ℕ) (x : ℕ × List ℕ) → byte_at (s ++ more) ≡ Ok x → length x.1 < length s + length more
unfolding byte_at
byte_less [] [] x is = absurd cc
byte_less [] (b ∷ more) x is = let rest : more ≡ x.1 = cc in omega (arith, ap length rest)
byte_less (b ∷ s) more x is = let rest : s ++ more ≡ x.1 = cc in omega (arith, ap length rest, length-append s more)

number_alone : (w : Width) (s more : List ℕ) → Alone s more (number_at w (s ++ more)) (number_at w s)
number_alone w s more = front_alone (from_be_bytes w) (byte_len w) s more

behind_alone : (low : ℕ) (s more : List ℕ) → Alone s more (number_behind low (s ++ more)) (number_behind low s)
unfolding number_behind
behind_alone low s more =
    alone_cond s more (ltb low 24) _ _ _ _ (alone_same s more low s (omega arith))
    (alone_cond s more (eqb low 24) _ _ _ _ (number_alone w8 s more)
    (alone_cond s more (eqb low 25) _ _ _ _ (number_alone w16 s more)
    (alone_cond s more (eqb low 26) _ _ _ _ (number_alone w32 s more)
    (alone_cond s more (eqb low 27) _ _ _ _ (number_alone w64 s more) tt))))

-- a reader of what follows a number, where so many bytes follow those that are read alone
abbrev EachAlone : {A : Type 0} → (HeadWidth → ℕ → List ℕ → Reads A) → (ℕ → HeadWidth → ℕ → List ℕ → Reads A) → Type 0
EachAlone both one = (w : HeadWidth) (n : ℕ) (s more : List ℕ) → Alone s more (both w n (s ++ more)) (one (length more) w n s)

numbered_alone : {A : Type 0} (both : HeadWidth → ℕ → List ℕ → Reads A) (one : ℕ → HeadWidth → ℕ → List ℕ → Reads A) → EachAlone both one
    → (low : ℕ) (s more : List ℕ) → Alone s more (with_number both low (s ++ more)) (with_number (one (length more)) low s)
numbered_alone both one each low s more =
    alone_then s more (λ n. both (width_of low) n.0 n.1) (λ n. one (length more) (width_of low) n.0 n.1)
    (λ n left. leaves_of left (both (width_of low) n left) (one (length left) (width_of low) n []) (each (width_of low) n [] left))
    (number_behind low (s ++ more)) (number_behind low s) (behind_alone low s more)
    (λ n s' le. each (width_of low) n s' more)

length_alone : {A : Type 0} (both : HeadWidth → ℕ → List ℕ → Reads A) (one : ℕ → HeadWidth → ℕ → List ℕ → Reads A)
    (others : List ℕ → Reads A) (others' : ℕ → List ℕ → Reads A) → EachAlone both one
    → ((s more : List ℕ) → Alone s more (others (s ++ more)) (others' (length more) s))
    → (low : ℕ) (s more : List ℕ) → Alone s more (with_length both others low (s ++ more)) (with_length (one (length more)) (others' (length more)) low s)
length_alone both one others others' each none low s more =
    alone_cond s more (eqb low 31) _ _ _ _ (none s more) (numbered_alone both one each low s more)

-- ---- chunks

module _ (exceeds exceeds' : ℕ → Bool) (joins : (n : ℕ) → exceeds n ≡ false → exceeds' n ≡ false) where
  content_of_chunk_alone : EachAlone (content_of_chunk exceeds) (λ k. content_of_chunk exceeds')
  unfolding content_of_chunk
  content_of_chunk_alone w n s more =
      alone_then s more _ _ (λ c left. by_excess c left (exceeds n) _) (bytes_at n (s ++ more)) (bytes_at n s) (front_alone (λ b. b) n s more)
      (λ c s' le. alone_stop s' more (exceeds n) (exceeds' n) _ _ _ _ (joins n) (alone_same s' more (record { width = w; bytes = c }) s' (omega arith)))
    where
      by_excess : (c left : List ℕ) (b : Bool) (d : Fault) → Leaves {A = Chunk} (length left) (cond b (Err d) (Ok (record { width = w; bytes = c }, left)))
      by_excess c left true d = tt
      by_excess c left false d = omega arith

  chunk_alone : (major b : ℕ) (s more : List ℕ) → Alone s more (chunk_at exceeds major b (s ++ more)) (chunk_at exceeds' major b s)
  unfolding chunk_at
  chunk_alone major b s more =
      alone_cond s more (begins_chunk major b) _ _ _ _
      (numbered_alone (content_of_chunk exceeds) (λ k. content_of_chunk exceeds') content_of_chunk_alone (b % 32) s more)
      tt

module _ (exceeds exceeds' : ℕ → Bool) (joins : (n : ℕ) → exceeds n ≡ false → exceeds' n ≡ false) (major : ℕ) where
  -- the chunks behind the first, of so much fuel
  abbrev OthersAlone : ℕ → Type 0
  OthersAlone fuel = (fuel' n : ℕ) (s more : List ℕ) → length s < fuel' → Alone s more (chunks_by exceeds n major fuel (s ++ more)) (chunks_by exceeds' n major fuel' s)

  after_byte : (fuel : ℕ) → OthersAlone fuel → (b : ℕ) (fuel' have : ℕ) (s more : List ℕ) → length s < fuel'
      → Alone s more (cond (eqb b 0xff) (Ok ([], s ++ more)) (chunk_at (λ n. exceeds (have + n)) major b (s ++ more) >>= (λ c. chunks_by exceeds (have + length c.0.bytes) major fuel c.1 >>= (λ cs. Ok (c.0 ∷ cs.0, cs.1)))))
      (cond (eqb b 0xff) (Ok ([], s)) (chunk_at (λ n. exceeds' (have + n)) major b s >>= (λ c. chunks_by exceeds' (have + length c.0.bytes) major fuel' c.1 >>= (λ cs. Ok (c.0 ∷ cs.0, cs.1)))))
  after_byte fuel others b fuel' have s more enough =
      alone_cond s more (eqb b 0xff) _ _ _ _ (alone_same s more [] s (omega arith))
      (alone_then s more _ _ (λ c left. leaves_map (length left) _ (λ cs. c ∷ cs) (leaves_of left _ _ (others 1 (have + length c.bytes) [] left (omega arith))))
      (chunk_at (λ n. exceeds (have + n)) major b (s ++ more)) (chunk_at (λ n. exceeds' (have + n)) major b s) (chunk_alone (λ n. exceeds (have + n)) (λ n. exceeds' (have + n)) (λ n. joins (have + n)) major b s more)
      (λ c s' le. alone_map s' more _ _ (λ cs. c ∷ cs) (others fuel' (have + length c.bytes) s' more (omega arith))))

  chunks_alone : (fuel : ℕ) → OthersAlone fuel
  unfolding chunks_by
  chunks_alone zero fuel' have s more enough = tt
  chunks_alone (suc fuel) zero have s more enough = absurd (omega arith)
  chunks_alone (suc fuel) (suc fuel') have s more enough =
      alone_bind s more _ _ (λ b left. leaves_of left _ _ (after_byte fuel (chunks_alone fuel) b 1 have [] left (omega arith)))
      (length s) (byte_at (s ++ more)) (byte_at s) (omega arith) (byte_alone s more) (byte_less s more) (λ b s' less. after_byte fuel (chunks_alone fuel) b fuel' have s' more (omega arith))

-- ---- the parts of an array or a map

module _ {Part Whole : Type 0} (ps : Parts Part Whole) (one : ℕ → List ℕ → Reads Part)
    (alone : (s more : List ℕ) → Alone s more (ps.part (s ++ more)) (one (length more) s))
    (takes : (bs : List ℕ) (x : Part × List ℕ) → ps.part bs ≡ Ok x → length x.1 < length bs) (ends : IsEnd ps.ends)
  where
    -- the parts, where so many bytes follow
    abbrev qs : ℕ → Parts Part Whole
    qs k = record ps { part = one k }

    abbrev PartsAlone : ℕ → Type 0
    PartsAlone fuel = (fuel' : ℕ) (remaining : Remaining) (s more : List ℕ) → length s < fuel' → Alone s more (parts_by ps fuel remaining (s ++ more)) (parts_by (qs (length more)) fuel' remaining s)

    behind_part : (fuel : ℕ) → PartsAlone fuel → (remaining : Remaining) (a : Part) (left : List ℕ)
        → Leaves (length left) (parts_by ps fuel remaining left >>= (λ rest. Ok (ps.add a rest.0, rest.1)))
    behind_part fuel others remaining a left = leaves_map (length left) _ (ps.add a) (leaves_of left _ _ (others 1 remaining [] left (omega arith)))

    some_alone : (fuel : ℕ) → PartsAlone fuel → (fuel' : ℕ) (remaining : Remaining) (s more : List ℕ) → length s ≤ fuel'
        → Alone s more (go_on ps (parts_by ps fuel) (Some remaining) (s ++ more)) (go_on (qs (length more)) (parts_by (qs (length more)) fuel') (Some remaining) s)
    some_alone fuel others fuel' remaining s more enough =
        alone_bind s more _ _ (λ a left. behind_part fuel others remaining a left)
        (length s) (ps.part (s ++ more)) (one (length more) s) (omega arith) (alone s more) (λ x is. omega (arith, takes (s ++ more) x is, length-append s more))
        (λ a s' less. alone_map s' more _ _ (ps.add a) (others fuel' remaining s' more (omega arith)))

    -- where a part comes of what follows, some of it is taken
    some_taken : (fuel : ℕ) → PartsAlone fuel → (remaining : Remaining) (more : List ℕ) (d : Fault) → IsEnd d.why
        → Alone [] more (go_on ps (parts_by ps fuel) (Some remaining) more) (Err d)
    some_taken fuel others remaining more d is = by_part (ps.part more) refl
      where
        by_part : (R : Reads Part) → ps.part more ≡ R
            → Alone {A = Whole} [] more (R >>= (λ first. parts_by ps fuel remaining first.1 >>= (λ rest. Ok (ps.add first.0 rest.0, rest.1)))) (Err d)
        by_part (Ok x) read = beyond [] more x.1 _ d is (takes more x read) (behind_part fuel others remaining x.0 x.1)
        by_part (Err e) read = tt

    -- up to the break
    abbrev to_next : ℕ → List ℕ → Bool → Reads (Option Remaining)
    to_next b s q = cond q (Ok (None, s)) (Ok (Some to_break, b ∷ s))

    by_break : (fuel : ℕ) → PartsAlone fuel → (fuel' b : ℕ) (q : Bool) (s more : List ℕ) → length s < fuel'
        → Alone (b ∷ s) more (to_next b (s ++ more) q >>= (λ next. go_on ps (parts_by ps fuel) next.0 next.1))
        (to_next b s q >>= (λ next. go_on (qs (length more)) (parts_by (qs (length more)) fuel') next.0 next.1))
    by_break fuel others fuel' b true s more enough = alone_same (b ∷ s) more ps.none s (omega arith)
    by_break fuel others fuel' b false s more enough = some_alone fuel others fuel' to_break (b ∷ s) more (omega arith)

    none_by_break : (fuel : ℕ) → PartsAlone fuel → (b : ℕ) (q : Bool) (more : List ℕ) (d : Fault) → IsEnd d.why
        → Alone [] (b ∷ more) (to_next b more q >>= (λ next. go_on ps (parts_by ps fuel) next.0 next.1)) (Err d)
    none_by_break fuel others b true more d is = (omega arith, inr (is, omega arith))
    none_by_break fuel others b false more d is = some_taken fuel others to_break (b ∷ more) d is

    parts_alone : (fuel : ℕ) → PartsAlone fuel
    unfolding parts_by next_at
    parts_alone zero fuel' remaining s more enough = tt
    parts_alone (suc fuel) zero remaining s more enough = absurd (omega arith)
    parts_alone (suc fuel) (suc fuel') (counted zero) s more enough = alone_same s more ps.none s (omega arith)
    parts_alone (suc fuel) (suc fuel') (counted (suc n)) s more enough = some_alone fuel (parts_alone fuel) fuel' (counted n) s more (omega arith)
    parts_alone (suc fuel) (suc fuel') to_break (b ∷ s) more enough = by_break fuel (parts_alone fuel) fuel' b (eqb b 0xff) s more (omega arith)
    parts_alone (suc fuel) (suc fuel') to_break [] [] enough = tt
    parts_alone (suc fuel) (suc fuel') to_break [] (b ∷ more) enough = none_by_break fuel (parts_alone fuel) b (eqb b 0xff) more _ ends

-- what takes some of the bytes, all of which follow
strict_ends : {A : Type 0} (more : List ℕ) (R : Reads A) → ((x : A × List ℕ) → R ≡ Ok x → length x.1 < length more) → Alone {A = A} [] more R (Err ended)
strict_ends more (Ok x) less = let l = less x refl in (omega arith, inr (tt, l))
strict_ends more (Err d) less = tt

-- ---- items

-- a reader of items, and that of items alone, where so many bytes follow
record Inside (Item : Type 0) : Type 0 where
  both : List ℕ → Reads Item
  one : ℕ → List ℕ → Reads Item
  alone : (s more : List ℕ) → Alone s more (both (s ++ more)) (one (length more) s)
  takes : (bs : List ℕ) (x : Item × List ℕ) → both bs ≡ Ok x → length x.1 < length bs

abbrev both_in : {Item : Type 0} → Option (Inside Item) → Option (List ℕ → Reads Item)
both_in None = None
both_in (Some i) = Some i.both

abbrev one_in : {Item : Type 0} → ℕ → Option (Inside Item) → Option (List ℕ → Reads Item)
one_in k None = None
one_in k (Some i) = Some (i.one k)

module _ {Item : Type 0} (allows allows' : ℕ → Bool) (lets : (b : ℕ) → allows b ≡ true → allows' b ≡ true) (i : Inside Item) where
  key_alone : (s more : List ℕ) → Alone s more (key_at allows i.both (s ++ more)) (key_at allows' (i.one (length more)) s)
  unfolding key_at
  key_alone (b ∷ s) more = alone_pass (b ∷ s) more (allows b) (allows' b) _ _ _ _ (lets b) (i.alone (b ∷ s) more)
  key_alone [] [] = tt
  key_alone [] (b ∷ more) = by_byte (allows b) _
    where
      by_byte : (q : Bool) (d : Fault) → Alone {A = Item} [] (b ∷ more) (cond q (i.both (b ∷ more)) (Err d)) (Err ended)
      by_byte true d = strict_ends (b ∷ more) (i.both (b ∷ more)) (i.takes (b ∷ more))
      by_byte false d = tt

  pair_alone : (s more : List ℕ) → Alone s more (pair_at allows i.both (s ++ more)) (pair_at allows' (i.one (length more)) s)
  unfolding pair_at
  pair_alone s more =
      alone_then s more _ _ (λ k left. leaves_map (length left) (i.both left) (λ v. (k, v)) (leaves_of left _ _ (i.alone [] left)))
      (key_at allows i.both (s ++ more)) (key_at allows' (i.one (length more)) s) (key_alone s more)
      (λ k s' le. alone_map s' more _ _ (λ v. (k, v)) (i.alone s' more))

module _ {Item Items Pairs : Type 0} (m : Reading Item Items Pairs) (room : ℕ → ℕ → ℕ → Bool) (exceeds allows : ℕ → Bool)
    (has_room : (k left n : ℕ) → m.has_room (left + k) n ≡ true → room k left n ≡ true)
    (joins : (n : ℕ) → m.exceeds n ≡ false → exceeds n ≡ false)
    (lets : (b : ℕ) → m.allows b ≡ true → allows b ≡ true)
  where
    -- the reading of the bytes alone, where so many follow, by tests that let pass as much
    abbrev pub alone_by : ℕ → Reading Item Items Pairs
    alone_by k = record m { has_room = room k; exceeds = exceeds; allows = allows }

    float_alone : (low : ℕ) (s more : List ℕ) → Alone s more (float_at m low (s ++ more)) (float_at (alone_by (length more)) low s)
    unfolding float_at
    float_alone low s more =
        alone_cond s more (eqb low 25) _ _ _ _ (alone_map s more _ _ _ (number_alone w16 s more))
        (alone_cond s more (eqb low 26) _ _ _ _ (alone_map s more _ _ _ (number_alone w32 s more))
        (alone_cond s more (eqb low 27) _ _ _ _ (alone_map s more _ _ _ (number_alone w64 s more)) tt))

    simple_alone : (low : ℕ) (s more : List ℕ) → Alone s more (simple_at m low (s ++ more)) (simple_at (alone_by (length more)) low s)
    unfolding simple_at
    simple_alone low s more =
        alone_cond s more (eqb low 20) _ _ _ _ (alone_same s more _ s (omega arith))
        (alone_cond s more (eqb low 21) _ _ _ _ (alone_same s more _ s (omega arith))
        (alone_cond s more (eqb low 22) _ _ _ _ (alone_same s more _ s (omega arith))
        (alone_cond s more (eqb low 23) _ _ _ _ (alone_same s more _ s (omega arith)) (float_alone low s more))))

    checked_alone : (item : Item) (b s more : List ℕ) → Alone s more (checked_text m item b (s ++ more)) (checked_text (alone_by (length more)) item b s)
    unfolding checked_text
    checked_alone item b s more = alone_cond s more (m.is_text b) _ _ _ _ (alone_same s more item s (omega arith)) tt

    string_alone : EachAlone (string_at m) (λ k. string_at (alone_by k))
    unfolding string_at
    string_alone w n s more = alone_map s more (bytes_at n (s ++ more)) (bytes_at n s) (λ b. m.bytes (record { width = w; bytes = b })) (front_alone (λ b. b) n s more)

    text_alone : EachAlone (text_at m) (λ k. text_at (alone_by k))
    unfolding text_at
    text_alone w n s more =
        alone_pass s more (m.has_room (length (s ++ more)) n) (room (length more) (length s) n) _ _ _ _
        (λ is. has_room (length more) (length s) n (subst (λ (l : ℕ). m.has_room l n ≡ true) (length-append s more) is))
        (alone_then s more _ _ (λ b left. leaves_of left _ _ (checked_alone _ b [] left)) (bytes_at n (s ++ more)) (bytes_at n s) (front_alone (λ b. b) n s more) (λ b s' le. checked_alone _ b s' more))

    string_chunks_alone : (s more : List ℕ) → Alone s more (string_chunks_at m (s ++ more)) (string_chunks_at (alone_by (length more)) s)
    unfolding string_chunks_at
    string_chunks_alone s more = alone_map s more _ _ m.bytes_chunks (chunks_alone m.exceeds exceeds joins 2 (suc (length (s ++ more))) (suc (length s)) 0 s more (omega arith))

    text_chunks_alone : (s more : List ℕ) → Alone s more (text_chunks_at m (s ++ more)) (text_chunks_at (alone_by (length more)) s)
    unfolding text_chunks_at
    text_chunks_alone s more =
        alone_then s more _ _ (λ cs left. leaves_of left _ _ (checked_alone _ (joined cs) [] left)) _ _
        (chunks_alone m.exceeds exceeds joins 3 (suc (length (s ++ more))) (suc (length s)) 0 s more (omega arith))
        (λ cs s' le. checked_alone _ (joined cs) s' more)

    array_alone : (i : Option (Inside Item)) (l : Length) (remaining : Remaining) (s more : List ℕ)
        → Alone s more (array_at m (both_in i) l remaining (s ++ more)) (array_at (alone_by (length more)) (one_in (length more) i) l remaining s)
    unfolding array_at
    array_alone None l remaining s more = tt
    array_alone (Some i) l remaining s more =
        alone_map s more _ _ (m.array l) (parts_alone (items_of m i.both) i.one i.alone i.takes tt (suc (length (s ++ more))) (suc (length s)) remaining s more (omega arith))

    map_alone : (i : Option (Inside Item)) (l : Length) (remaining : Remaining) (s more : List ℕ)
        → Alone s more (map_at m (both_in i) l remaining (s ++ more)) (map_at (alone_by (length more)) (one_in (length more) i) l remaining s)
    unfolding map_at
    map_alone None l remaining s more = tt
    map_alone (Some i) l remaining s more =
        alone_map s more _ _ (m.map l)
        (parts_alone (pairs_of m i.both) (λ k. pair_at allows (i.one k)) (pair_alone m.allows allows lets i) (pair_taken m.allows i.both i.takes) tt (suc (length (s ++ more))) (suc (length s)) remaining s more (omega arith))

    tag_alone : (i : Option (Inside Item)) → EachAlone (tag_at m (both_in i)) (λ k. tag_at (alone_by k) (one_in k i))
    unfolding tag_at
    tag_alone None w n s more = tt
    tag_alone (Some i) w n s more = alone_map s more _ _ (m.tag w n) (i.alone s more)

    content_alone : (i : Option (Inside Item)) (t : Major) (low : ℕ) (s more : List ℕ)
        → Alone s more (content_at m (both_in i) t low (s ++ more)) (content_at (alone_by (length more)) (one_in (length more) i) t low s)
    unfolding content_at
    content_alone i unsigned = numbered_alone (λ w n rest. Ok (m.unsigned w n, rest)) (λ k w n rest. Ok (m.unsigned w n, rest)) (λ w n s more. alone_same s more (m.unsigned w n) s (omega arith))
    content_alone i negative = numbered_alone (λ w n rest. Ok (m.negative w n, rest)) (λ k w n rest. Ok (m.negative w n, rest)) (λ w n s more. alone_same s more (m.negative w n) s (omega arith))
    content_alone i bytes = length_alone (string_at m) (λ k. string_at (alone_by k)) (string_chunks_at m) (λ k. string_chunks_at (alone_by k)) string_alone string_chunks_alone
    content_alone i text = length_alone (text_at m) (λ k. text_at (alone_by k)) (text_chunks_at m) (λ k. text_chunks_at (alone_by k)) text_alone text_chunks_alone
    content_alone i array =
        length_alone (λ w n. array_at m (both_in i) (definite w) (counted n)) (λ k w n. array_at (alone_by k) (one_in k i) (definite w) (counted n)) (array_at m (both_in i) indefinite to_break) (λ k. array_at (alone_by k) (one_in k i) indefinite to_break)
        (λ w n. array_alone i (definite w) (counted n)) (array_alone i indefinite to_break)
    content_alone i map =
        length_alone (λ w n. map_at m (both_in i) (definite w) (counted n)) (λ k w n. map_at (alone_by k) (one_in k i) (definite w) (counted n)) (map_at m (both_in i) indefinite to_break) (λ k. map_at (alone_by k) (one_in k i) indefinite to_break)
        (λ w n. map_alone i (definite w) (counted n)) (map_alone i indefinite to_break)
    content_alone i tag = numbered_alone (tag_at m (both_in i)) (λ k. tag_at (alone_by k) (one_in k i)) (tag_alone i)
    content_alone i simple = simple_alone

    item_by_alone : (i : Option (Inside Item)) (s more : List ℕ) → Alone s more (item_by m (both_in i) (s ++ more)) (item_by (alone_by (length more)) (one_in (length more) i) s)
    unfolding item_by after_first
    item_by_alone i s more =
        alone_then s more _ _ (λ b left. leaves_of left _ _ (content_alone i (major_of (b / 32)) (b % 32) [] left))
        (byte_at (s ++ more)) (byte_at s) (byte_alone s more) (λ b s' le. content_alone i (major_of (b / 32)) (b % 32) s' more)

    pub item_alone : (levels : ℕ) (s more : List ℕ) → Alone s more (item_at m levels (s ++ more)) (item_at (alone_by (length more)) levels s)
    unfolding item_at
    item_alone zero = item_by_alone None
    item_alone (suc levels) =
        item_by_alone (Some (record { both = item_at m levels; one = λ k. item_at (alone_by k) levels; alone = item_alone levels; takes = taken m levels }))
