-- Where fewer bytes of chunks can be joined, the reference reader answers the same, or that the
-- scratch is too small.
use Rattle.std.proofs.Common.{◌≡◌, ◌⊎◌, ℕ, zero, suc, ◌+◌, ◌/◌, ◌%◌, Bool, true, false, cond, eqb}
use Rattle.std.proofs.Common.{List, [], ◌∷◌, length, Option, Some, None, Result, Ok, Err, refl, sym, subst}
use Rattle.std.proofs.Common.{inl, inr}
use Rattle.cbor_model.specs.Head.{HeadWidth}
use Rattle.cbor_model.specs.Major.{Major, unsigned, negative, bytes, text, array, map, tag, simple}
use Rattle.cbor_model.specs.Major.{major_of}
use Rattle.cbor_model.specs.Raw.{Length, definite, indefinite}
use Rattle.cbor_model.specs.Refusal.{scratch_too_small}
use Rattle.cbor_model.specs.Reader.{Fault, Reads, ◌>>=◌, Reading, byte_at, bytes_at, number_behind}
use Rattle.cbor_model.specs.Reader.{width_of, with_number, with_length, simple_at, float_at, string_at, checked_text, text_at}
use Rattle.cbor_model.specs.Reader.{begins_chunk, content_of_chunk, chunk_at, chunks_by, chunks_at}
use Rattle.cbor_model.specs.Reader.{string_chunks_at, text_chunks_at, Remaining, counted, to_break}
use Rattle.cbor_model.specs.Reader.{next_at, Parts, go_on, parts_by, parts_at, key_at}
use Rattle.cbor_model.specs.Reader.{pair_at, items_of}
use Rattle.cbor_model.specs.Reader.{pairs_of, within, array_at, map_at, tag_at, content_at}
use Rattle.cbor_model.specs.Reader.{after_first, item_by, item_at}
use Rattle.cbor_model.specs.Laws.{IsScratchTooSmall}

-- the same, or that the scratch is too small
abbrev pub Agrees : {A : Type 0} → Result A Fault → Result A Fault → Type 0
Agrees r r' = (r ≡ r') ⊎ IsScratchTooSmall r

agrees_then : {A B : Type 0} (r : Result A Fault) (f f' : A → Result B Fault)
    → ((x : A) → Agrees (f x) (f' x)) → Agrees (r >>= f) (r >>= f')
agrees_then (Ok x) f f' each = each x
agrees_then (Err d) f f' each = inl refl

pub agrees_bind : {A B : Type 0} (r r' : Result A Fault) (f f' : A → Result B Fault)
    → Agrees r r' → ((x : A) → Agrees (f x) (f' x)) → Agrees (r >>= f) (r' >>= f')
agrees_bind {A = A} r r' f f' (inl same) each =
    subst (λ (r : Result A Fault). Agrees (r >>= f) (r' >>= f')) (sym same)
    (agrees_then r' f f' each)
agrees_bind (Ok x) r' f f' (inr small) each = absurd small
agrees_bind (Err d) r' f f' (inr small) each = inr small

agrees_cond : {A : Type 0} (b : Bool) (x x' y y' : Result A Fault) → Agrees x x' → Agrees y y'
    → Agrees (cond b x y) (cond b x' y')
agrees_cond true x x' y y' one other = one
agrees_cond false x x' y y' one other = other

-- a number, or a length, and what is read after it
abbrev EachAgrees : {A : Type 0} → (HeadWidth → ℕ → List ℕ → Reads A) → (HeadWidth → ℕ → List ℕ → Reads A) → Type 0
EachAgrees read read' = (w : HeadWidth) (n : ℕ) (bs : List ℕ) → Agrees (read w n bs) (read' w n bs)

numbered_agrees : {A : Type 0} (read read' : HeadWidth → ℕ → List ℕ → Reads A)
    → EachAgrees read read' → (low : ℕ) (bs : List ℕ)
    → Agrees (with_number read low bs) (with_number read' low bs)
numbered_agrees read read' each low bs =
    agrees_then (number_behind low bs) _ _ (λ n. each (width_of low) n.0 n.1)

length_agrees : {A : Type 0} (read read' : HeadWidth → ℕ → List ℕ → Reads A)
    (others others' : List ℕ → Reads A) → EachAgrees read read'
    → ((bs : List ℕ) → Agrees (others bs) (others' bs)) → (low : ℕ) (bs : List ℕ)
    → Agrees (with_length read others low bs) (with_length read' others' low bs)
length_agrees read read' others others' each none low bs =
    agrees_cond (eqb low 31) _ _ _ _ (none bs) (numbered_agrees read read' each low bs)

-- ---- chunks

-- any number of bytes can be joined
abbrev none_exceeds : ℕ → Bool
none_exceeds n = false

module _ (exceeds : ℕ → Bool) where
  chunk_content_agrees : (w : HeadWidth) (n : ℕ) (bs : List ℕ)
      → Agrees (content_of_chunk exceeds w n bs) (content_of_chunk none_exceeds w n bs)
  unfolding content_of_chunk
  chunk_content_agrees w n bs =
      agrees_then (bytes_at n bs) _ _ (λ c. refused_or (exceeds n) _ _ refl)
    where
      refused_or : {A : Type 0} (b : Bool) (f : Fault) (y : Result A Fault)
          → f.why ≡ scratch_too_small → Agrees (cond b (Err f) y) y
      refused_or true f y small = inr small
      refused_or false f y small = inl refl

  chunk_agrees : (major b : ℕ) (bs : List ℕ)
      → Agrees (chunk_at exceeds major b bs) (chunk_at none_exceeds major b bs)
  unfolding chunk_at
  chunk_agrees major b bs =
      agrees_cond (begins_chunk major b) _ _ _ _
      (numbered_agrees (content_of_chunk exceeds) (content_of_chunk none_exceeds)
      chunk_content_agrees (b % 32) bs)
      (inl refl)

chunks_agree : (exceeds : ℕ → Bool) (have major fuel : ℕ) (bs : List ℕ)
    → Agrees (chunks_by exceeds have major fuel bs) (chunks_by none_exceeds have major fuel bs)
unfolding chunks_by
chunks_agree exceeds have major zero bs = inl refl
chunks_agree exceeds have major (suc fuel) bs =
    agrees_then (byte_at bs) _ _ (λ b.
    let more = λ (n : ℕ). exceeds (have + n) in
    agrees_cond (eqb b.0 0xff) _ _ _ _ (inl refl)
    (agrees_bind (chunk_at more major b.0 b.1) (chunk_at none_exceeds major b.0 b.1) _ _
    (chunk_agrees more major b.0 b.1)
    (λ c.
    let n = have + length c.0.bytes in
    agrees_bind (chunks_by exceeds n major fuel c.1) (chunks_by none_exceeds n major fuel c.1) _ _
    (chunks_agree exceeds n major fuel c.1)
    (λ cs. inl refl))))

-- ---- the parts of an array or a map

module _ {Part Whole : Type 0} (ps : Parts Part Whole) (q : List ℕ → Reads Part)
    (agrees : (bs : List ℕ) → Agrees (ps.part bs) (q bs))
  where
    -- the parts, read by q
    abbrev qs : Parts Part Whole
    qs = record ps { part = q }

    go_on_agrees : (others others' : Remaining → List ℕ → Reads Whole)
        → ((remaining : Remaining) (bs : List ℕ)
        → Agrees (others remaining bs) (others' remaining bs))
        → (next : Option Remaining) (bs : List ℕ)
        → Agrees (go_on ps others next bs) (go_on qs others' next bs)
    go_on_agrees others others' alike None bs = inl refl
    go_on_agrees others others' alike (Some remaining) bs =
        agrees_bind (ps.part bs) (q bs) _ _ (agrees bs) (λ first.
        agrees_bind (others remaining first.1) (others' remaining first.1) _ _
        (alike remaining first.1)
        (λ rest. inl refl))

    parts_agree : (fuel : ℕ) (remaining : Remaining) (bs : List ℕ)
        → Agrees (parts_by ps fuel remaining bs) (parts_by qs fuel remaining bs)
    unfolding parts_by
    parts_agree zero remaining bs = inl refl
    parts_agree (suc fuel) remaining bs =
        agrees_then (next_at ps.ends remaining bs) _ _ (λ next.
        go_on_agrees (parts_by ps fuel) (parts_by qs fuel) (parts_agree fuel) next.0 next.1)

key_agrees : {Item : Type 0} (allows : ℕ → Bool) (p q : List ℕ → Reads Item)
    → ((bs : List ℕ) → Agrees (p bs) (q bs))
    → (bs : List ℕ) → Agrees (key_at allows p bs) (key_at allows q bs)
unfolding key_at
key_agrees allows p q agrees [] = inl refl
key_agrees allows p q agrees (b ∷ bs) =
    agrees_cond (allows b) _ _ _ _ (agrees (b ∷ bs)) (inl refl)

pair_agrees : {Item : Type 0} (allows : ℕ → Bool) (p q : List ℕ → Reads Item)
    → ((bs : List ℕ) → Agrees (p bs) (q bs))
    → (bs : List ℕ) → Agrees (pair_at allows p bs) (pair_at allows q bs)
unfolding pair_at
pair_agrees allows p q agrees bs =
    agrees_bind (key_at allows p bs) (key_at allows q bs) _ _ (key_agrees allows p q agrees bs) (λ k.
    agrees_bind (p k.1) (q k.1) _ _ (agrees k.1) (λ v. inl refl))

-- ---- items

module _ {Item Items Pairs : Type 0} (m : Reading Item Items Pairs) where
  -- the same, where any number of bytes can be joined
  abbrev unlimited : Reading Item Items Pairs
  unlimited = record m { exceeds = none_exceeds }

  string_chunks_agree : (bs : List ℕ)
      → Agrees (string_chunks_at m bs) (string_chunks_at unlimited bs)
  unfolding string_chunks_at
  string_chunks_agree bs =
      agrees_bind (chunks_at m.exceeds 0 2 bs) (chunks_at none_exceeds 0 2 bs) _ _
      (chunks_agree m.exceeds 0 2 (suc (length bs)) bs)
      (λ cs. inl refl)

  text_chunks_agree : (bs : List ℕ) → Agrees (text_chunks_at m bs) (text_chunks_at unlimited bs)
  unfolding text_chunks_at checked_text
  text_chunks_agree bs =
      agrees_bind (chunks_at m.exceeds 0 3 bs) (chunks_at none_exceeds 0 3 bs) _ _
      (chunks_agree m.exceeds 0 3 (suc (length bs)) bs)
      (λ cs. inl refl)

  -- two readers of what lies one level further in
  abbrev AgreeInside : Option (List ℕ → Reads Item) → Option (List ℕ → Reads Item) → Type 0
  AgreeInside None None = Unit {0}
  AgreeInside (Some p) (Some q) = (bs : List ℕ) → Agrees (p bs) (q bs)
  AgreeInside _ _ = ⊥

  module _ (inner inner' : Option (List ℕ → Reads Item)) (agree : AgreeInside inner inner') where
    within_agrees : {A : Type 0} (bs : List ℕ) (read read' : (List ℕ → Reads Item) → Reads A)
        → ((p q : List ℕ → Reads Item) → ((bs : List ℕ) → Agrees (p bs) (q bs))
        → Agrees (read p) (read' q))
        → Agrees (within inner bs read) (within inner' bs read')
    within_agrees bs read read' each = by_level inner inner' agree
      where
        by_level : (inner inner' : Option (List ℕ → Reads Item)) → AgreeInside inner inner'
            → Agrees (within inner bs read) (within inner' bs read')
        by_level None None agree = inl refl
        by_level (Some p) (Some q) agree = each p q agree
        by_level None (Some q) agree = absurd agree
        by_level (Some p) None agree = absurd agree

    array_agrees : (l : Length) (remaining : Remaining) (bs : List ℕ)
        → Agrees (array_at m inner l remaining bs) (array_at unlimited inner' l remaining bs)
    unfolding array_at
    array_agrees l remaining bs =
        agrees_bind (within inner bs (λ p. parts_at (items_of m p) remaining bs))
        (within inner' bs (λ p. parts_at (items_of unlimited p) remaining bs)) _ _
        (within_agrees bs _ _ (λ p q alike.
        parts_agree (items_of m p) q alike (suc (length bs)) remaining bs))
        (λ items. inl refl)

    map_agrees : (l : Length) (remaining : Remaining) (bs : List ℕ)
        → Agrees (map_at m inner l remaining bs) (map_at unlimited inner' l remaining bs)
    unfolding map_at
    map_agrees l remaining bs =
        agrees_bind (within inner bs (λ p. parts_at (pairs_of m p) remaining bs))
        (within inner' bs (λ p. parts_at (pairs_of unlimited p) remaining bs)) _ _
        (within_agrees bs _ _ (λ p q alike.
        let pairs = pair_agrees m.allows p q alike in
        parts_agree (pairs_of m p) (pair_at m.allows q) pairs (suc (length bs)) remaining bs))
        (λ pairs. inl refl)

    tag_agrees : (w : HeadWidth) (n : ℕ) (bs : List ℕ)
        → Agrees (tag_at m inner w n bs) (tag_at unlimited inner' w n bs)
    unfolding tag_at
    tag_agrees w n bs =
        agrees_bind (within inner bs (λ p. p bs)) (within inner' bs (λ p. p bs)) _ _
        (within_agrees bs _ _ (λ p q alike. alike bs))
        (λ item. inl refl)

    content_agrees : (t : Major) (low : ℕ) (bs : List ℕ)
        → Agrees (content_at m inner t low bs) (content_at unlimited inner' t low bs)
    unfolding content_at string_at text_at checked_text simple_at float_at
    content_agrees unsigned = λ low bs. inl refl
    content_agrees negative = λ low bs. inl refl
    content_agrees bytes =
        length_agrees (string_at m) (string_at unlimited) _ _ (λ w n bs. inl refl) string_chunks_agree
    content_agrees text =
        length_agrees (text_at m) (text_at unlimited) _ _ (λ w n bs. inl refl) text_chunks_agree
    content_agrees array =
        length_agrees _ _ _ _ (λ w n. array_agrees (definite w) (counted n))
        (array_agrees indefinite to_break)
    content_agrees map =
        length_agrees _ _ _ _ (λ w n. map_agrees (definite w) (counted n))
        (map_agrees indefinite to_break)
    content_agrees tag = numbered_agrees _ _ tag_agrees
    content_agrees simple = λ low bs. inl refl

    item_by_agrees : (bs : List ℕ) → Agrees (item_by m inner bs) (item_by unlimited inner' bs)
    unfolding item_by after_first
    item_by_agrees bs =
        agrees_then (byte_at bs) _ _ (λ b. content_agrees (major_of (b.0 / 32)) (b.0 % 32) b.1)

  pub item_agrees : (levels : ℕ) (bs : List ℕ)
      → Agrees (item_at m levels bs) (item_at unlimited levels bs)
  unfolding item_at
  item_agrees zero = item_by_agrees None None tt
  item_agrees (suc levels) =
      let p = item_at m levels in
      item_by_agrees (Some p) (Some (item_at unlimited levels)) (item_agrees levels)
