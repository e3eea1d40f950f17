-- An item takes a byte at the least, and no step of reading leaves more bytes than it began with.
use Rattle.std.proofs.Common.{◌≡◌, ℕ, zero, suc, ◌+◌, ◌%◌, ◌<◌, ◌≤◌, Bool, true, false, cond, eqb, ltb, List, [], ◌∷◌, length, Option, Some, None, Ok, Err, subst, arith}
use Rattle.std.specs.Int.{Width, w8, w16, w32, w64, byte_len}
use Rattle.std.proofs.lemmas.List.{length-drop}
use Rattle.cbor_model.specs.Head.{HeadWidth}
use Rattle.cbor_model.specs.Major.{Major, unsigned, negative, bytes, text, array, map, tag, simple}
use Rattle.cbor_model.specs.Raw.{Length, definite, indefinite, Chunk}
use Rattle.cbor_model.specs.Refusal.{Refusal}
use Rattle.cbor_model.specs.Reader.{Reads, ◌>>=◌, Reading, byte_at, bytes_at, number_at, number_behind, with_number, with_length, float_at, simple_at, string_at, checked_text, text_at, begins_chunk, content_of_chunk, chunk_at, chunks_by, chunks_at, string_chunks_at, text_chunks_at, Remaining, counted, to_break, next_at, Parts, go_on, parts_by, parts_at, key_at, pair_at, items_of, pairs_of, within, array_at, map_at, tag_at, content_at, after_first, item_by, item_at}

-- where something is read, no more than n bytes are left
abbrev pub Leaves : {A : Type 0} → ℕ → Reads A → Type 0
Leaves n (Ok x) = length x.1 ≤ n
Leaves n (Err d) = Unit {0}

Leaves-use : {A : Type 0} (n : ℕ) (r : Reads A) (x : A × List ℕ) → Leaves n r → r ≡ Ok x → length x.1 ≤ n
Leaves-use {A = A} n r x few is = subst (λ (r : Reads A). Leaves n r) is few

Leaves-bind : {A B : Type 0} (n k : ℕ) (r : Reads A) (f : A × List ℕ → Reads B) → Leaves k r → ((x : A × List ℕ) → length x.1 ≤ k → Leaves n (f x)) → Leaves n (r >>= f)
Leaves-bind n k (Ok x) f few each = each x few
Leaves-bind n k (Err d) f few each = tt

Leaves-cond : {A : Type 0} (n : ℕ) (b : Bool) (x y : Reads A) → Leaves n x → Leaves n y → Leaves n (cond b x y)
Leaves-cond n true x y one other = one
Leaves-cond n false x y one other = other

-- ---- numbers and strings

number_leaves : (w : Width) (n : ℕ) (bs : List ℕ) → length bs ≤ n → Leaves n (number_at w bs)
number_leaves w n bs few = Leaves-cond n (ltb (length bs) (byte_len w)) _ _ tt (omega (arith, length-drop (byte_len w) bs))

bytes_leaves : (k n : ℕ) (bs : List ℕ) → length bs ≤ n → Leaves n (bytes_at k bs)
bytes_leaves k n bs few = Leaves-cond n (ltb (length bs) k) _ _ tt (omega (arith, length-drop k bs))

number_behind_leaves : (low n : ℕ) (bs : List ℕ) → length bs ≤ n → Leaves n (number_behind low bs)
unfolding number_behind
number_behind_leaves low n bs few =
    Leaves-cond n (ltb low 24) _ _ few
    (Leaves-cond n (eqb low 24) _ _ (number_leaves w8 n bs few)
    (Leaves-cond n (eqb low 25) _ _ (number_leaves w16 n bs few)
    (Leaves-cond n (eqb low 26) _ _ (number_leaves w32 n bs few)
    (Leaves-cond n (eqb low 27) _ _ (number_leaves w64 n bs few) tt))))

-- a number, or a length, and what is read after it
abbrev EachLeaves : {A : Type 0} → (HeadWidth → ℕ → List ℕ → Reads A) → Type 0
EachLeaves read = (w : HeadWidth) (k n : ℕ) (bs : List ℕ) → length bs ≤ n → Leaves n (read w k bs)

numbered_leaves : {A : Type 0} (read : HeadWidth → ℕ → List ℕ → Reads A) → EachLeaves read → (low n : ℕ) (bs : List ℕ) → length bs ≤ n → Leaves n (with_number read low bs)
numbered_leaves read each low n bs few = Leaves-bind n n (number_behind low bs) _ (number_behind_leaves low n bs few) (λ k few. each _ k.0 n k.1 few)

length_leaves : {A : Type 0} (read : HeadWidth → ℕ → List ℕ → Reads A) (others : List ℕ → Reads A) → EachLeaves read → ((n : ℕ) (bs : List ℕ) → length bs ≤ n → Leaves n (others bs)) → (low n : ℕ) (bs : List ℕ) → length bs ≤ n → Leaves n (with_length read others low bs)
length_leaves read others each none low n bs few = Leaves-cond n (eqb low 31) _ _ (none n bs few) (numbered_leaves read each low n bs few)

chunk_content_leaves : (exceeds : ℕ → Bool) (w : HeadWidth) (k n : ℕ) (bs : List ℕ) → length bs ≤ n → Leaves n (content_of_chunk exceeds w k bs)
unfolding content_of_chunk
chunk_content_leaves exceeds w k n bs few = Leaves-bind n n (bytes_at k bs) _ (bytes_leaves k n bs few) (λ c few. Leaves-cond n (exceeds k) _ _ tt few)

chunk_leaves : (exceeds : ℕ → Bool) (major b n : ℕ) (bs : List ℕ) → length bs ≤ n → Leaves n (chunk_at exceeds major b bs)
unfolding chunk_at
chunk_leaves exceeds major b n bs few =
    Leaves-cond n (begins_chunk major b) _ _
    (numbered_leaves (content_of_chunk exceeds) (chunk_content_leaves exceeds) (b % 32) n bs few)
    tt

pub chunk_taken : (exceeds : ℕ → Bool) (major b : ℕ) (bs : List ℕ) (x : Chunk × List ℕ) → chunk_at exceeds major b bs ≡ Ok x → length x.1 ≤ length bs
chunk_taken exceeds major b bs x is = Leaves-use (length bs) (chunk_at exceeds major b bs) x (chunk_leaves exceeds major b (length bs) bs (omega arith)) is

chunks_leaves : (exceeds : ℕ → Bool) (have major fuel n : ℕ) (bs : List ℕ) → length bs ≤ n → Leaves n (chunks_by exceeds have major fuel bs)
unfolding chunks_by byte_at
chunks_leaves exceeds have major zero n bs few = tt
chunks_leaves exceeds have major (suc fuel) n [] few = tt
chunks_leaves exceeds have major (suc fuel) n (b ∷ bs) few =
    let fewer : length bs ≤ n = omega arith in
    Leaves-cond n (eqb b 0xff) _ _ fewer
    (Leaves-bind n n (chunk_at (λ k. exceeds (have + k)) major b bs) _ (chunk_leaves (λ k. exceeds (have + k)) major b n bs fewer) (λ c few.
    Leaves-bind n n (chunks_by exceeds (have + length c.0.bytes) major fuel c.1) _ (chunks_leaves exceeds (have + length c.0.bytes) major fuel n c.1 few) (λ cs few. few)))

next_leaves : (why : Refusal) (remaining : Remaining) (n : ℕ) (bs : List ℕ) → length bs ≤ n → Leaves n (next_at why remaining bs)
unfolding next_at
next_leaves why (counted zero) n bs few = few
next_leaves why (counted (suc k)) n bs few = few
next_leaves why to_break n [] few = tt
next_leaves why to_break n (b ∷ bs) few = Leaves-cond n (eqb b 0xff) _ _ (omega arith) few

pub next_taken : (why : Refusal) (remaining : Remaining) (bs : List ℕ) (x : Option Remaining × List ℕ) → next_at why remaining bs ≡ Ok x → length x.1 ≤ length bs
next_taken why remaining bs x is = Leaves-use (length bs) (next_at why remaining bs) x (next_leaves why remaining (length bs) bs (omega arith)) is

module _ {Part Whole : Type 0} (ps : Parts Part Whole) (leaves : (n : ℕ) (bs : List ℕ) → length bs ≤ n → Leaves n (ps.part bs)) where
  go_on_leaves : (others : Remaining → List ℕ → Reads Whole) → ((remaining : Remaining) (n : ℕ) (bs : List ℕ) → length bs ≤ n → Leaves n (others remaining bs)) → (next : Option Remaining) (n : ℕ) (bs : List ℕ) → length bs ≤ n → Leaves n (go_on ps others next bs)
  go_on_leaves others each None n bs few = few
  go_on_leaves others each (Some remaining) n bs few =
      Leaves-bind n n (ps.part bs) _ (leaves n bs few) (λ first few.
      Leaves-bind n n (others remaining first.1) _ (each remaining n first.1 few) (λ rest few. few))

  pub parts_leave : (fuel : ℕ) (remaining : Remaining) (n : ℕ) (bs : List ℕ) → length bs ≤ n → Leaves n (parts_by ps fuel remaining bs)
  unfolding parts_by
  parts_leave zero remaining n bs few = tt
  parts_leave (suc fuel) remaining n bs few =
      Leaves-bind n n (next_at ps.ends remaining bs) _ (next_leaves ps.ends remaining n bs few) (λ next few.
      go_on_leaves (parts_by ps fuel) (λ remaining n bs few. parts_leave fuel remaining n bs few) next.0 n next.1 few)

module _ {Item Items Pairs : Type 0} (m : Reading Item Items Pairs) where
  -- the reader leaves no more bytes than it began with
  abbrev LeavesNoMore : (List ℕ → Reads Item) → Type 0
  LeavesNoMore p = (n : ℕ) (bs : List ℕ) → length bs ≤ n → Leaves n (p bs)

  -- and likewise what lies one level further in
  abbrev LeavesNoMoreInside : Option (List ℕ → Reads Item) → Type 0
  LeavesNoMoreInside None = Unit {0}
  LeavesNoMoreInside (Some p) = LeavesNoMore p

  float_leaves : (low n : ℕ) (bs : List ℕ) → length bs ≤ n → Leaves n (float_at m low bs)
  unfolding float_at
  float_leaves low n bs few =
      Leaves-cond n (eqb low 25) _ _ (Leaves-bind n n (number_at w16 bs) _ (number_leaves w16 n bs few) (λ x few. few))
      (Leaves-cond n (eqb low 26) _ _ (Leaves-bind n n (number_at w32 bs) _ (number_leaves w32 n bs few) (λ x few. few))
      (Leaves-cond n (eqb low 27) _ _ (Leaves-bind n n (number_at w64 bs) _ (number_leaves w64 n bs few) (λ x few. few)) tt))

  simple_leaves : (low n : ℕ) (bs : List ℕ) → length bs ≤ n → Leaves n (simple_at m low bs)
  unfolding simple_at
  simple_leaves low n bs few =
      Leaves-cond n (eqb low 20) _ _ few
      (Leaves-cond n (eqb low 21) _ _ few
      (Leaves-cond n (eqb low 22) _ _ few
      (Leaves-cond n (eqb low 23) _ _ few (float_leaves low n bs few))))

  checked_leaves : (item : Item) (n : ℕ) (b bs : List ℕ) → length bs ≤ n → Leaves n (checked_text m item b bs)
  unfolding checked_text
  checked_leaves item n b bs few = Leaves-cond n (m.is_text b) _ _ few tt

  string_leaves : (w : HeadWidth) (k n : ℕ) (bs : List ℕ) → length bs ≤ n → Leaves n (string_at m w k bs)
  unfolding string_at
  string_leaves w k n bs few = Leaves-bind n n (bytes_at k bs) _ (bytes_leaves k n bs few) (λ b few. few)

  text_leaves : (w : HeadWidth) (k n : ℕ) (bs : List ℕ) → length bs ≤ n → Leaves n (text_at m w k bs)
  unfolding text_at
  text_leaves w k n bs few =
      Leaves-cond n (m.has_room (length bs) k) _ _
      (Leaves-bind n n (bytes_at k bs) _ (bytes_leaves k n bs few) (λ b few. checked_leaves _ n b.0 b.1 few))
      tt

  string_chunks_leaves : (n : ℕ) (bs : List ℕ) → length bs ≤ n → Leaves n (string_chunks_at m bs)
  unfolding string_chunks_at
  string_chunks_leaves n bs few = Leaves-bind n n (chunks_at m.exceeds 0 2 bs) _ (chunks_leaves m.exceeds 0 2 _ n bs few) (λ cs few. few)

  text_chunks_leaves : (n : ℕ) (bs : List ℕ) → length bs ≤ n → Leaves n (text_chunks_at m bs)
  unfolding text_chunks_at
  text_chunks_leaves n bs few = Leaves-bind n n (chunks_at m.exceeds 0 3 bs) _ (chunks_leaves m.exceeds 0 3 _ n bs few) (λ cs few. checked_leaves _ n _ cs.1 few)

  -- ---- what lies one level further in

  key_leaves : (allows : ℕ → Bool) (p : List ℕ → Reads Item) → LeavesNoMore p → (n : ℕ) (bs : List ℕ) → length bs ≤ n → Leaves n (key_at allows p bs)
  unfolding key_at
  key_leaves allows p leaves n [] few = tt
  key_leaves allows p leaves n (b ∷ bs) few = Leaves-cond n (allows b) _ _ (leaves n (b ∷ bs) few) tt

  pair_leaves : (allows : ℕ → Bool) (p : List ℕ → Reads Item) → LeavesNoMore p → (n : ℕ) (bs : List ℕ) → length bs ≤ n → Leaves n (pair_at allows p bs)
  unfolding pair_at
  pair_leaves allows p leaves n bs few =
      Leaves-bind n n (key_at allows p bs) _ (key_leaves allows p leaves n bs few) (λ key few.
      Leaves-bind n n (p key.1) _ (leaves n key.1 few) (λ v few. few))

  -- one of the above, by a reader of what lies one level further in
  within_leaves : {A : Type 0} (inner : Option (List ℕ → Reads Item)) → LeavesNoMoreInside inner → (n : ℕ) (bs : List ℕ) (read : (List ℕ → Reads Item) → Reads A) → ((p : List ℕ → Reads Item) → LeavesNoMore p → Leaves n (read p)) → Leaves n (within inner bs read)
  within_leaves None leaves n bs read each = tt
  within_leaves (Some p) leaves n bs read each = each p leaves

  array_leaves : (inner : Option (List ℕ → Reads Item)) → LeavesNoMoreInside inner → (l : Length) (remaining : Remaining) (n : ℕ) (bs : List ℕ) → length bs ≤ n → Leaves n (array_at m inner l remaining bs)
  unfolding array_at
  array_leaves inner leaves l remaining n bs few =
      Leaves-bind n n (within inner bs (λ p. parts_at (items_of m p) remaining bs)) _ (within_leaves inner leaves n bs _ (λ p leaves. parts_leave (items_of m p) leaves _ remaining n bs few)) (λ items few. few)

  map_leaves : (inner : Option (List ℕ → Reads Item)) → LeavesNoMoreInside inner → (l : Length) (remaining : Remaining) (n : ℕ) (bs : List ℕ) → length bs ≤ n → Leaves n (map_at m inner l remaining bs)
  unfolding map_at
  map_leaves inner leaves l remaining n bs few =
      Leaves-bind n n (within inner bs (λ p. parts_at (pairs_of m p) remaining bs)) _ (within_leaves inner leaves n bs _ (λ p leaves. parts_leave (pairs_of m p) (pair_leaves m.allows p leaves) _ remaining n bs few)) (λ pairs few. few)

  tag_leaves : (inner : Option (List ℕ → Reads Item)) → LeavesNoMoreInside inner → (w : HeadWidth) (k n : ℕ) (bs : List ℕ) → length bs ≤ n → Leaves n (tag_at m inner w k bs)
  unfolding tag_at
  tag_leaves inner leaves w k n bs few =
      Leaves-bind n n (within inner bs (λ p. p bs)) _ (within_leaves inner leaves n bs _ (λ p leaves. leaves n bs few)) (λ item few. few)

  -- ---- items

  content_leaves : (inner : Option (List ℕ → Reads Item)) → LeavesNoMoreInside inner → (t : Major) (low n : ℕ) (bs : List ℕ) → length bs ≤ n → Leaves n (content_at m inner t low bs)
  unfolding content_at
  content_leaves inner leaves unsigned = numbered_leaves (λ w k rest. Ok (m.unsigned w k, rest)) (λ w k n bs few. few)
  content_leaves inner leaves negative = numbered_leaves (λ w k rest. Ok (m.negative w k, rest)) (λ w k n bs few. few)
  content_leaves inner leaves bytes = length_leaves _ _ string_leaves string_chunks_leaves
  content_leaves inner leaves text = length_leaves _ _ text_leaves text_chunks_leaves
  content_leaves inner leaves array = length_leaves _ _ (λ w k. array_leaves inner leaves (definite w) (counted k)) (array_leaves inner leaves indefinite to_break)
  content_leaves inner leaves map = length_leaves _ _ (λ w k. map_leaves inner leaves (definite w) (counted k)) (map_leaves inner leaves indefinite to_break)
  content_leaves inner leaves tag = numbered_leaves _ (tag_leaves inner leaves)
  content_leaves inner leaves simple = simple_leaves

  -- one byte is the first
  item_leaves : (inner : Option (List ℕ → Reads Item)) → LeavesNoMoreInside inner → (n : ℕ) (bs : List ℕ) → length bs ≤ suc n → Leaves n (item_by m inner bs)
  unfolding item_by byte_at after_first
  item_leaves inner leaves n [] few = tt
  item_leaves inner leaves n (b ∷ bs) few = content_leaves inner leaves _ (b % 32) n bs (omega arith)

  -- an item leaves no more than what follows a first byte
  item_at-leaves : (levels n : ℕ) (bs : List ℕ) → length bs ≤ suc n → Leaves n (item_at m levels bs)
  unfolding item_at
  item_at-leaves zero n bs few = item_leaves None tt n bs few
  item_at-leaves (suc levels) n bs few = item_leaves (Some (item_at m levels)) (λ n bs few. item_at-leaves levels n bs (omega arith)) n bs few

  -- an item takes a byte at the least
  pub taken : (levels : ℕ) (bs : List ℕ) (x : Item × List ℕ) → item_at m levels bs ≡ Ok x → length x.1 < length bs
  unfolding item_at item_by byte_at
  taken zero [] x is = absurd cc
  taken (suc levels) [] x is = absurd cc
  taken levels (b ∷ bs) x is =
      let few : length x.1 ≤ length bs = Leaves-use (length bs) (item_at m levels (b ∷ bs)) x (item_at-leaves levels (length bs) (b ∷ bs) (omega arith)) is in
      omega arith
