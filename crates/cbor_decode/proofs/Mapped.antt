-- The value of what is read as it is spelled is what is read as a value.
use Rattle.std.proofs.Common.{◌≡◌, ℕ, zero, suc, Bool, true, false, cond, List, [], ◌∷◌, Option, Some, None, Ok, Err, refl, sym, ap, ◌∙◌, length}
use Rattle.cbor_model.specs.Head.{HeadWidth}
use Rattle.cbor_model.specs.Formats.{Formats}
use Rattle.cbor_model.specs.Raw as raw
use Rattle.cbor_model.specs.Raw.{Raw, joined}
use Rattle.cbor_model.specs.Plain as plain
use Rattle.cbor_model.specs.Plain.{Val, Pairs}
use Rattle.cbor_model.specs.Value as model
use Rattle.cbor_model.specs.Value.{value}
use Rattle.cbor_model.specs.Reader.{Reads, Reading, ◌>>=◌, byte_at, after_first, item_by, Parts, Remaining, go_on, next_at, parts_by, parts_at, key_at, pair_at, items_of, pairs_of, bytes_at, chunks_at, string_at, checked_text, text_at, string_chunks_at, text_chunks_at, array_at, map_at, tag_at, item_at, inside}
use Rattle.cbor_value.specs.declared.Float.TheVariants.{Half, Single, Double}
use Rattle.cbor_decode.specs.Gives.{Limits, values}
use Rattle.cbor_decode.specs.Heads.{opening_at, head_at, behind_head}
use Rattle.cbor_decode.specs.declared.head.Head.{Head}
use Rattle.cbor_decode.specs.declared.head.Head.TheVariants as head
use Rattle.cbor_decode.specs.HasChunks.{raws}
use Rattle.cbor_decode.proofs.Heads.{first_behind}

-- what is read, seen by h
abbrev pub along : {A B : Type 0} → (A → B) → Reads A → Reads B
along h read = read >>= (λ x. Ok (h x.0, x.1))

along_cond : {A B : Type 0} (h : A → B) (c : Bool) (x y : Reads B) (x' y' : Reads A) → x ≡ along h x' → y ≡ along h y' → cond c x y ≡ along h (cond c x' y')
along_cond h true x y x' y' a b = a
along_cond h false x y x' y' a b = b

along_bind : {A B X : Type 0} (h : A → B) (r : Reads X) (f : X × List ℕ → Reads B) (g : X × List ℕ → Reads A) → ((x : X × List ℕ) → f x ≡ along h (g x)) → (r >>= f) ≡ along h (r >>= g)
along_bind h (Ok x) f g same = same x
along_bind h (Err e) f g same = refl

-- ---- heads

module _ {Item Items Pairs : Type 0} (m : Reading Item Items Pairs) where
  abbrev behind : Option (List ℕ → Reads Item) → (HeadWidth × Head) × List ℕ → Reads Item
  behind inner h = behind_head m inner h.0.0 h.0.1 h.1

  first_opened : (inner : Option (List ℕ → Reads Item)) (r : Reads ℕ) → (r >>= (λ b. after_first m inner b.0 b.1)) ≡ ((r >>= (λ b. head_at b.0 b.1)) >>= behind inner)
  first_opened inner (Ok b) = first_behind m inner b.0 b.1
  first_opened inner (Err f) = refl

  -- an item is read after its head
  pub item_opened : (levels : ℕ) (bs : List ℕ) → item_at m levels bs ≡ (opening_at bs >>= behind (inside m levels))
  unfolding item_at item_by
  item_opened zero bs = first_opened None (byte_at bs)
  item_opened (suc levels) bs = first_opened (Some (item_at m levels)) (byte_at bs)

-- ---- parts

-- parts and what is made of them, seen by p and w
record Seen {A B C D : Type 0} (p : A → B) (w : C → D) (ps : Parts A C) (qs : Parts B D) : Type 0 where
  ends : qs.ends ≡ ps.ends
  part : (bs : List ℕ) → qs.part bs ≡ along p (ps.part bs)
  none : qs.none ≡ w ps.none
  add : (a : A) (c : C) → qs.add (p a) (w c) ≡ w (ps.add a c)

module _ {A B C D : Type 0} (p : A → B) (w : C → D) (ps : Parts A C) (qs : Parts B D) (seen : Seen p w ps qs) where
  added : (a : A × List ℕ) (r : Reads C) (s : Reads D) → s ≡ along w r → (s >>= (λ rest. Ok (qs.add (p a.0) rest.0, rest.1))) ≡ along w (r >>= (λ rest. Ok (ps.add a.0 rest.0, rest.1)))
  added a (Ok c) s is = rw is (ap (λ (d : D). Ok (d, c.1)) (seen.add a.0 c.0))
  added a (Err e) s is = rw is refl

  part_then : (r : Reads A) (others : List ℕ → Reads C) (others' : List ℕ → Reads D) → ((bs : List ℕ) → others' bs ≡ along w (others bs))
      → (along p r >>= (λ first. others' first.1 >>= (λ rest. Ok (qs.add first.0 rest.0, rest.1)))) ≡ along w (r >>= (λ first. others first.1 >>= (λ rest. Ok (ps.add first.0 rest.0, rest.1))))
  part_then (Ok a) others others' same = added a (others a.1) (others' a.1) (same a.1)
  part_then (Err e) others others' same = refl

  gone_on : (others : Remaining → List ℕ → Reads C) (others' : Remaining → List ℕ → Reads D) → ((remaining : Remaining) (bs : List ℕ) → others' remaining bs ≡ along w (others remaining bs)) → (next : Option Remaining) (bs : List ℕ) → go_on qs others' next bs ≡ along w (go_on ps others next bs)
  gone_on others others' same None bs = ap (λ (d : D). Ok (d, bs)) seen.none
  gone_on others others' same (Some remaining) bs = rw (seen.part bs) (part_then (ps.part bs) (others remaining) (others' remaining) (same remaining))

  parts_seen : (fuel : ℕ) (remaining : Remaining) (bs : List ℕ) → parts_by qs fuel remaining bs ≡ along w (parts_by ps fuel remaining bs)
  unfolding parts_by
  parts_seen zero remaining bs = refl
  parts_seen (suc fuel) remaining bs =
      rw seen.ends (along_bind w (next_at ps.ends remaining bs) _ _ (λ next. gone_on (parts_by ps fuel) (parts_by qs fuel) (parts_seen fuel) next.0 next.1))

-- ---- items

abbrev pair_value : Raw × Raw → Val × Val
pair_value kv = (value kv.0, value kv.1)

-- what is made of a part that is seen
seen_made : {A B C D : Type 0} (h : A → B) (k : C → D) (f : A → C) (g : B → D) (r : Reads A) → ((a : A) → g (h a) ≡ k (f a)) → (along h r >>= (λ x. Ok (g x.0, x.1))) ≡ along k (r >>= (λ x. Ok (f x.0, x.1)))
seen_made h k f g (Ok x) same = ap (λ d. Ok (d, x.1)) (same x.0)
seen_made h k f g (Err e) same = refl

module _ (f : Formats) (l : Limits) where
  abbrev Same : (List ℕ → Reads Raw) → (List ℕ → Reads Val) → Type 0
  Same p q = (bs : List ℕ) → q bs ≡ along value (p bs)

  abbrev SameInside : Option (List ℕ → Reads Raw) → Option (List ℕ → Reads Val) → Type 0
  SameInside None None = Unit {0}
  SameInside None (Some q) = ⊥
  SameInside (Some p) None = ⊥
  SameInside (Some p) (Some q) = Same p q

  items_seen : (p : List ℕ → Reads Raw) (q : List ℕ → Reads Val) → Same p q → Seen value model.values (items_of (raws f l) p) (items_of (values f l) q)
  unfolding value
  items_seen p q same = record { ends = refl; part = same; none = refl; add = λ r rs. refl }

  value_second : (k : Raw × List ℕ) (r : Reads Raw) → (along value r >>= (λ v. Ok ((value k.0, v.0), v.1))) ≡ along pair_value (r >>= (λ v. Ok ((k.0, v.0), v.1)))
  value_second k (Ok v) = refl
  value_second k (Err e) = refl

  key_first : (p : List ℕ → Reads Raw) (q : List ℕ → Reads Val) → Same p q → (r : Reads Raw) → (along value r >>= (λ k. q k.1 >>= (λ v. Ok ((k.0, v.0), v.1)))) ≡ along pair_value (r >>= (λ k. p k.1 >>= (λ v. Ok ((k.0, v.0), v.1))))
  key_first p q same (Ok k) = rw (same k.1) (value_second k (p k.1))
  key_first p q same (Err e) = refl

  key_seen : (allows : ℕ → Bool) (p : List ℕ → Reads Raw) (q : List ℕ → Reads Val) → Same p q → (bs : List ℕ) → key_at allows q bs ≡ along value (key_at allows p bs)
  unfolding key_at
  key_seen allows p q same [] = refl
  key_seen allows p q same (b ∷ bs) = along_cond value (allows b) _ _ _ _ (same (b ∷ bs)) refl

  pair_seen : (allows : ℕ → Bool) (p : List ℕ → Reads Raw) (q : List ℕ → Reads Val) → Same p q → (bs : List ℕ) → pair_at allows q bs ≡ along pair_value (pair_at allows p bs)
  unfolding pair_at
  pair_seen allows p q same bs = rw (key_seen allows p q same bs) (key_first p q same (key_at allows p bs))

  pairs_seen : (p : List ℕ → Reads Raw) (q : List ℕ → Reads Val) → Same p q → Seen pair_value model.pairs (pairs_of (raws f l) p) (pairs_of (values f l) q)
  unfolding value
  pairs_seen p q same = record { ends = refl; part = pair_seen (values f l).allows p q same; none = refl; add = λ kv others. refl }

  array_seen : (inner : Option (List ℕ → Reads Raw)) (inner' : Option (List ℕ → Reads Val)) → SameInside inner inner' → (n : raw.Length) (r : Remaining) (bs : List ℕ) → array_at (values f l) inner' n r bs ≡ along value (array_at (raws f l) inner n r bs)
  unfolding array_at value
  array_seen None None same n r bs = refl
  array_seen None (Some q) same n r bs = absurd same
  array_seen (Some p) None same n r bs = absurd same
  array_seen (Some p) (Some q) same n r bs =
      rw (parts_seen value model.values (items_of (raws f l) p) (items_of (values f l) q) (items_seen p q same) (suc (length bs)) r bs)
      (seen_made model.values value (raw.array n) plain.array (parts_at (items_of (raws f l) p) r bs) (λ rs. refl))

  map_seen : (inner : Option (List ℕ → Reads Raw)) (inner' : Option (List ℕ → Reads Val)) → SameInside inner inner' → (n : raw.Length) (r : Remaining) (bs : List ℕ) → map_at (values f l) inner' n r bs ≡ along value (map_at (raws f l) inner n r bs)
  unfolding map_at value
  map_seen None None same n r bs = refl
  map_seen None (Some q) same n r bs = absurd same
  map_seen (Some p) None same n r bs = absurd same
  map_seen (Some p) (Some q) same n r bs =
      rw (parts_seen pair_value model.pairs (pairs_of (raws f l) p) (pairs_of (values f l) q) (pairs_seen p q same) (suc (length bs)) r bs)
      (seen_made model.pairs value (raw.map n) (λ (ps : Pairs → Pairs). plain.map (ps plain.no_pairs)) (parts_at (pairs_of (raws f l) p) r bs) (λ ps. refl))

  tag_seen : (inner : Option (List ℕ → Reads Raw)) (inner' : Option (List ℕ → Reads Val)) → SameInside inner inner' → (w : HeadWidth) (n : ℕ) (bs : List ℕ) → tag_at (values f l) inner' w n bs ≡ along value (tag_at (raws f l) inner w n bs)
  unfolding tag_at value
  tag_seen None None same w n bs = refl
  tag_seen None (Some q) same w n bs = absurd same
  tag_seen (Some p) None same w n bs = absurd same
  tag_seen (Some p) (Some q) same w n bs = rw (same bs) (seen_made value value (raw.tag w n) (plain.tag n) (p bs) (λ r. refl))

  -- ---- strings

  string_seen : (w : HeadWidth) (n : ℕ) (bs : List ℕ) → string_at (values f l) w n bs ≡ along value (string_at (raws f l) w n bs)
  unfolding string_at value
  string_seen w n bs = along_bind value (bytes_at n bs) _ _ (λ b. refl)

  checked_seen : (t : Raw) (b bs : List ℕ) → checked_text (values f l) (value t) b bs ≡ along value (checked_text (raws f l) t b bs)
  unfolding checked_text
  checked_seen t b bs = along_cond value ((raws f l).is_text b) _ _ _ _ refl refl

  text_seen : (w : HeadWidth) (n : ℕ) (bs : List ℕ) → text_at (values f l) w n bs ≡ along value (text_at (raws f l) w n bs)
  unfolding text_at value
  text_seen w n bs = along_cond value ((raws f l).has_room (length bs) n) _ _ _ _ (along_bind value (bytes_at n bs) _ _ (λ b. checked_seen (raw.text (record { width = w; bytes = b.0 })) b.0 b.1)) refl

  string_chunks_seen : (bs : List ℕ) → string_chunks_at (values f l) bs ≡ along value (string_chunks_at (raws f l) bs)
  unfolding string_chunks_at value
  string_chunks_seen bs = along_bind value (chunks_at (raws f l).exceeds 0 2 bs) _ _ (λ cs. refl)

  text_chunks_seen : (bs : List ℕ) → text_chunks_at (values f l) bs ≡ along value (text_chunks_at (raws f l) bs)
  unfolding text_chunks_at value
  text_chunks_seen bs = along_bind value (chunks_at (raws f l).exceeds 0 3 bs) _ _ (λ cs. checked_seen (raw.text_chunks cs.0) (joined cs.0) cs.1)

  -- ---- all levels

  behind_seen : (inner : Option (List ℕ → Reads Raw)) (inner' : Option (List ℕ → Reads Val)) → SameInside inner inner' → (w : HeadWidth) (h : Head) (bs : List ℕ) → behind_head (values f l) inner' w h bs ≡ along value (behind_head (raws f l) inner w h bs)
  unfolding value
  behind_seen inner inner' same w (head.Unsigned n) bs = refl
  behind_seen inner inner' same w (head.Negative n) bs = refl
  behind_seen inner inner' same w (head.Bytes (Some n)) bs = string_seen w n bs
  behind_seen inner inner' same w (head.Bytes None) bs = string_chunks_seen bs
  behind_seen inner inner' same w (head.Text (Some n)) bs = text_seen w n bs
  behind_seen inner inner' same w (head.Text None) bs = text_chunks_seen bs
  behind_seen inner inner' same w (head.Array r) bs = array_seen inner inner' same _ _ bs
  behind_seen inner inner' same w (head.Map r) bs = map_seen inner inner' same _ _ bs
  behind_seen inner inner' same w (head.Tag n) bs = tag_seen inner inner' same w n bs
  behind_seen inner inner' same w (head.Bool false) bs = refl
  behind_seen inner inner' same w (head.Bool true) bs = refl
  behind_seen inner inner' same w head.Null bs = refl
  behind_seen inner inner' same w head.Undefined bs = refl
  behind_seen inner inner' same w (head.Float (Half n)) bs = refl
  behind_seen inner inner' same w (head.Float (Single n)) bs = refl
  behind_seen inner inner' same w (head.Float (Double n)) bs = refl
  behind_seen inner inner' same w head.Break bs = refl

  opened_seen : (levels : ℕ) → SameInside (inside (raws f l) levels) (inside (values f l) levels) → Same (item_at (raws f l) levels) (item_at (values f l) levels)
  opened_seen levels same bs =
      item_opened (values f l) levels bs
      ∙ along_bind value (opening_at bs) _ _ (λ h. behind_seen (inside (raws f l) levels) (inside (values f l) levels) same h.0.0 h.0.1 h.1)
      ∙ ap (along value) (sym (item_opened (raws f l) levels bs))

  pub value_seen : (levels : ℕ) → Same (item_at (raws f l) levels) (item_at (values f l) levels)
  value_seen zero = opened_seen zero tt
  value_seen (suc levels) = opened_seen (suc levels) (value_seen levels)
