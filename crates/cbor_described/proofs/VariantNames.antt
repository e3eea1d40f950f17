-- The identifier of an enum, where the bytes say that memory was asked for it.
use Rattle.std.proofs.Common.{◌≡◌, ◌∙◌, ◌+◌, ◌/◌, ◌%◌, ◌≤◌, ℕ, zero, suc, Bool, true, false, cond, eqb, ltb, List, [], ◌∷◌, length, Option, Some, None, Ok, Err, refl, sym, ap, subst, arith}
use Rattle.std.proofs.lemmas.Bool.{eqb-true, ltb-true, ltb-false}
use Rattle.cbor_model.specs.Formats.{Formats, may_begin_key}
use Rattle.cbor_model.specs.Head.{HeadWidth, no_bytes, one_byte, two_bytes, four_bytes, eight_bytes}
use Rattle.cbor_model.specs.Major.{Major, major_of}
use Rattle.cbor_model.specs.Major as major
use Rattle.cbor_model.specs.Raw as raw
use Rattle.cbor_model.specs.Raw.{Raw, Raws, RawPairs, no_raws, no_raw_pairs, raw_pair, definite, indefinite}
use Rattle.cbor_model.specs.Readable.{untagged}
use Rattle.cbor_model.specs.Refusal.{end_in_array, end_in_map, too_deep}
use Rattle.cbor_model.specs.Reader.{Reads, Reading, ◌>>=◌, after_first, array_at, byte_at, content_at, inside, item_at, item_by, items_of, key_at, map_at, next_at, number_behind, pair_at, parts_at, parts_by, width_of}
use Rattle.cbor_model.specs.Reader as reader
use Rattle.cbor_model.proofs.facts.Reader.{bind_ok, key_read, ok_is}
use Rattle.cbor_decode.specs.Gives.{Limits}
use Rattle.cbor_decode.specs.Heads.{behind_head, head_at, head_of, remaining_of}
use Rattle.cbor_decode.specs.declared.cursor.Remaining.{Remaining}
use Rattle.cbor_decode.specs.declared.cursor.Remaining.TheVariants.{Counted, ToBreak}
use Rattle.cbor_decode.specs.declared.head.Head.{Head}
use Rattle.cbor_decode.specs.declared.head.Head.TheVariants as head
use Rattle.cbor_decode.proofs.facts.Heads.{item_opened}
use Rattle.cbor_decode_as.specs.Accesses.{items_at}
use Rattle.cbor_decode_as.specs.BeginsEnum.{AsksForIdentifier, AtIdentifier, NamedIn}
use Rattle.cbor_decode_as.specs.Cases.{BehindTags}
use Rattle.cbor_decode_as.specs.Enums.{Content, IsName, IsVariant}
use Rattle.cbor_decode_as.specs.Kinds.{Kind, head_kind, kind_of}
use Rattle.cbor_decode_as.specs.Kinds as kind
use Rattle.cbor_decode_as.specs.Tags.{begins_tag, passed_at, passed_by, passed_from, tag_behind}
use Rattle.cbor_decode_as.specs.Takes.{raws}
use Rattle.cbor_decode_as.specs.TaggedHeads.{opened_at}
use Rattle.cbor_decode_as.specs.Variants.{pair_head_at, shape_of}
use Rattle.cbor_decode_as.proofs.facts.Items.{kinds}
use Rattle.cbor_decode_as.proofs.facts.TaggedHeads.{opened_here}
use Rattle.cbor_described.specs.EnumMemory.{IsNamedBy}
use Rattle.cbor_described.proofs.FirstBytes.{IsLow, array_number, array_shape, head_is, least_number, low_number, low_shape, major_of_kind, map_number, no_number}

-- ---- parts, one after the other

-- where one comes
came : {Part Whole : Type 0} (ps : reader.Parts Part Whole) (fuel : ℕ) (r behind : reader.Remaining) (bs start : List ℕ) → next_at ps.ends r bs ≡ Ok (Some behind, start)
    → parts_by ps (suc fuel) r bs ≡ (ps.part start >>= (λ first. parts_by ps fuel behind first.1 >>= (λ others. Ok (ps.add first.0 others.0, others.1))))
unfolding parts_by
came ps fuel r behind bs start next = rw next refl

-- it was read, and the others
record Came {Part Whole : Type 0} (ps : reader.Parts Part Whole) (fuel : ℕ) (behind : reader.Remaining) (start : List ℕ) (x : Whole × List ℕ) : Type 0 where
  first : Part × List ℕ
  others : Whole × List ℕ
  part : ps.part start ≡ Ok first
  rest : parts_by ps fuel behind first.1 ≡ Ok others
  same : ps.add first.0 others.0 ≡ x.0

was_read : {Part Whole : Type 0} (ps : reader.Parts Part Whole) (fuel : ℕ) (r behind : reader.Remaining) (bs start : List ℕ) (x : Whole × List ℕ) → next_at ps.ends r bs ≡ Ok (Some behind, start) → parts_by ps (suc fuel) r bs ≡ Ok x → Came ps fuel behind start x
was_read ps fuel r behind bs start x next is =
    let one = bind_ok (ps.part start) (λ first. parts_by ps fuel behind first.1 >>= (λ others. Ok (ps.add first.0 others.0, others.1))) x (sym (came ps fuel r behind bs start next) ∙ is) in
    let two = bind_ok (parts_by ps fuel behind one.0.1) (λ others. Ok (ps.add one.0.0 others.0, others.1)) x one.2 in
    record { first = one.0; others = two.0; part = one.1; rest = two.1; same = ap (λ (p : _ × List ℕ). p.0) {x = (ps.add one.0.0 two.0.0, two.0.1)} (ok_is (ps.add one.0.0 two.0.0, two.0.1) x two.2) }

-- ---- the item

abbrev items_in : Raw → Raws
items_in (raw.array l rs) = rs
items_in r = no_raws

abbrev pairs_in : Raw → RawPairs
pairs_in (raw.map l ps) = ps
pairs_in r = no_raw_pairs

abbrev length_in : Raw → raw.Length
length_in (raw.map l ps) = l
length_in r = indefinite

abbrev first_in : Raw → Raws → Raw
first_in other no_raws = other
first_in other (raw.raw r rs) = r

abbrev key_in : Raw → RawPairs → Raw
key_in other no_raw_pairs = other
key_in other (raw_pair k v ps) = k

abbrev behind_in : RawPairs → RawPairs
behind_in no_raw_pairs = no_raw_pairs
behind_in (raw_pair k v ps) = ps

some_pair : (k v : Raw) (ps : RawPairs) → raw_pair k v ps ≡ no_raw_pairs → ⊥
some_pair k v ps e = absurd cc

module _ (f : Formats) (l : Limits) where
  abbrev m : Reading Raw Raws RawPairs
  m = raws f l

  -- what is read after a head
  record Headed (levels b : ℕ) (bs : List ℕ) (r : Raw) (rest : List ℕ) : Type 0 where
    width : HeadWidth
    head : Head
    mid : List ℕ
    at : head_at b bs ≡ Ok ((width, head), mid)
    is : behind_head m (inside m levels) width head mid ≡ Ok (r, rest)

  headed : (levels b : ℕ) (bs : List ℕ) (r : Raw) (rest : List ℕ) → item_at m levels (b ∷ bs) ≡ Ok (r, rest) → Headed levels b bs r rest
  unfolding byte_at
  headed levels b bs r rest is = by (head_at b bs) refl (sym (item_opened m levels (b ∷ bs)) ∙ is)
    where
      by : (read : Reads (HeadWidth × Head)) → head_at b bs ≡ read → (read >>= (λ h. behind_head m (inside m levels) h.0.0 h.0.1 h.1)) ≡ Ok (r, rest) → Headed levels b bs r rest
      by (Ok x) at is = record { width = x.0.0; head = x.0.1; mid = x.1; at = at; is = is }
      by (Err e) at is = absurd cc

  module _ (levels b : ℕ) (bs : List ℕ) (r : Raw) (rest : List ℕ) (h : Headed levels b bs r rest) where
    kind_is : kind_of r ≡ head_kind h.head
    kind_is = kinds f l (inside m levels) h.width h.mid h.head r rest h.is

    -- the first byte is of the major type of the item
    major_is : major_of_kind (kind_of r) ≡ major_of (b / 32)
    unfolding head_at
    major_is = ap (λ (k : Kind). major_of_kind k) kind_is ∙ head_is (major_of (b / 32)) (b % 32) bs h.width h.head h.mid h.at

  -- ---- tags

  -- what is read one level further in
  abbrev passing : ℕ → List ℕ → Reads ℕ
  passing zero bs = Err (reader.before too_deep bs)
  passing (suc left) bs = passed_at left bs

  passed_is : (levels : ℕ) (bs : List ℕ) → passed_at levels bs ≡ passed_from levels (passing levels) bs
  unfolding passed_at
  passed_is zero bs = refl
  passed_is (suc left) bs = refl

  tag_byte : (b : ℕ) → begins_tag b ≡ true → b / 32 ≡ 6
  tag_byte b is = by (ltb b 0xc0) (ltb b 0xdc) refl refl is
    where
      by : (x y : Bool) → ltb b 0xc0 ≡ x → ltb b 0xdc ≡ y → cond x false (cond y true false) ≡ true → b / 32 ≡ 6
      by true y low high is = absurd cc
      by false false low high is = absurd cc
      by false true low high is =
          let from = ltb-false b 0xc0 low in
          let to = ltb-true b 0xdc high in
          omega (arith, from, to)

  both : (levels left : ℕ) (bs start : List ℕ) → ◌≡◌ {A = Reads ℕ} (Ok (levels, bs)) (Ok (left, start)) → (levels ≡ left) × (bs ≡ start)
  both levels left bs start is =
      let same = ok_is (levels, bs) (left, start) is in
      (ap (λ (p : ℕ × List ℕ). p.0) same, ap (λ (p : ℕ × List ℕ). p.1) same)

  -- an item that is no tag stands where the tags end
  bare : (levels left : ℕ) (bs start rest : List ℕ) (r : Raw) → (major_of_kind (kind_of r) ≡ major.tag → ⊥) → item_at m levels bs ≡ Ok (r, rest) → passed_at levels bs ≡ Ok (left, start) → (levels ≡ left) × (bs ≡ start)
  bare levels left [] start rest r other is passed = both levels left [] start (sym (passed_is levels []) ∙ passed)
  bare levels left (b ∷ mid) start rest r other is passed = by (begins_tag b) refl (sym (passed_is levels (b ∷ mid)) ∙ passed)
    where
      by : (t : Bool) → begins_tag b ≡ t → ((cond {A = Reads (Option ℕ)} t (Ok (Some b, mid)) (Ok (None, b ∷ mid)) >>= (λ o. tag_behind levels o.0 o.1)) >>= (λ o. passed_by levels (passing levels) o.0 o.1)) ≡ Ok (left, start) → (levels ≡ left) × (b ∷ mid ≡ start)
      by true begins passed = absurd (other (major_is levels b mid r rest (headed levels b mid r rest is) ∙ ap (λ (n : ℕ). major_of n) (tag_byte b begins)))
      by false begins passed = both levels left (b ∷ mid) start passed

  -- ---- arrays

  module _ (left b : ℕ) (bs rest : List ℕ) (n : raw.Length) (k : Raw) (ks : Raws) (h : Headed left b bs (raw.array n (raw.raw k ks)) rest) where
    array_begins : shape_of b ≡ shape_of 0x80
    unfolding head_at head_of
    array_begins =
        let four = array_number (b / 32) (sym (major_is left b bs (raw.array n (raw.raw k ks)) rest h)) in
        array_shape b four (λ high. by (eqb (b % 32) 31) refl (number_behind (b % 32) bs) refl (rw four at h.at) high)
      where
        by : (c : Bool) → eqb (b % 32) 31 ≡ c → (read : Reads ℕ) → number_behind (b % 32) bs ≡ read → cond {A = Reads (HeadWidth × Head)} c (Ok ((no_bytes, head.Array ToBreak), bs)) (read >>= (λ n. Ok ((width_of (b % 32), head.Array (Counted n.0)), n.1))) ≡ Ok ((h.width, h.head), h.mid) → 28 ≤ b % 32 → b % 32 ≡ 31
        by true last read at is high = eqb-true (b % 32) 31 last
        by false last (Ok n) at is high = absurd (no_number (b % 32) n.0 bs n.1 high at)
        by false last (Err e) at is high = absurd cc

    array_opened : opened_at left (b ∷ bs) ≡ Ok ((left, h.head), h.mid)
    unfolding byte_at
    array_opened = opened_here left (b ∷ bs) h.mid h.width h.head (λ tag. (let no : kind.array ≡ kind.tag = kind_is left b bs (raw.array n (raw.raw k ks)) rest h ∙ tag in absurd cc)) h.at

  -- the first of the items
  pub first_item : (left : ℕ) (r behind : reader.Remaining) (bs start rest : List ℕ) (k : Raw) (ks : Raws) → items_at f l left r bs ≡ Ok (raw.raw k ks, rest) → next_at end_in_array r bs ≡ Ok (Some behind, start) → (more : List ℕ) × (item_at m left start ≡ Ok (k, more))
  first_item left r behind bs start rest k ks is next =
      let one = was_read (items_of m (item_at m left)) (length bs) r behind bs start (raw.raw k ks, rest) next is in
      let same : one.first.0 ≡ k = ap (λ (rs : Raws). first_in k rs) one.same in
      (one.first.1, one.part ∙ ap (λ (i : Raw). Ok (i, one.first.1)) same)

  array_first : (left : ℕ) (len n : raw.Length) (r behind : reader.Remaining) (items start rest : List ℕ) (k : Raw) (ks : Raws) → array_at m (Some (item_at m left)) len r items ≡ Ok (raw.array n (raw.raw k ks), rest) → next_at end_in_array r items ≡ Ok (Some behind, start) → (more : List ℕ) × (item_at m left start ≡ Ok (k, more))
  unfolding array_at
  array_first left len n r behind items start rest k ks is next =
      let ps = items_of m (item_at m left) in
      let whole = bind_ok (parts_at ps r items) (λ x. Ok (raw.array len x.0, x.1)) (raw.array n (raw.raw k ks), rest) is in
      let made = ap (λ (p : Raw × List ℕ). items_in p.0) (ok_is (raw.array len whole.0.0, whole.0.1) (raw.array n (raw.raw k ks), rest) whole.2) in
      first_item left r behind items start whole.0.1 k ks (whole.1 ∙ ap (λ (rs : Raws). Ok (rs, whole.0.1)) made) next

  -- ---- maps

  -- the pairs of a map
  map_made : (inner : Option (List ℕ → Reads Raw)) (len n : raw.Length) (r : reader.Remaining) (bs rest : List ℕ) (ps : RawPairs) → map_at m inner len r bs ≡ Ok (raw.map n ps, rest)
      → (len ≡ n) × ((p : List ℕ → Reads Raw) × (x : RawPairs × List ℕ) × (inner ≡ Some p) × (parts_at (reader.pairs_of m p) r bs ≡ Ok x) × (x.0 ≡ ps))
  unfolding map_at
  map_made None len n r bs rest ps is = absurd cc
  map_made (Some p) len n r bs rest ps is =
      let whole = bind_ok (parts_at (reader.pairs_of m p) r bs) (λ x. Ok (raw.map len x.0, x.1)) (raw.map n ps, rest) is in
      let same = ok_is (raw.map len whole.0.0, whole.0.1) (raw.map n ps, rest) whole.2 in
      (ap (λ (p : Raw × List ℕ). length_in p.0) same, (p, whole.0, refl, whole.1, ap (λ (p : Raw × List ℕ). pairs_in p.0) same))

  one_comes : (n : ℕ) (bs : List ℕ) → next_at end_in_map (reader.counted (suc n)) bs ≡ Ok (Some (reader.counted n), bs)
  unfolding next_at
  one_comes n bs = refl

  no_pairs : (p : List ℕ → Reads Raw) (fuel : ℕ) (bs : List ℕ) → parts_by (reader.pairs_of m p) (suc fuel) (reader.counted zero) bs ≡ Ok (no_raw_pairs, bs)
  unfolding parts_by next_at
  no_pairs p fuel bs = refl

  no_fuel : (p : List ℕ → Reads Raw) (r : reader.Remaining) (bs : List ℕ) (x : RawPairs × List ℕ) → parts_by (reader.pairs_of m p) zero r bs ≡ Ok x → ⊥
  unfolding parts_by
  no_fuel p r bs x is = absurd cc

  some_pairs : (p : List ℕ → Reads Raw) (fuel n : ℕ) (bs : List ℕ) (x : RawPairs × List ℕ) → parts_by (reader.pairs_of m p) fuel (reader.counted (suc n)) bs ≡ Ok x → x.0 ≡ no_raw_pairs → ⊥
  some_pairs p zero n bs x is none = no_fuel p (reader.counted (suc n)) bs x is
  some_pairs p (suc fuel) n bs x is none =
      let one = was_read (reader.pairs_of m p) fuel (reader.counted (suc n)) (reader.counted n) bs bs x (one_comes n bs) is in
      some_pair one.first.0.0 one.first.0.1 one.others.0 (one.same ∙ none)

  one_pair : (p : List ℕ → Reads Raw) (n : ℕ) (bs : List ℕ) (x : RawPairs × List ℕ) (k v : Raw) → parts_at (reader.pairs_of m p) (reader.counted n) bs ≡ Ok x → x.0 ≡ raw_pair k v no_raw_pairs → n ≡ 1
  one_pair p zero bs x k v is same =
      let none = ap (λ (p : RawPairs × List ℕ). p.0) (ok_is (no_raw_pairs, bs) x (sym (no_pairs p (length bs) bs) ∙ is)) in
      absurd (some_pair k v no_raw_pairs (sym (none ∙ same)))
  one_pair p (suc zero) bs x k v is same = refl
  one_pair p (suc (suc n)) bs x k v is same =
      let one = was_read (reader.pairs_of m p) (length bs) (reader.counted (suc (suc n))) (reader.counted (suc n)) bs bs x (one_comes (suc n) bs) is in
      absurd (some_pairs p (length bs) n one.first.1 one.others one.rest (ap (λ (ps : RawPairs). behind_in ps) (one.same ∙ same)))

  -- a map of one pair with a head of one byte
  abbrev pair_of : Raw → Raw → Raw
  pair_of k v = raw.map (definite no_bytes) (raw_pair k v no_raw_pairs)

  module _ (left b : ℕ) (bs rest : List ℕ) (k v : Raw) (h : Headed left b bs (pair_of k v) rest) where
    open_map : (c : raw.Length) → indefinite ≡ definite no_bytes → ⊥
    open_map c e = absurd cc

    width_in : (w : HeadWidth) → definite w ≡ definite no_bytes → w ≡ no_bytes
    width_in w e = cc

    pair_byte : b ≡ 0xa1
    unfolding head_at head_of
    pair_byte =
        let five = map_number (b / 32) (sym (major_is left b bs (pair_of k v) rest h)) in
        let one = by (eqb (b % 32) 31) (number_behind (b % 32) bs) refl (rw five at h.at) in
        omega (arith, five, one)
      where
        behind : (w : HeadWidth) (g : Head) (mid : List ℕ) → ◌≡◌ {A = Reads (HeadWidth × Head)} (Ok ((w, g), mid)) (Ok ((h.width, h.head), h.mid)) → behind_head m (inside m left) w g mid ≡ Ok (pair_of k v, rest)
        behind w g mid is = subst (λ (p : (HeadWidth × Head) × List ℕ). behind_head m (inside m left) p.0.0 p.0.1 p.1 ≡ Ok (pair_of k v, rest)) (sym (ok_is ((w, g), mid) ((h.width, h.head), h.mid) is)) h.is

        by : (c : Bool) (read : Reads ℕ) → number_behind (b % 32) bs ≡ read → cond {A = Reads (HeadWidth × Head)} c (Ok ((no_bytes, head.Map ToBreak), bs)) (read >>= (λ n. Ok ((width_of (b % 32), head.Map (Counted n.0)), n.1))) ≡ Ok ((h.width, h.head), h.mid) → b % 32 ≡ 1
        by true read at is =
            let made = map_made (inside m left) indefinite (definite no_bytes) reader.to_break bs rest (raw_pair k v no_raw_pairs) (behind no_bytes (head.Map ToBreak) bs is) in
            absurd (open_map indefinite made.0)
        by false (Ok n) at is =
            let made = map_made (inside m left) (definite (width_of (b % 32))) (definite no_bytes) (reader.counted n.0) n.1 rest (raw_pair k v no_raw_pairs) (behind (width_of (b % 32)) (head.Map (Counted n.0)) n.1 is) in
            let least = least_number (b % 32) n.0 bs n.1 (width_in (width_of (b % 32)) made.0) at in
            let few = one_pair made.1.0 n.0 n.1 made.1.1 k v made.1.3 made.1.4 in
            sym least ∙ few
        by false (Err e) at is = absurd cc

  -- its key
  key_of_pair : (allows : ℕ → Bool) (p : List ℕ → Reads Raw) (bs : List ℕ) (x : (Raw × Raw) × List ℕ) → pair_at allows p bs ≡ Ok x → (more : List ℕ) × (p bs ≡ Ok (x.0.0, more))
  unfolding pair_at
  key_of_pair allows p bs x is =
      let one = bind_ok (key_at allows p bs) (λ k. p k.1 >>= (λ v. Ok ((k.0, v.0), v.1))) x is in
      let two = bind_ok (p one.0.1) (λ v. Ok ((one.0.0, v.0), v.1)) x one.2 in
      let same = ap (λ (p : (Raw × Raw) × List ℕ). p.0.0) (ok_is ((one.0.0, two.0.0), two.0.1) x two.2) in
      (one.0.1, (key_read allows p bs one.0 one.1).1 ∙ ap (λ (i : Raw). Ok (i, one.0.1)) same)

  pair_opened : (left : ℕ) (bs : List ℕ) → item_at m (suc left) (0xa1 ∷ bs) ≡ map_at m (Some (item_at m left)) (definite no_bytes) (reader.counted 1) bs
  unfolding item_at item_by byte_at after_first number_behind content_at
  pair_opened left bs = refl

  some_inner : (p q : List ℕ → Reads Raw) → ◌≡◌ {A = Option (List ℕ → Reads Raw)} (Some p) (Some q) → p ≡ q
  some_inner p q e = cc

  pair_first : (left : ℕ) (bs rest : List ℕ) (k v : Raw) → item_at m (suc left) (0xa1 ∷ bs) ≡ Ok (pair_of k v, rest) → (more : List ℕ) × (item_at m left bs ≡ Ok (k, more))
  pair_first left bs rest k v is =
      let made = map_made (Some (item_at m left)) (definite no_bytes) (definite no_bytes) (reader.counted 1) bs rest (raw_pair k v no_raw_pairs) (sym (pair_opened left bs) ∙ is) in
      let p = made.1.0 in
      let one = was_read (reader.pairs_of m p) (length bs) (reader.counted 1) (reader.counted zero) bs bs made.1.1 (one_comes zero bs) made.1.3 in
      let key = key_of_pair m.allows p bs one.first one.part in
      let same : one.first.0.0 ≡ k = ap (λ (ps : RawPairs). key_in k ps) (one.same ∙ made.1.4) in
      let here = ap (λ (q : List ℕ → Reads Raw). q bs) (some_inner (item_at m left) p made.1.2) in
      (key.0, here ∙ key.1 ∙ ap (λ (i : Raw). Ok (i, key.0)) same)

  -- its head takes no more than it
  pair_head : (left : ℕ) (bs key : List ℕ) → pair_head_at f (suc left) (0xa1 ∷ bs) ≡ Ok (tt, key) → bs ≡ key
  unfolding byte_at
  pair_head left bs key is =
      let read = key_read (may_begin_key f) (λ key. Ok (tt, key)) bs (tt, key) is in
      ap (λ (p : Unit {0} × List ℕ). p.1) (ok_is (tt, bs) (tt, key) read.1)

  -- ---- what names it

  module _ (asks : Raw → Type 0) (names : List (List ℕ)) where
    abbrev Asked : ℕ → List ℕ → Type 0
    Asked left bs = AsksForIdentifier asks f names l left bs

    alone_named : (left b : ℕ) (bs rest : List ℕ) (r : Raw) (i : ℕ) → IsLow (major_of_kind (kind_of r)) → item_at m left (b ∷ bs) ≡ Ok (r, rest) → NamedIn (shape_of b) f Asked left (b ∷ bs) → IsName names r i → asks r
    alone_named left b bs rest r i low is named name =
        let four = low_number (b / 32) (subst (λ (k : Major). IsLow k) (major_is left b bs r rest (headed left b bs r rest is)) low) in
        let here = subst (λ s. NamedIn s f Asked left (b ∷ bs)) (low_shape b (omega (arith, four))) named in
        here.asked i rest (record { item = r; is = is; means = name })

    array_named : (left b : ℕ) (bs rest : List ℕ) (n : raw.Length) (k : Raw) (ks : Raws) (i : ℕ) → item_at m left (b ∷ bs) ≡ Ok (raw.array n (raw.raw k ks), rest) → NamedIn (shape_of b) f Asked left (b ∷ bs) → IsName names k i → asks k
    array_named left b bs rest n k ks i is named name =
        let h = headed left b bs (raw.array n (raw.raw k ks)) rest is in
        let here = subst (λ s. NamedIn s f Asked left (b ∷ bs)) (array_begins left b bs rest n k ks h) named in
        let same = ok_is ((left, h.head), h.mid) ((here.left + 1, head.Array here.all), here.items) (sym (array_opened left b bs rest n k ks h) ∙ here.head) in
        let behind = subst (λ (p : (ℕ × Head) × List ℕ). behind_head m (inside m p.0.0) h.width p.0.1 p.1 ≡ Ok (raw.array n (raw.raw k ks), rest)) same h.is in
        let next : here.left + 1 ≡ suc here.left = omega arith in
        let whole = subst (λ (levels : ℕ). behind_head m (inside m levels) h.width (head.Array here.all) here.items ≡ Ok (raw.array n (raw.raw k ks), rest)) next behind in
        let one = array_first here.left _ n (remaining_of here.all) here.first.behind here.items here.first.start rest k ks whole here.first.next in
        here.first.holds.asked i one.0 (record { item = k; is = one.1; means = name })

    map_named : (left b : ℕ) (bs rest : List ℕ) (k v : Raw) (i : ℕ) → item_at m left (b ∷ bs) ≡ Ok (pair_of k v, rest) → NamedIn (shape_of b) f Asked left (b ∷ bs) → IsName names k i → asks k
    map_named left b bs rest k v i is named name =
        let byte = pair_byte left b bs rest k v (headed left b bs (pair_of k v) rest is) in
        let here = subst (λ s. NamedIn s f Asked left (b ∷ bs)) (ap (λ (n : ℕ). shape_of n) byte) named in
        let next : left ≡ suc here.left = omega (arith, here.level) in
        let head = subst (λ (n : ℕ). pair_head_at f (suc here.left) (n ∷ bs) ≡ Ok (tt, here.key)) byte (subst (λ (n : ℕ). pair_head_at f n (b ∷ bs) ≡ Ok (tt, here.key)) next here.head) in
        let whole = subst (λ (n : ℕ). item_at m (suc here.left) (n ∷ bs) ≡ Ok (pair_of k v, rest)) byte (subst (λ (n : ℕ). item_at m n (b ∷ bs) ≡ Ok (pair_of k v, rest)) next is) in
        let one = pair_first here.left bs rest k v whole in
        let key = subst (λ (from : List ℕ). item_at m here.left from ≡ Ok (k, one.0)) (pair_head here.left bs here.key head) one.1 in
        here.holds.asked i one.0 (record { item = k; is = key; means = name })

    module _ (left b : ℕ) (bs rest : List ℕ) (v : ℕ × Content) where
      named : (r : Raw) → item_at m left (b ∷ bs) ≡ Ok (r, rest) → NamedIn (shape_of b) f Asked left (b ∷ bs) → IsVariant f names r v → IsNamedBy asks r
      named (raw.unsigned w n) is at h = alone_named left b bs rest (raw.unsigned w n) v.0 tt is at h.1
      named (raw.negative w n) is at h = absurd h.1
      named (raw.bytes c) is at h = alone_named left b bs rest (raw.bytes c) v.0 tt is at h.1
      named (raw.text c) is at h = alone_named left b bs rest (raw.text c) v.0 tt is at h.1
      named (raw.bytes_chunks cs) is at h = alone_named left b bs rest (raw.bytes_chunks cs) v.0 tt is at h.1
      named (raw.text_chunks cs) is at h = alone_named left b bs rest (raw.text_chunks cs) v.0 tt is at h.1
      named (raw.array n no_raws) is at h = absurd h.1.1
      named (raw.array n (raw.raw k ks)) is at h = array_named left b bs rest n k ks v.0 is at h.1
      named (raw.map indefinite ps) is at h = absurd h.1.1
      named (raw.map (definite one_byte) ps) is at h = absurd h.1.1
      named (raw.map (definite two_bytes) ps) is at h = absurd h.1.1
      named (raw.map (definite four_bytes) ps) is at h = absurd h.1.1
      named (raw.map (definite eight_bytes) ps) is at h = absurd h.1.1
      named (raw.map (definite no_bytes) no_raw_pairs) is at h = absurd h.1.1
      named (raw.map (definite no_bytes) (raw_pair k x (raw_pair a y ps))) is at h = absurd h.1.1
      named (raw.map (definite no_bytes) (raw_pair k x no_raw_pairs)) is at h = map_named left b bs rest k x v.0 is at h.1
      named (raw.tag w n r) is at h = tt
      named (raw.simple s) is at h = absurd h.1.1
      named (raw.float w bits) is at h = absurd h.1.1

    named_at : (levels : ℕ) (bs rest : List ℕ) (r : Raw) (v : ℕ × Content) → item_at m levels bs ≡ Ok (r, rest) → AtIdentifier f Asked levels bs → IsVariant f names r v → IsNamedBy asks r
    named_at levels [] rest r v is at h = absurd at
    named_at levels (b ∷ bs) rest r v is at h = named levels b bs rest v r is at h

    here : (levels : ℕ) (bs rest : List ℕ) (r : Raw) (v : ℕ × Content) → (major_of_kind (kind_of r) ≡ major.tag → ⊥) → item_at m levels bs ≡ Ok (r, rest) → BehindTags levels bs (AtIdentifier f Asked) → IsVariant f names r v → IsNamedBy asks r
    here levels bs rest r v other is tags h =
        let same = bare levels tags.left bs tags.rest rest r other is tags.tags in
        named_at levels bs rest r v is (subst (λ (n : ℕ). AtIdentifier f Asked n bs) (sym same.0) (subst (λ (from : List ℕ). AtIdentifier f Asked tags.left from) (sym same.1) tags.holds)) h

    -- the identifier of an item that is a variant
    pub enum_named : (levels : ℕ) (bs rest : List ℕ) (r : Raw) (v : ℕ × Content) → item_at m levels bs ≡ Ok (r, rest) → BehindTags levels bs (AtIdentifier f Asked) → IsVariant f names (untagged r) v → IsNamedBy asks r
    enum_named levels bs rest (raw.unsigned w n) v is tags h = here levels bs rest (raw.unsigned w n) v (λ e. absurd cc) is tags h
    enum_named levels bs rest (raw.negative w n) v is tags h = here levels bs rest (raw.negative w n) v (λ e. absurd cc) is tags h
    enum_named levels bs rest (raw.bytes c) v is tags h = here levels bs rest (raw.bytes c) v (λ e. absurd cc) is tags h
    enum_named levels bs rest (raw.text c) v is tags h = here levels bs rest (raw.text c) v (λ e. absurd cc) is tags h
    enum_named levels bs rest (raw.bytes_chunks cs) v is tags h = here levels bs rest (raw.bytes_chunks cs) v (λ e. absurd cc) is tags h
    enum_named levels bs rest (raw.text_chunks cs) v is tags h = here levels bs rest (raw.text_chunks cs) v (λ e. absurd cc) is tags h
    enum_named levels bs rest (raw.array n rs) v is tags h = here levels bs rest (raw.array n rs) v (λ e. absurd cc) is tags h
    enum_named levels bs rest (raw.map n ps) v is tags h = here levels bs rest (raw.map n ps) v (λ e. absurd cc) is tags h
    enum_named levels bs rest (raw.tag w n r) v is tags h = tt
    enum_named levels bs rest (raw.simple s) v is tags h = absurd h.1.1
    enum_named levels bs rest (raw.float w bits) v is tags h = absurd h.1.1
