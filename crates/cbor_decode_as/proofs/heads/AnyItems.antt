-- What stops an item, whatever formats its keys are of: its tags, the first item of an array, and the
-- key of a map of one pair.
use Rattle.std.proofs.Common.{◌≡◌, ◌≢◌, ◌∙◌, ◌+◌, ◌%◌, ◌<◌, ◌≤◌, arith, ℕ, zero, suc, Bool, true, false, cond, eqb, ltb, List, [], ◌∷◌, length, Option, Some, None, Ok, Err, refl, sym, ap, subst}
use Rattle.std.proofs.lemmas.Bool.{eqb-true, eqb-false}
use Rattle.cbor_model.specs.Formats.{Formats, all_formats, may_begin_key}
use Rattle.cbor_model.specs.Head.{HeadWidth, no_bytes}
use Rattle.cbor_model.specs.Plain.{Val, Vals, Pairs}
use Rattle.cbor_model.specs.Refusal.{end_in_array, too_deep, trailing_data, unassigned_code, wrong_struct_format}
use Rattle.cbor_model.specs.Reader.{Fault, Reads, Reading, Parts, ◌>>=◌, array_at, before, byte_at, inside, items_of, key_at, map_at, next_at, number_behind, pair_at, parts_at, parts_by, tag_at}
use Rattle.cbor_model.specs.Reader as reader
use Rattle.cbor_model.proofs.facts.Reader.{next_taken, ok_is, parts_by-fuel, taken}
use Rattle.cbor_decode.specs.Cursor.{ended_at}
use Rattle.cbor_decode.specs.Gives.{Limits, values}
use Rattle.cbor_decode.specs.Heads.{head_at, head_of, passed}
use Rattle.cbor_decode.specs.declared.cursor.Remaining.{Remaining}
use Rattle.cbor_decode.specs.declared.cursor.Remaining.TheVariants.{Counted}
use Rattle.cbor_decode.specs.Heads.{remaining_of}
use Rattle.cbor_decode.specs.declared.head.Head.{Head}
use Rattle.cbor_decode.specs.declared.head.Head.TheVariants as head
use Rattle.cbor_decode.proofs.facts.Steps.{passed_stops}
use Rattle.cbor_decode_as.specs.Begins.{Begins}
use Rattle.cbor_decode_as.specs.MapAccesses.{key_front}
use Rattle.cbor_decode_as.specs.Tags.{begins_tag, entered_at, passed_at, passed_by, tag_behind, tag_head_at}
use Rattle.cbor_decode_as.specs.TaggedHeads.{behind_any, opened_at}
use Rattle.cbor_decode_as.specs.Takes.{any_item}
use Rattle.cbor_decode_as.specs.Variants.{HasShape, pair_head_at, unassigned_at}
use Rattle.cbor_decode_as.specs.declared.variant.Shape.TheVariants as shape
use Rattle.cbor_decode_as.proofs.enums.VariantHeads.{map_byte, map_head_at, unassigned_byte}
use Rattle.cbor_decode_as.proofs.heads.Openings.{opened_here}
use Rattle.cbor_decode_as.proofs.heads.PassedOver.{found_is, head_stops_any, passed_made}
use Rattle.cbor_decode_as.proofs.heads.PassedTags.{passed_is, passing, tag_stops}
use Rattle.cbor_decode_as.proofs.heads.TagHeads.{tag_item}

-- with all formats each first byte may begin a key
pub all_begin : (b : ℕ) → may_begin_key all_formats b ≡ true
all_begin b = each (ltb b 28) (ltb b 96) (ltb b 124) (eqb b 127)
  where
    each : (p q r s : Bool) → cond p true (cond q true (cond r true (cond s true true))) ≡ true
    each true q r s = refl
    each false true r s = refl
    each false false true s = refl
    each false false false true = refl
    each false false false false = refl

-- ---- parts

module _ {Part Whole : Type 0} (ps : Parts Part Whole) (r : reader.Remaining) (bs : List ℕ) where
  -- it can't be known whether a part comes
  pub next_stops : (d : Fault) → next_at ps.ends r bs ≡ Err d → parts_at ps r bs ≡ Err d
  unfolding parts_by
  next_stops d is = rw is refl

  -- the first part
  pub part_stops : (behind : reader.Remaining) (more : List ℕ) (d : Fault) → next_at ps.ends r bs ≡ Ok (Some behind, more) → ps.part more ≡ Err d → parts_at ps r bs ≡ Err d
  unfolding parts_by
  part_stops behind more d next is = rw (next, is) refl

  -- behind a part that is read
  pub part_passed : ((bs : List ℕ) (x : Part × List ℕ) → ps.part bs ≡ Ok x → length x.1 < length bs) → (behind : reader.Remaining) (more after : List ℕ) (x : Part) → next_at ps.ends r bs ≡ Ok (Some behind, more) → ps.part more ≡ Ok (x, after) → passed (parts_at ps r bs) ≡ passed (parts_at ps behind after)
  unfolding parts_by
  part_passed takes behind more after x next is =
      let shorter : length after < length bs = omega (arith, takes more (x, after) is, next_taken ps.ends r bs (Some behind, more) next) in
      let fuel = parts_by-fuel ps takes (length bs) (suc (length after)) behind after shorter (omega arith) in
      rw (next, is) (passed_made (parts_by ps (length bs) behind after) (ps.add x) ∙ ap (λ r. passed r) fuel)

end_fault : {A B : Type 0} (x y : Fault) → ◌≡◌ {A = Reads A} (Err x) (Err y) → ◌≡◌ {A = Reads B} (Err x) (Err y)
end_fault x y is = cc

why_is : {A : Type 0} (x y : Fault) → ◌≡◌ {A = Reads A} (Err x) (Err y) → x.why ≡ y.why
why_is {A = A} x y is = ap (λ (f : Fault). f.why) (by x y is)
  where
    by : (x y : Fault) → ◌≡◌ {A = Reads A} (Err x) (Err y) → x ≡ y
    by x y e = cc

-- the end, where nothing else follows
pub end_stops : {Part Whole : Type 0} (ps : Parts Part Whole) (r : reader.Remaining) (bs : List ℕ) (d : Fault) → d.why ≢ trailing_data → ended_at ps.ends r bs ≡ Err d → parts_at ps r bs ≡ Err d
unfolding parts_by next_at ended_at
end_stops ps (reader.counted zero) bs d other is = absurd cc
end_stops ps (reader.counted (suc n)) bs d other is = absurd (other (sym (why_is (before trailing_data bs) d is)))
end_stops ps reader.to_break [] d other is = end_fault _ d is
end_stops ps reader.to_break (b ∷ bs) d other is = absurd (by (eqb b 0xff) is)
  where
    by : (c : Bool) → cond {A = Reads (Unit {0})} c (Ok (tt, bs)) (Err (before trailing_data bs)) ≡ Err d → ⊥
    by true is = absurd cc
    by false is = other (sym (why_is (before trailing_data bs) d is))

module _ (l : Limits) where
  abbrev m : Reading Val Vals (Pairs → Pairs)
  m = values all_formats l

  -- ---- arrays

  -- the items that remain of an array
  abbrev pub items_any : ℕ → reader.Remaining → List ℕ → Reads Vals
  items_any left r bs = parts_at (items_of m (any_item left l)) r bs

  -- behind an item that is read
  pub item_passed : (left : ℕ) (r behind : reader.Remaining) (bs more after : List ℕ) (v : Val) → next_at end_in_array r bs ≡ Ok (Some behind, more) → any_item left l more ≡ Ok (v, after) → passed (items_any left r bs) ≡ passed (items_any left behind after)
  item_passed left r behind bs more after v next is = part_passed (items_of m (any_item left l)) r bs (taken m left) behind more after v next is

  array_behind : (left : ℕ) (all : Remaining) (items : List ℕ) (d : Fault) → items_any left (remaining_of all) items ≡ Err d → behind_any (suc left) (head.Array all) l items ≡ Err d
  unfolding array_at
  array_behind left all items d is = rw is refl

  pub array_stops : (levels left : ℕ) (all : Remaining) (bs items : List ℕ) (d : Fault) → Begins head.Array levels left all bs items → items_any left (remaining_of all) items ≡ Err d → any_item levels l bs ≡ Err d
  array_stops levels left all bs items d begins is =
      passed_stops (any_item levels l bs) d (found_is l levels (left + 1) (head.Array all) bs items begins ∙ ap (λ (n : ℕ). passed (behind_any n (head.Array all) l items)) one ∙ ap (λ (r : Reads Val). passed r) (array_behind left all items d is))
    where
      one : left + 1 ≡ suc left
      one = omega arith

  -- ---- tags

  abbrev behind_tags : ℕ × List ℕ → Reads (Unit {0})
  behind_tags o = passed (any_item o.0 l o.1)

  -- no tag takes nothing
  none_same : (levels : ℕ) (bs rest : List ℕ) → tag_head_at levels bs ≡ Ok (None, rest) → rest ≡ bs
  none_same levels [] rest is = sym (ap (λ (p : Option ℕ × List ℕ). p.1) (ok_is (None, []) (None, rest) is))
  none_same levels (b ∷ mid) rest is = by (begins_tag b) is
    where
      some : (levels : ℕ) (read : Reads ℕ) → (read >>= (λ n. entered_at levels n.0 n.1)) ≡ Ok (None, rest) → rest ≡ b ∷ mid
      some zero (Ok x) is = absurd cc
      some (suc left) (Ok x) is = absurd (differ (ap (λ (p : Option ℕ × List ℕ). p.0) (ok_is (Some x.0, x.1) (None, rest) is)))
        where
          differ : Some x.0 ≡ None → ⊥
          differ e = absurd cc
      some levels (Err e) is = absurd cc

      by : (t : Bool) → (cond {A = Reads (Option ℕ)} t (Ok (Some b, mid)) (Ok (None, b ∷ mid)) >>= (λ o. tag_behind levels o.0 o.1)) ≡ Ok (None, rest) → rest ≡ b ∷ mid
      by true h = some levels (number_behind (b % 32) mid) h
      by false h = sym (ap (λ (p : Option ℕ × List ℕ). p.1) (ok_is (None, b ∷ mid) (None, rest) h))

  -- an item is passed over where its tags are, and what they are of
  TagsAlike : ℕ → List ℕ → Type 0
  TagsAlike levels bs = passed (any_item levels l bs) ≡ (passed_at levels bs >>= behind_tags)

  one_tag : (levels : ℕ) (bs : List ℕ) → ((n : ℕ) (rest : List ℕ) (w : HeadWidth) → passed (tag_at m (inside m levels) w n rest) ≡ (passing levels rest >>= behind_tags)) → passed (any_item levels l bs) ≡ (passed_at levels bs >>= behind_tags)
  one_tag levels bs tag = by (tag_head_at levels bs) refl ∙ ap (λ (r : Reads ℕ). r >>= behind_tags) (sym (passed_is levels bs))
    where
      by_tag : (o : Option ℕ) (rest : List ℕ) → tag_head_at levels bs ≡ Ok (o, rest) → passed (any_item levels l bs) ≡ (passed_by levels (passing levels) o rest >>= behind_tags)
      by_tag None rest is = ap (λ (from : List ℕ). passed (any_item levels l from)) (sym (none_same levels bs rest is))
      by_tag (Some n) rest is =
          let t = tag_item m levels n bs rest is in
          ap (λ (r : Reads Val). passed r) t.1 ∙ tag n rest t.0

      by : (o : Reads (Option ℕ)) → tag_head_at levels bs ≡ o → passed (any_item levels l bs) ≡ ((o >>= (λ o. passed_by levels (passing levels) o.0 o.1)) >>= behind_tags)
      by (Ok o) is = by_tag o.0 o.1 is
      by (Err d) is = ap (λ (r : Reads Val). passed r) (tag_stops m levels bs d is)

  pub tags_passed : (levels : ℕ) (bs : List ℕ) → passed (any_item levels l bs) ≡ (passed_at levels bs >>= behind_tags)
  unfolding tag_at
  tags_passed zero bs = one_tag zero bs (λ n rest w. refl)
  tags_passed (suc left) bs = one_tag (suc left) bs (λ n rest w. passed_made (any_item left l rest) (m.tag w n) ∙ tags_passed left rest)

  -- the tags themselves stop it
  pub tags_stop : (levels : ℕ) (bs : List ℕ) (d : Fault) → passed_at levels bs ≡ Err d → any_item levels l bs ≡ Err d
  tags_stop levels bs d is = passed_stops (any_item levels l bs) d (tags_passed levels bs ∙ ap (λ (r : Reads ℕ). r >>= behind_tags) is)

  -- and what they are of
  pub tagged_stops : (levels left : ℕ) (bs mid : List ℕ) (d : Fault) → passed_at levels bs ≡ Ok (left, mid) → any_item left l mid ≡ Err d → any_item levels l bs ≡ Err d
  tagged_stops levels left bs mid d tags is = passed_stops (any_item levels l bs) d (tags_passed levels bs ∙ ap (λ (r : Reads ℕ). r >>= behind_tags) tags ∙ ap (λ (r : Reads Val). passed r) is)

  -- ---- a first byte that begins no item

  no_head_9c : (bs : List ℕ) → head_at 0x9c bs ≡ Err (before unassigned_code bs)
  unfolding head_at head_of number_behind
  no_head_9c bs = refl

  no_head_9d : (bs : List ℕ) → head_at 0x9d bs ≡ Err (before unassigned_code bs)
  unfolding head_at head_of number_behind
  no_head_9d bs = refl

  no_head_9e : (bs : List ℕ) → head_at 0x9e bs ≡ Err (before unassigned_code bs)
  unfolding head_at head_of number_behind
  no_head_9e bs = refl

  no_head : (b : ℕ) (bs : List ℕ) → 0x9c ≤ b → b < 0x9f → head_at b bs ≡ Err (before unassigned_code bs)
  no_head b bs from to = by (eqb b 0x9c) (eqb b 0x9d) refl refl
    where
      by : (x y : Bool) → eqb b 0x9c ≡ x → eqb b 0x9d ≡ y → head_at b bs ≡ Err (before unassigned_code bs)
      by true y one two = ap (λ (n : ℕ). head_at n bs) (eqb-true b 0x9c one) ∙ no_head_9c bs
      by false true one two = ap (λ (n : ℕ). head_at n bs) (eqb-true b 0x9d two) ∙ no_head_9d bs
      by false false one two =
          let other = eqb-false b 0x9c one in
          let another = eqb-false b 0x9d two in
          let last : b ≡ 0x9e = omega (arith, other, another, from, to) in
          ap (λ (n : ℕ). head_at n bs) last ∙ no_head_9e bs

  pub unassigned_stops_any : (levels : ℕ) (bs : List ℕ) (d : Fault) → HasShape shape.Unassigned bs → unassigned_at bs ≡ Err d → any_item levels l bs ≡ Err d
  unfolding byte_at
  unassigned_stops_any levels [] d shaped is = absurd shaped
  unassigned_stops_any levels (b ∷ bs) d shaped is =
      let byte = unassigned_byte b shaped.0 in
      head_stops_any l levels (b ∷ bs) d (no_head b bs byte.0 byte.1 ∙ of_head is)
    where
      of_head : ◌≡◌ {A = Reads (Unit {0})} (Err (before unassigned_code bs)) (Err d) → ◌≡◌ {A = Reads (HeadWidth × Head)} (Err (before unassigned_code bs)) (Err d)
      of_head is = cc

  -- ---- a map of one pair

  -- what follows its head, where so many levels are left
  abbrev one_pair : ℕ → List ℕ → Reads Val
  one_pair levels bs = behind_any levels (head.Map (Counted 1)) l bs

  pair_opened : (levels b : ℕ) (mid : List ℕ) → HasShape shape.Map (b ∷ mid) → opened_at levels (b ∷ mid) ≡ Ok ((levels, head.Map (Counted 1)), mid)
  unfolding byte_at
  pair_opened levels b mid shaped = opened_here levels (b ∷ mid) mid no_bytes (head.Map (Counted 1)) (λ e. absurd cc) (ap (λ (n : ℕ). head_at n mid) (map_byte b shaped.0) ∙ map_head_at mid)

  pair_is : (levels b : ℕ) (mid : List ℕ) (d : Fault) → HasShape shape.Map (b ∷ mid) → one_pair levels mid ≡ Err d → any_item levels l (b ∷ mid) ≡ Err d
  pair_is levels b mid d shaped is = passed_stops (any_item levels l (b ∷ mid)) d (found_is l levels levels (head.Map (Counted 1)) (b ∷ mid) mid (pair_opened levels b mid shaped) ∙ ap (λ (r : Reads Val). passed r) is)

  same_fault : {A B : Type 0} (x y : Fault) → ◌≡◌ {A = Reads A} (Err x) (Err y) → ◌≡◌ {A = Reads B} (Err x) (Err y)
  same_fault x y is = cc

  -- the key of the pair
  key_behind : (f : Formats) (left : ℕ) (mid : List ℕ) (d : Fault) → d.why ≢ wrong_struct_format → key_front f mid ≡ Err d → one_pair (suc left) mid ≡ Err d
  unfolding map_at parts_by next_at pair_at key_at
  key_behind f left [] d other is = same_fault _ d is
  key_behind f left (k ∷ mid) d other is = absurd (by (may_begin_key f k) is)
    where
      by : (may : Bool) → cond {A = Reads (Unit {0})} may (Ok (tt, k ∷ mid)) (Err (before wrong_struct_format (k ∷ mid))) ≡ Err d → ⊥
      by true is = absurd cc
      by false is = other (sym (ap (λ (g : Fault). g.why) (fault_is (before wrong_struct_format (k ∷ mid)) d is)))
        where
          fault_is : (x y : Fault) → ◌≡◌ {A = Reads (Unit {0})} (Err x) (Err y) → x ≡ y
          fault_is x y e = cc

  key_read : (f : Formats) (left : ℕ) (mid key : List ℕ) (d : Fault) → key_front f mid ≡ Ok (tt, key) → any_item left l key ≡ Err d → one_pair (suc left) mid ≡ Err d
  unfolding map_at parts_by next_at pair_at key_at
  key_read f left [] key d front is = absurd cc
  key_read f left (k ∷ mid) key d front is =
      let here : any_item left l (k ∷ mid) ≡ Err d = subst (λ (from : List ℕ). any_item left l from ≡ Err d) (sym (by (may_begin_key f k) front)) is in
      rw (all_begin k, here) refl
    where
      by : (may : Bool) → cond {A = Reads (Unit {0})} may (Ok (tt, k ∷ mid)) (Err (before wrong_struct_format (k ∷ mid))) ≡ Ok (tt, key) → k ∷ mid ≡ key
      by true is = ap (λ (p : Unit {0} × List ℕ). p.1) (ok_is (tt, k ∷ mid) (tt, key) is)
      by false is = absurd cc

  too_deep_behind : (mid : List ℕ) → one_pair zero mid ≡ Err (before too_deep mid)
  unfolding map_at
  too_deep_behind mid = refl

  -- its head, and a key that stands nowhere
  pub pair_head_stops : (f : Formats) (levels : ℕ) (bs : List ℕ) (d : Fault) → HasShape shape.Map bs → d.why ≢ wrong_struct_format → pair_head_at f levels bs ≡ Err d → any_item levels l bs ≡ Err d
  unfolding byte_at
  pair_head_stops f levels [] d shaped other is = absurd shaped
  pair_head_stops f zero (b ∷ mid) d shaped other is = pair_is zero b mid d shaped (too_deep_behind mid ∙ same_fault _ d is)
  pair_head_stops f (suc left) (b ∷ mid) d shaped other is = pair_is (suc left) b mid d shaped (key_behind f left mid d other is)

  -- its key
  pub pair_key_stops : (f : Formats) (levels left : ℕ) (bs key : List ℕ) (d : Fault) → HasShape shape.Map bs → levels ≡ left + 1 → pair_head_at f levels bs ≡ Ok (tt, key) → any_item left l key ≡ Err d → any_item levels l bs ≡ Err d
  unfolding byte_at
  pair_key_stops f levels left [] key d shaped level is stops = absurd shaped
  pair_key_stops f zero left (b ∷ mid) key d shaped level is stops = absurd cc
  pair_key_stops f (suc inner) left (b ∷ mid) key d shaped level is stops =
      let same : left ≡ inner = omega (arith, level) in
      pair_is (suc inner) b mid d shaped (key_read f inner mid key d is (subst (λ (n : ℕ). any_item n l key ≡ Err d) same stops))

  value_read : (f : Formats) (left : ℕ) (mid key rest : List ℕ) (v : Val) (d : Fault) → key_front f mid ≡ Ok (tt, key) → any_item left l key ≡ Ok (v, rest) → any_item left l rest ≡ Err d → one_pair (suc left) mid ≡ Err d
  unfolding map_at parts_by next_at pair_at key_at
  value_read f left [] key rest v d front is stops = absurd cc
  value_read f left (k ∷ mid) key rest v d front is stops =
      let here : any_item left l (k ∷ mid) ≡ Ok (v, rest) = subst (λ (from : List ℕ). any_item left l from ≡ Ok (v, rest)) (sym (by (may_begin_key f k) front)) is in
      rw (all_begin k, here, stops) refl
    where
      by : (may : Bool) → cond {A = Reads (Unit {0})} may (Ok (tt, k ∷ mid)) (Err (before wrong_struct_format (k ∷ mid))) ≡ Ok (tt, key) → k ∷ mid ≡ key
      by true is = ap (λ (p : Unit {0} × List ℕ). p.1) (ok_is (tt, k ∷ mid) (tt, key) is)
      by false is = absurd cc

  -- its value
  pub pair_value_stops : (f : Formats) (levels left : ℕ) (bs key rest : List ℕ) (v : Val) (d : Fault) → HasShape shape.Map bs → levels ≡ left + 1 → pair_head_at f levels bs ≡ Ok (tt, key) → any_item left l key ≡ Ok (v, rest) → any_item left l rest ≡ Err d → any_item levels l bs ≡ Err d
  unfolding byte_at
  pair_value_stops f levels left [] key rest v d shaped level is read stops = absurd shaped
  pair_value_stops f zero left (b ∷ mid) key rest v d shaped level is read stops = absurd cc
  pair_value_stops f (suc inner) left (b ∷ mid) key rest v d shaped level is read stops =
      let same : left ≡ inner = omega (arith, level) in
      pair_is (suc inner) b mid d shaped (value_read f inner mid key rest v d is (subst (λ (n : ℕ). any_item n l key ≡ Ok (v, rest)) same read) (subst (λ (n : ℕ). any_item n l rest ≡ Err d) same stops))
