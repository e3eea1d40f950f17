-- A limit is kept exactly where each item is within it.
use Rattle.std.proofs.Common.{◌≡◌, ℕ, suc, ◌+◌, ◌<◌, ◌≤◌, false, List, [], ◌∷◌, ◌++◌, length, Option, Some, refl, sym, subst, arith}
use Rattle.std.specs.List.{AllByRecursion}
use Rattle.std.proofs.lemmas.Bool.{leb-false, lt-leb, le-ltb, ltb-false}
use Rattle.std.proofs.lemmas.List.{length-append}
use Rattle.cbor_model.specs.Head.{HeadWidth}
use Rattle.cbor_model.specs.Raw as raw
use Rattle.cbor_model.specs.Raw.{Length, Chunk, joined, definite, indefinite, Raw, Raws, no_raws, RawPairs, no_raw_pairs, raw_pair, count, pair_count}
use Rattle.cbor_model.specs.Spelling.{spell, chunk}
use Rattle.cbor_rules.specs.Features.{number, indefinite_length, simple_item, float_bits, Place, place, key, nth_item, chunk_to, head_end, chunk_places, features, all_features, open_features, pair_features}
use Rattle.cbor_rules.specs.Limits.{EachItem, EachOfAll, EachOfPairs, HasFewItems, HasFewPairs, HasFewBytes, ItemsAreFew, PairsAreFew, BytesAreFew}
use Rattle.cbor_rules.specs.Rules.{Terms, breaks, exceeds, is_reached}
use Rattle.cbor_rules.specs.declared.settings.Rule.{Rule}
use Rattle.cbor_rules.specs.declared.settings.Rule.TheVariants.{MostItems, MostPairs, MostBytes}

-- ---- limits

within_limit : (o : Option ℕ) (most n : ℕ) → o ≡ Some most → exceeds o n ≡ false → n ≤ most
within_limit o most n is kept = ltb-false most n (subst (λ (o : Option ℕ). exceeds o n ≡ false) is kept)

below_limit : (o : Option ℕ) (most n : ℕ) → o ≡ Some most → is_reached o n ≡ false → n < most
below_limit o most n is kept = leb-false most n (subst (λ (o : Option ℕ). is_reached o n ≡ false) is kept)

kept_within : (o : Option ℕ) (most n : ℕ) → o ≡ Some most → n ≤ most → exceeds o n ≡ false
kept_within o most n is le = subst (λ (o : Option ℕ). exceeds o n ≡ false) (sym is) (le-ltb most n le)

kept_below : (o : Option ℕ) (most n : ℕ) → o ≡ Some most → n < most → is_reached o n ≡ false
kept_below o most n is lt = subst (λ (o : Option ℕ). is_reached o n ≡ false) (sym is) (lt-leb most n lt)

-- ---- each item

module _ (terms : Terms) (rule : Rule) where
  abbrev AreKept : List Place → Type 0
  AreKept = AllByRecursion (λ (p : Place). breaks terms rule p.feature ≡ false)

  first_kept : (ps qs : List Place) → AreKept (ps ++ qs) → AreKept ps
  first_kept [] qs all = tt
  first_kept (p ∷ ps) qs all = (all.0, first_kept ps qs all.1)

  rest_kept : (ps qs : List Place) → AreKept (ps ++ qs) → AreKept qs
  rest_kept [] qs all = all
  rest_kept (p ∷ ps) qs all = rest_kept ps qs all.1

  both_kept : (ps qs : List Place) → AreKept ps → AreKept qs → AreKept (ps ++ qs)
  both_kept [] qs all others = others
  both_kept (p ∷ ps) qs all others = (all.0, both_kept ps qs all.1 others)

  module _ (P : Raw → Type 0) (one : (at : ℕ) (r : Raw) → AreKept (features at r) → P r) where
    mutual
      unfolding features

      each : (at : ℕ) (r : Raw) → AreKept (features at r) → EachItem P r
      each at (raw.unsigned w n) kept = one at (raw.unsigned w n) kept
      each at (raw.negative w n) kept = one at (raw.negative w n) kept
      each at (raw.bytes c) kept = one at (raw.bytes c) kept
      each at (raw.text c) kept = one at (raw.text c) kept
      each at (raw.bytes_chunks cs) kept = one at (raw.bytes_chunks cs) kept
      each at (raw.text_chunks cs) kept = one at (raw.text_chunks cs) kept
      each at (raw.array (definite w) rs) kept = (one at (raw.array (definite w) rs) kept, each_of_all (head_end at 4 w (count rs)) rs kept.1)
      each at (raw.array indefinite rs) kept = (one at (raw.array indefinite rs) kept, each_of_open (suc at) 0 rs kept.1)
      each at (raw.map (definite w) ps) kept = (one at (raw.map (definite w) ps) kept, each_of_pairs (head_end at 5 w (pair_count ps)) [] ps kept.1)
      each at (raw.map indefinite ps) kept = (one at (raw.map indefinite ps) kept, each_of_pairs (suc at) [] ps kept.1)
      each at (raw.tag w n r) kept = (one at (raw.tag w n r) kept, each (head_end at 6 w n) r kept.1)
      each at (raw.simple s) kept = one at (raw.simple s) kept
      each at (raw.float w bits) kept = one at (raw.float w bits) kept

      each_of_all : (at : ℕ) (rs : Raws) → AreKept (all_features at rs) → EachOfAll P rs
      each_of_all at no_raws kept = tt
      each_of_all at (raw.raw r rs) kept =
          let more = all_features (at + length (spell r)) rs in
          (each at r (first_kept (features at r) more kept), each_of_all (at + length (spell r)) rs (rest_kept (features at r) more kept))

      each_of_open : (at earlier : ℕ) (rs : Raws) → AreKept (open_features at earlier rs) → EachOfAll P rs
      each_of_open at earlier no_raws kept = tt
      each_of_open at earlier (raw.raw r rs) kept =
          let more = place (at + length (spell r)) (nth_item earlier) ∷ open_features (at + length (spell r)) (earlier + 1) rs in
          (each at r (first_kept (features at r) more kept), each_of_open (at + length (spell r)) (earlier + 1) rs (rest_kept (features at r) more kept).1)

      each_of_pairs : (at : ℕ) (earlier : List (List ℕ)) (ps : RawPairs) → AreKept (pair_features at earlier ps) → EachOfPairs P ps
      each_of_pairs at earlier no_raw_pairs kept = tt
      each_of_pairs at earlier (raw_pair k v ps) kept =
          let name = spell k in
          let here = at + length name in
          let there = here + length (spell v) in
          let others = pair_features there (name ∷ earlier) ps in
          let behind = place here (key earlier name) ∷ (features here v ++ others) in
          let rest = rest_kept (features at k) behind kept in (
            each at k (first_kept (features at k) behind kept),
            each here v (first_kept (features here v) others rest.1),
            each_of_pairs there (name ∷ earlier) ps (rest_kept (features here v) others rest.1),
          )

-- what an item that meets P shows of itself
record Shows (terms : Terms) (rule : Rule) (P : Raw → Type 0) : Type 0 where
  array_head : (w : HeadWidth) (rs : Raws) → P (raw.array (definite w) rs) → breaks terms rule (number 4 w (count rs)) ≡ false
  item : (rs : Raws) → P (raw.array indefinite rs) → (earlier : ℕ) → earlier < count rs → breaks terms rule (nth_item earlier) ≡ false
  map_head : (w : HeadWidth) (ps : RawPairs) → P (raw.map (definite w) ps) → breaks terms rule (number 5 w (pair_count ps)) ≡ false
  pair : (l : Length) (ps : RawPairs) → P (raw.map l ps) → (earlier : List (List ℕ)) (k : List ℕ) → length earlier < pair_count ps → breaks terms rule (key earlier k) ≡ false
  open_head : breaks terms rule indefinite_length ≡ false
  tag_head : (w : HeadWidth) (n : ℕ) → breaks terms rule (number 6 w n) ≡ false
  unsigned_head : (w : HeadWidth) (n : ℕ) → breaks terms rule (number 0 w n) ≡ false
  negative_head : (w : HeadWidth) (n : ℕ) → breaks terms rule (number 1 w n) ≡ false
  bytes_head : (c : Chunk) → P (raw.bytes c) → breaks terms rule (number 2 c.width (length c.bytes)) ≡ false
  text_head : (c : Chunk) → P (raw.text c) → breaks terms rule (number 3 c.width (length c.bytes)) ≡ false
  bytes_parts : (at : ℕ) (cs : List Chunk) → P (raw.bytes_chunks cs) → AreKept terms rule (chunk_places at 2 0 cs)
  text_parts : (at : ℕ) (cs : List Chunk) → P (raw.text_chunks cs) → AreKept terms rule (chunk_places at 3 0 cs)
  plain : (s : raw.Simple) → breaks terms rule (simple_item s) ≡ false
  floats : (w : raw.FloatWidth) (bits : ℕ) → breaks terms rule (float_bits w bits) ≡ false

module _ (terms : Terms) (rule : Rule) (P : Raw → Type 0) (shows : Shows terms rule P) where
  mutual
    unfolding features

    back : (at : ℕ) (r : Raw) → EachItem P r → AreKept terms rule (features at r)
    back at (raw.unsigned w n) all = (shows.unsigned_head w n, tt)
    back at (raw.negative w n) all = (shows.negative_head w n, tt)
    back at (raw.bytes c) all = (shows.bytes_head c all, tt)
    back at (raw.text c) all = (shows.text_head c all, tt)
    back at (raw.bytes_chunks cs) all = (shows.open_head, shows.bytes_parts (suc at) cs all)
    back at (raw.text_chunks cs) all = (shows.open_head, shows.text_parts (suc at) cs all)
    back at (raw.array (definite w) rs) all = (shows.array_head w rs all.0, back_all (head_end at 4 w (count rs)) rs all.1)
    back at (raw.array indefinite rs) all = (shows.open_head, back_open (suc at) 0 rs (count rs) (shows.item rs all.0) (omega arith) all.1)
    back at (raw.map (definite w) ps) all = (shows.map_head w ps all.0, back_pairs (head_end at 5 w (pair_count ps)) [] ps (pair_count ps) (shows.pair (definite w) ps all.0) (omega arith) all.1)
    back at (raw.map indefinite ps) all = (shows.open_head, back_pairs (suc at) [] ps (pair_count ps) (shows.pair indefinite ps all.0) (omega arith) all.1)
    back at (raw.tag w n r) all = (shows.tag_head w n, back (head_end at 6 w n) r all.1)
    back at (raw.simple s) all = (shows.plain s, tt)
    back at (raw.float w bits) all = (shows.floats w bits, tt)

    back_all : (at : ℕ) (rs : Raws) → EachOfAll P rs → AreKept terms rule (all_features at rs)
    back_all at no_raws all = tt
    back_all at (raw.raw r rs) all =
        both_kept terms rule (features at r) (all_features (at + length (spell r)) rs) (back at r all.0) (back_all (at + length (spell r)) rs all.1)

    back_open : (at earlier : ℕ) (rs : Raws) (n : ℕ) → ((earlier : ℕ) → earlier < n → breaks terms rule (nth_item earlier) ≡ false) → earlier + count rs ≤ n → EachOfAll P rs → AreKept terms rule (open_features at earlier rs)
    back_open at earlier no_raws n nth le all = tt
    back_open at earlier (raw.raw r rs) n nth le all =
        let here = at + length (spell r) in
        both_kept terms rule (features at r) (place here (nth_item earlier) ∷ open_features here (earlier + 1) rs) (back at r all.0)
        (nth earlier (omega (arith, le)), back_open here (earlier + 1) rs n nth (omega (arith, le)) all.1)

    back_pairs : (at : ℕ) (earlier : List (List ℕ)) (ps : RawPairs) (n : ℕ) → ((earlier : List (List ℕ)) (k : List ℕ) → length earlier < n → breaks terms rule (key earlier k) ≡ false) → length earlier + pair_count ps ≤ n → EachOfPairs P ps → AreKept terms rule (pair_features at earlier ps)
    back_pairs at earlier no_raw_pairs n each_key le all = tt
    back_pairs at earlier (raw_pair k v ps) n each_key le all =
        let name = spell k in
        let here = at + length name in
        let there = here + length (spell v) in
        let others = pair_features there (name ∷ earlier) ps in
        both_kept terms rule (features at k) (place here (key earlier name) ∷ (features here v ++ others)) (back at k all.0) (
          each_key earlier name (omega (arith, le)),
          both_kept terms rule (features here v) others (back here v all.1) (back_pairs there (name ∷ earlier) ps n each_key (omega (arith, le)) all.2),
        )

-- the chunks of a string, by what breaks no rule
module _ (terms : Terms) (rule : Rule) (major : ℕ) where
  all_chunks : (each : (w : HeadWidth) (n : ℕ) → breaks terms rule (number major w n) ≡ false) (sums : (n : ℕ) → breaks terms rule (chunk_to n) ≡ false) (at sum : ℕ) (cs : List Chunk) → AreKept terms rule (chunk_places at major sum cs)
  all_chunks each sums at sum [] = tt
  all_chunks each sums at sum (c ∷ cs) = (each c.width (length c.bytes), (sums (sum + length c.bytes), all_chunks each sums (at + length (chunk major c)) (sum + length c.bytes) cs))

-- ---- the items of an array

module _ (terms : Terms) (most : ℕ) (is : terms.rules.most_items ≡ Some most) where
  few_open : (at earlier : ℕ) (rs : Raws) → earlier ≤ most → AreKept terms MostItems (open_features at earlier rs) → earlier + count rs ≤ most
  unfolding features
  few_open at earlier no_raws le kept = omega (arith, le)
  few_open at earlier (raw.raw r rs) le kept =
      let more = place (at + length (spell r)) (nth_item earlier) ∷ open_features (at + length (spell r)) (earlier + 1) rs in
      let rest = rest_kept terms MostItems (features at r) more kept in
      let lt = below_limit terms.rules.most_items most earlier is rest.0 in
      omega (arith, few_open (at + length (spell r)) (earlier + 1) rs (omega (arith, lt)) rest.1)

  few_items : (at : ℕ) (r : Raw) → AreKept terms MostItems (features at r) → HasFewItems most r
  unfolding features
  few_items at (raw.array (definite w) rs) kept = within_limit terms.rules.most_items most (count rs) is kept.0
  few_items at (raw.array indefinite rs) kept = omega (arith, few_open (suc at) 0 rs (omega arith) kept.1)
  few_items at _ kept = tt

  shown_items : Shows terms MostItems (HasFewItems most)
  shown_items = record {
    array_head = λ w rs le. kept_within terms.rules.most_items most (count rs) is le;
    item = λ rs le earlier lt. kept_below terms.rules.most_items most earlier is (omega (arith, le, lt));
    map_head = λ w ps le. refl;
    pair = λ l ps le earlier k lt. refl;
    open_head = refl;
    tag_head = λ w n. refl;
    unsigned_head = λ w n. refl;
    negative_head = λ w n. refl;
    bytes_head = λ c le. refl;
    text_head = λ c le. refl;
    bytes_parts = λ at cs le. all_chunks terms MostItems 2 (λ w n. refl) (λ n. refl) at 0 cs;
    text_parts = λ at cs le. all_chunks terms MostItems 3 (λ w n. refl) (λ n. refl) at 0 cs;
    plain = λ s. refl;
    floats = λ w bits. refl;
  }

pub items_are_few : ItemsAreFew
items_are_few terms item most is =
    (each terms MostItems (HasFewItems most) (few_items terms most is) 0 item, back terms MostItems (HasFewItems most) (shown_items terms most is) 0 item)

-- ---- the pairs of a map

module _ (terms : Terms) (most : ℕ) (is : terms.rules.most_pairs ≡ Some most) where
  few_open_pairs : (at : ℕ) (earlier : List (List ℕ)) (ps : RawPairs) → length earlier ≤ most → AreKept terms MostPairs (pair_features at earlier ps) → length earlier + pair_count ps ≤ most
  unfolding features
  few_open_pairs at earlier no_raw_pairs le kept = omega (arith, le)
  few_open_pairs at earlier (raw_pair k v ps) le kept =
      let name = spell k in
      let here = at + length name in
      let there = here + length (spell v) in
      let others = pair_features there (name ∷ earlier) ps in
      let behind = place here (key earlier name) ∷ (features here v ++ others) in
      let rest = rest_kept terms MostPairs (features at k) behind kept in
      let lt = below_limit terms.rules.most_pairs most (length earlier) is rest.0 in
      omega (arith, few_open_pairs there (name ∷ earlier) ps (omega (arith, lt)) (rest_kept terms MostPairs (features here v) others rest.1))

  few_pairs : (at : ℕ) (r : Raw) → AreKept terms MostPairs (features at r) → HasFewPairs most r
  unfolding features
  few_pairs at (raw.map (definite w) ps) kept = within_limit terms.rules.most_pairs most (pair_count ps) is kept.0
  few_pairs at (raw.map indefinite ps) kept = omega (arith, few_open_pairs (suc at) [] ps (omega arith) kept.1)
  few_pairs at _ kept = tt

  shown_pairs : Shows terms MostPairs (HasFewPairs most)
  shown_pairs = record {
    array_head = λ w rs le. refl;
    item = λ rs le earlier lt. refl;
    map_head = λ w ps le. kept_within terms.rules.most_pairs most (pair_count ps) is le;
    pair = λ l ps le earlier k lt. kept_below terms.rules.most_pairs most (length earlier) is (omega (arith, le, lt));
    open_head = refl;
    tag_head = λ w n. refl;
    unsigned_head = λ w n. refl;
    negative_head = λ w n. refl;
    bytes_head = λ c le. refl;
    text_head = λ c le. refl;
    bytes_parts = λ at cs le. all_chunks terms MostPairs 2 (λ w n. refl) (λ n. refl) at 0 cs;
    text_parts = λ at cs le. all_chunks terms MostPairs 3 (λ w n. refl) (λ n. refl) at 0 cs;
    plain = λ s. refl;
    floats = λ w bits. refl;
  }

pub pairs_are_few : PairsAreFew
pairs_are_few terms item most is =
    (each terms MostPairs (HasFewPairs most) (few_pairs terms most is) 0 item, back terms MostPairs (HasFewPairs most) (shown_pairs terms most is) 0 item)

-- ---- the bytes of a string

module _ (terms : Terms) (most : ℕ) (is : terms.rules.most_bytes ≡ Some most) where
  few_chunks : (at major sum : ℕ) (cs : List Chunk) → sum ≤ most → AreKept terms MostBytes (chunk_places at major sum cs) → sum + length (joined cs) ≤ most
  few_chunks at major sum [] le kept = omega (arith, le)
  few_chunks at major sum (c ∷ cs) le kept =
      let most_so_far = within_limit terms.rules.most_bytes most (sum + length c.bytes) is kept.1.0 in
      omega (arith, length-append c.bytes (joined cs), few_chunks (at + length (chunk major c)) major (sum + length c.bytes) cs most_so_far kept.1.1)

  few_bytes : (at : ℕ) (r : Raw) → AreKept terms MostBytes (features at r) → HasFewBytes most r
  unfolding features
  few_bytes at (raw.bytes c) kept = within_limit terms.rules.most_bytes most (length c.bytes) is kept.0
  few_bytes at (raw.text c) kept = within_limit terms.rules.most_bytes most (length c.bytes) is kept.0
  few_bytes at (raw.bytes_chunks cs) kept = omega (arith, few_chunks (suc at) 2 0 cs (omega arith) kept.1)
  few_bytes at (raw.text_chunks cs) kept = omega (arith, few_chunks (suc at) 3 0 cs (omega arith) kept.1)
  few_bytes at _ kept = tt

  -- of a string of this major type, of which each head of few bytes is kept
  kept_chunks : (major : ℕ) (head_kept : (w : HeadWidth) (n : ℕ) → n ≤ most → breaks terms MostBytes (number major w n) ≡ false) (at sum : ℕ) (cs : List Chunk) → sum + length (joined cs) ≤ most → AreKept terms MostBytes (chunk_places at major sum cs)
  kept_chunks major head_kept at sum [] le = tt
  kept_chunks major head_kept at sum (c ∷ cs) le =
      let parts = length-append c.bytes (joined cs) in (
        head_kept c.width (length c.bytes) (omega (arith, le, parts)),
        (
          kept_within terms.rules.most_bytes most (sum + length c.bytes) is (omega (arith, le, parts)),
          kept_chunks major head_kept (at + length (chunk major c)) (sum + length c.bytes) cs (omega (arith, le, parts)),
        ),
      )

  shown_bytes : Shows terms MostBytes (HasFewBytes most)
  shown_bytes = record {
    array_head = λ w rs le. refl;
    item = λ rs le earlier lt. refl;
    map_head = λ w ps le. refl;
    pair = λ l ps le earlier k lt. refl;
    open_head = refl;
    tag_head = λ w n. refl;
    unsigned_head = λ w n. refl;
    negative_head = λ w n. refl;
    bytes_head = λ c le. kept_within terms.rules.most_bytes most (length c.bytes) is le;
    text_head = λ c le. kept_within terms.rules.most_bytes most (length c.bytes) is le;
    bytes_parts = λ at cs le. kept_chunks 2 (λ w n le. kept_within terms.rules.most_bytes most n is le) at 0 cs (omega (arith, le));
    text_parts = λ at cs le. kept_chunks 3 (λ w n le. kept_within terms.rules.most_bytes most n is le) at 0 cs (omega (arith, le));
    plain = λ s. refl;
    floats = λ w bits. refl;
  }

pub bytes_are_few : BytesAreFew
bytes_are_few terms item most is =
    (each terms MostBytes (HasFewBytes most) (few_bytes terms most is) 0 item, back terms MostBytes (HasFewBytes most) (shown_bytes terms most is) 0 item)
