-- The pairs of a map, one after the other.
use Rattle.std.proofs.Common.{◌≡◌, ℕ, suc, ◌<◌, Bool, List, [], ◌∷◌, ◌++◌, length, Option, Some, None, Ok, Err, refl, sym, ap, subst, ◌∙◌, arith}
use Rattle.std.specs.BTreeMap.{insert_entry}
use Rattle.std.specs.declared.cmp.Ordering.{Ordering}
use Rattle.cbor_model.specs.Formats.{Formats, may_begin_key}
use Rattle.cbor_model.specs.Raw.{Raw, RawPairs, no_raw_pairs, raw_pair}
use Rattle.cbor_model.specs.Refusal.{end_in_map}
use Rattle.cbor_model.specs.Reader.{Reads, ◌>>=◌, Remaining, go_on, next_at, key_at, pair_at, parts_by, pairs_of, item_at}
use Rattle.cbor_model.proofs.facts.Reader.{ok_is, bind_ok, taken, next_taken, pair_taken, parts_by-fuel, key_read}
use Rattle.cbor_decode.specs.Gives.{Limits}
use Rattle.cbor_decode_as.specs.MapAccesses.{pairs_at, IsNextKey, IsMapEnd, IsKey}
use Rattle.cbor_decode_as.specs.Maps.{ArePairsRead, AreEntries, put_all}
use Rattle.cbor_decode_as.specs.Takes.{raws, IsRead, IsNotRead}

-- ---- lists of pairs

-- these pairs, and then those
abbrev pub append_pairs : List (Raw × Raw) → RawPairs → RawPairs
append_pairs [] rs = rs
append_pairs (p ∷ front) rs = raw_pair p.0 p.1 (append_pairs front rs)

append_pushed : (front : List (Raw × Raw)) (k v : Raw) (rs : RawPairs) → append_pairs (front ++ (k, v) ∷ []) rs ≡ append_pairs front (raw_pair k v rs)
append_pushed [] k v rs = refl
append_pushed (p ∷ front) k v rs = ap (raw_pair p.0 p.1) (append_pushed front k v rs)

-- what was read before, and what is still read
abbrev pub with_pairs : List (Raw × Raw) → Reads RawPairs → Reads RawPairs
with_pairs front read = read >>= λ x. Ok (append_pairs front x.0, x.1)

no_pairs_before : (read : Reads RawPairs) → with_pairs [] read ≡ read
no_pairs_before (Ok x) = refl
no_pairs_before (Err f) = refl

regroup_pairs : (front : List (Raw × Raw)) (k v : Raw) (read : Reads RawPairs) → with_pairs front (read >>= λ x. Ok (raw_pair k v x.0, x.1)) ≡ with_pairs (front ++ (k, v) ∷ []) read
regroup_pairs front k v (Ok x) = ap (λ (rs : RawPairs). Ok (rs, x.1)) (sym (append_pushed front k v x.0))
regroup_pairs front k v (Err f) = refl

-- after the front
record BehindPairs (front : List (Raw × Raw)) (read : Reads RawPairs) (rs : RawPairs) (rest : List ℕ) : Type 0 where
  more : RawPairs
  is : read ≡ Ok (more, rest)
  same : rs ≡ append_pairs front more

behind_pairs : (front : List (Raw × Raw)) (read : Reads RawPairs) (rs : RawPairs) (rest : List ℕ) → with_pairs front read ≡ Ok (rs, rest) → BehindPairs front read rs rest
behind_pairs front (Ok x) rs rest is =
    let both = ok_is (append_pairs front x.0, x.1) (rs, rest) is in
    record { more = x.0; is = ap (λ (p : RawPairs × List ℕ). Ok (x.0, p.1)) both; same = sym (ap (λ (p : RawPairs × List ℕ). p.0) both) }
behind_pairs front (Err f) rs rest is = absurd cc

-- ---- a pair, and those after it

-- what stands at the front of the pairs that are read
pub data FirstPair (allows : ℕ → Bool) (p : List ℕ → Reads Raw) (n : Reads (Option Remaining)) (rs : RawPairs) (rest : List ℕ) : Type 0 where
  last : n ≡ Ok (None, rest) → rs ≡ no_raw_pairs → FirstPair allows p n rs rest
  another : (behind : Remaining) (start : List ℕ) (k : Raw) (mid : List ℕ) (v : Raw) (after : List ℕ) (more : RawPairs)
      → n ≡ Ok (Some behind, start) → key_at allows p start ≡ Ok (k, mid) → p mid ≡ Ok (v, after) → rs ≡ raw_pair k v more → FirstPair allows p n rs rest

module _ (f : Formats) (l : Limits) (p : List ℕ → Reads Raw) where
  abbrev paired : (Remaining → List ℕ → Reads RawPairs) → Option Remaining × List ℕ → Reads RawPairs
  paired others next = go_on (pairs_of (raws f l) p) others next.0 next.1

  abbrev First : Reads (Option Remaining) → RawPairs → List ℕ → Type 0
  First n rs rest = FirstPair (may_begin_key f) p n rs rest

  -- with this pair before
  abbrev put_first : Raw × Raw → RawPairs × List ℕ → Reads RawPairs
  put_first q x = Ok (raw_pair q.0 q.1 x.0, x.1)

  abbrev then_others : (Remaining → List ℕ → Reads RawPairs) → Remaining → (Raw × Raw) × List ℕ → Reads RawPairs
  then_others others behind first = others behind first.1 >>= put_first first.0

  -- with this key before
  abbrev put_key : Raw → Raw × List ℕ → Reads (Raw × Raw)
  put_key k v = Ok ((k, v.0), v.1)

  abbrev then_value : Raw × List ℕ → Reads (Raw × Raw)
  then_value k = p k.1 >>= put_key k.0

  pair_known : (n : Reads (Option Remaining)) (behind : Remaining) (start : List ℕ) (k v : Raw × List ℕ) (q : (Raw × Raw) × List ℕ) (o : RawPairs × List ℕ) (rs : RawPairs) (rest : List ℕ)
      → n ≡ Ok (Some behind, start) → key_at (may_begin_key f) p start ≡ Ok k → p k.1 ≡ Ok v → put_key k.0 v ≡ Ok q → put_first q.0 o ≡ Ok (rs, rest) → First n rs rest
  pair_known n behind start k v q o rs rest is key value pair whole =
      let both = ok_is ((k.0, v.0), v.1) q pair in
      let all = ok_is (raw_pair q.0.0 q.0.1 o.0, o.1) (rs, rest) whole in
      let same : raw_pair q.0.0 q.0.1 o.0 ≡ raw_pair k.0 v.0 o.0 = ap (λ (x : (Raw × Raw) × List ℕ). raw_pair x.0.0 x.0.1 o.0) (sym both) in
      another behind start k.0 k.1 v.0 v.1 o.0 is key value (sym (ap (λ (x : RawPairs × List ℕ). x.0) all) ∙ same)

  pair_first : (n : Reads (Option Remaining)) (behind : Remaining) (start : List ℕ) (others : Remaining → List ℕ → Reads RawPairs) (rs : RawPairs) (rest : List ℕ)
      → n ≡ Ok (Some behind, start) → (pair_at (may_begin_key f) p start >>= then_others others behind) ≡ Ok (rs, rest) → First n rs rest
  unfolding pair_at
  pair_first n behind start others rs rest is e =
      let a = bind_ok (pair_at (may_begin_key f) p start) (then_others others behind) (rs, rest) e in
      let k = bind_ok (key_at (may_begin_key f) p start) then_value a.0 a.1 in
      let v = bind_ok (p k.0.1) (put_key k.0.0) a.0 k.2 in
      let o = bind_ok (others behind a.0.1) (put_first a.0.0) (rs, rest) a.2 in
      pair_known n behind start k.0 v.0 a.0 o.0 rs rest is k.1 v.1 v.2 o.2

  first_of : (n : Reads (Option Remaining)) (others : Remaining → List ℕ → Reads RawPairs) (rs : RawPairs) (rest : List ℕ) → (n >>= paired others) ≡ Ok (rs, rest) → First n rs rest
  first_of (Err g) others rs rest e = absurd cc
  first_of (Ok (None, bs)) others rs rest e =
      let both = ok_is (no_raw_pairs, bs) (rs, rest) e in
      last (ap (λ (p : RawPairs × List ℕ). Ok (None, p.1)) both) (sym (ap (λ (p : RawPairs × List ℕ). p.0) both))
  first_of (Ok (Some behind, start)) others rs rest e = pair_first (Ok (Some behind, start)) behind start others rs rest refl e

-- The next pair is read as k and v.
pub record IsNextPair {K V : Type 0} (keys : Raw → K → Type 0) (values : Raw → V → Type 0) (f : Formats) (levels : ℕ) (remaining behind : Remaining) (k : K) (v : V) (l : Limits) (bs rest : List ℕ) : Type 0 where
  pub mid : List ℕ
  pub key : IsNextKey keys f levels remaining behind k l bs mid
  pub value : IsRead values (item_at (raws f l) levels mid) v rest

module _ (f : Formats) (l : Limits) (levels : ℕ) where
  pub first_pair : (r : Remaining) (bs : List ℕ) (rs : RawPairs) (rest : List ℕ) → pairs_at f l levels r bs ≡ Ok (rs, rest) → FirstPair (may_begin_key f) (item_at (raws f l) levels) (next_at end_in_map r bs) rs rest
  unfolding parts_by
  first_pair r bs rs rest is = first_of f l (item_at (raws f l) levels) (next_at end_in_map r bs) (parts_by (pairs_of (raws f l) (item_at (raws f l) levels)) (length bs)) rs rest is

  -- a pair takes a byte
  pub pair_moves : {K V : Type 0} (keys : Raw → K → Type 0) (values : Raw → V → Type 0) (r behind : Remaining) (k : K) (v : V) (bs rest : List ℕ) → IsNextPair keys values f levels r behind k v l bs rest → length rest < length bs
  pair_moves keys values r behind k v bs rest h =
      let m = raws f l in
      let start = h.key.start in
      let read = key_read (may_begin_key f) (item_at m levels) start (h.key.key.item, h.mid) h.key.key.is in
      omega (arith, taken m levels start (h.key.key.item, h.mid) read.1, taken m levels h.mid (h.value.item, rest) h.value.is, next_taken end_in_map r bs (Some behind, start) h.key.next)

-- ---- the pairs so far

-- The pairs before were read, of which P holds, and those that remain are the rest of all.
pub record PairsSoFar (P : List (Raw × Raw) → Type 0) (f : Formats) (levels : ℕ) (all remaining : Remaining) (l : Limits) (bs rest : List ℕ) : Type 0 where
  pub front : List (Raw × Raw)
  pub holds : P front
  pub same : with_pairs front (pairs_at f l levels remaining rest) ≡ pairs_at f l levels all bs

module _ (P : List (Raw × Raw) → Type 0) (f : Formats) (levels : ℕ) (all : Remaining) where
  pub pairs_begin : (l : Limits) (bs : List ℕ) → P [] → PairsSoFar P f levels all all l bs bs
  pairs_begin l bs holds = record { front = []; holds = holds; same = no_pairs_before (pairs_at f l levels all bs) }

  pub pairs_go_on : {K V : Type 0} (keys : Raw → K → Type 0) (values : Raw → V → Type 0) (k : K) (v : V) (Q : List (Raw × Raw) → Type 0)
      → ((front : List (Raw × Raw)) (a b : Raw) → P front → keys a k → values b v → Q (front ++ (a, b) ∷ []))
      → (r behind : Remaining) (l : Limits) (bs mid rest : List ℕ) → PairsSoFar P f levels all r l bs mid → IsNextPair keys values f levels r behind k v l mid rest → PairsSoFar Q f levels all behind l bs rest
  unfolding parts_by pair_at
  pairs_go_on keys values k v Q on r behind l bs mid rest h n =
      let m = raws f l in
      let p = item_at m levels in
      let ps = pairs_of m p in
      let a = n.key.key.item in
      let b = n.value.item in
      let shorter : length rest < length mid = pair_moves f l levels keys values r behind k v mid rest n in
      let fuel = parts_by-fuel ps (pair_taken m.allows p (taken m levels)) (length mid) (suc (length rest)) behind rest shorter (omega arith) in
      let one : with_pairs h.front (pairs_at f l levels r mid) ≡ with_pairs (h.front ++ (a, b) ∷ []) (pairs_at f l levels behind rest) =
      rw (n.key.next, n.key.key.is, n.value.is) (regroup_pairs h.front a b (parts_by ps (length mid) behind rest) ∙ ap (with_pairs (h.front ++ (a, b) ∷ [])) fuel) in
      record { front = h.front ++ (a, b) ∷ []; holds = on h.front a b h.holds n.key.key.means n.value.means; same = sym one ∙ h.same }

  -- all pairs were read
  pub record PairsDone (l : Limits) (bs rest : List ℕ) : Type 0 where
    pub front : List (Raw × Raw)
    pub holds : P front
    pub is : pairs_at f l levels all bs ≡ Ok (append_pairs front no_raw_pairs, rest)

  pub pairs_end : (r : Remaining) (l : Limits) (bs mid rest : List ℕ) → PairsSoFar P f levels all r l bs mid → IsMapEnd r l mid rest → PairsDone l bs rest
  unfolding parts_by
  pairs_end r l bs mid rest h e =
      let one : with_pairs h.front (pairs_at f l levels r mid) ≡ Ok (append_pairs h.front no_raw_pairs, rest) = rw e refl in
      record { front = h.front; holds = h.holds; is = sym h.same ∙ one }

  -- what remains, where all are known
  pub record PairsRest (r : Remaining) (l : Limits) (mid rest : List ℕ) (rs : RawPairs) : Type 0 where
    pub front : List (Raw × Raw)
    pub holds : P front
    pub more : RawPairs
    pub is : pairs_at f l levels r mid ≡ Ok (more, rest)
    pub same : rs ≡ append_pairs front more

  pub pairs_rest : (r : Remaining) (l : Limits) (bs mid rest : List ℕ) (rs : RawPairs) → PairsSoFar P f levels all r l bs mid → pairs_at f l levels all bs ≡ Ok (rs, rest) → PairsRest r l mid rest rs
  pairs_rest r l bs mid rest rs h is =
      let b = behind_pairs h.front (pairs_at f l levels r mid) rs rest (h.same ∙ is) in
      record { front = h.front; holds = h.holds; more = b.more; is = b.is; same = b.same }

-- ---- what can't be

-- neither a key that is read nor the end comes
abbrev pub NoKey : {K : Type 0} → (Raw → K → Type 0) → Formats → ℕ → Remaining → Limits → List ℕ → Type 0
NoKey {K} keys f levels r l bs = (next : Option K) (after : Remaining) (rest : List ℕ) → IsKey keys f levels r after next l bs rest → ⊥

-- a key comes that is read, and no value after it
pub record NoValue {V : Type 0} (values : Raw → V → Type 0) (f : Formats) (levels : ℕ) (r : Remaining) (l : Limits) (bs : List ℕ) : Type 0 where
  pub behind : Remaining
  pub start : List ℕ
  pub key : Raw
  pub mid : List ℕ
  pub next : next_at end_in_map r bs ≡ Ok (Some behind, start)
  pub is : key_at (may_begin_key f) (item_at (raws f l) levels) start ≡ Ok (key, mid)
  pub none : IsNotRead values (item_at (raws f l) levels mid)

-- a pair that is read stands at the front of these, or none at all
abbrev pub PairMayFollow : {K V : Type 0} → (Raw → K → Type 0) → (Raw → V → Type 0) → RawPairs → Type 0
PairMayFollow keys values no_raw_pairs = Unit {0}
PairMayFollow {K} {V} keys values (raw_pair k v rs) = ((x : K) × keys k x) × ((y : V) × values v y)

module _ {K V : Type 0} (keys : Raw → K → Type 0) (values : Raw → V → Type 0) (f : Formats) (levels : ℕ) (r : Remaining) (l : Limits) (bs : List ℕ) where
  pub no_key_rest : NoKey keys f levels r l bs → (rs : RawPairs) (rest : List ℕ) → pairs_at f l levels r bs ≡ Ok (rs, rest) → PairMayFollow keys values rs → ⊥
  no_key_rest none rs rest is follows = elim (first_pair f l levels r bs rs rest is) [
    | last n e ↦ none None r rest n
    | another behind start a mid b after more n key value e ↦
        let x : PairMayFollow keys values (raw_pair a b more) = subst (PairMayFollow keys values) e follows in
        none (Some x.0.0) behind mid (record { start = start; next = n; key = record { item = a; is = key; means = x.0.1 } })
  ]

  some_is : (x y : Remaining) → Some x ≡ Some y → x ≡ y
  some_is x y e = cc

  no_some : (x : Remaining) → Some x ≡ None → ⊥
  no_some x e = absurd cc

  pub no_value_rest : NoValue values f levels r l bs → (rs : RawPairs) (rest : List ℕ) → pairs_at f l levels r bs ≡ Ok (rs, rest) → PairMayFollow keys values rs → ⊥
  no_value_rest h rs rest is follows = elim (first_pair f l levels r bs rs rest is) [
    | last n e ↦ no_some h.behind (ap (λ (p : Option Remaining × List ℕ). p.0) (ok_is (Some h.behind, h.start) (None, rest) (sym h.next ∙ n)))
    | another behind start a mid b after more n key value e ↦
        let x : PairMayFollow keys values (raw_pair a b more) = subst (PairMayFollow keys values) e follows in
        let here = ap (λ (p : Option Remaining × List ℕ). p.1) (ok_is (Some behind, start) (Some h.behind, h.start) (sym n ∙ h.next)) in
        let key' : key_at (may_begin_key f) (item_at (raws f l) levels) h.start ≡ Ok (a, mid) = subst (λ (bs : List ℕ). key_at (may_begin_key f) (item_at (raws f l) levels) bs ≡ Ok (a, mid)) here key in
        let at = ap (λ (p : Raw × List ℕ). p.1) (ok_is (a, mid) (h.key, h.mid) (sym key' ∙ h.is)) in
        h.none x.1.0 after (record { item = b; is = subst (λ (bs : List ℕ). item_at (raws f l) levels bs ≡ Ok (b, after)) at value; means = x.1.1 })
  ]

-- ---- entries

-- the entries of pairs, and of another
pub put_pushed : {K V : Type 0} (cmp : K → K → Ordering) (es ps : List (K × V)) (k : K) (v : V) → put_all cmp es (ps ++ (k, v) ∷ []) ≡ insert_entry cmp (put_all cmp es ps) k v
put_pushed cmp es [] k v = refl
put_pushed cmp es (p ∷ ps) k v = put_pushed cmp (insert_entry cmp es p.0 p.1) ps k v

module _ {K V : Type 0} (keys : Raw → K → Type 0) (values : Raw → V → Type 0) where
  -- a key and a value for each pair
  abbrev pub EachPair : List (K × V) → List (Raw × Raw) → Type 0
  EachPair [] [] = Unit {0}
  EachPair [] (r ∷ rs) = ⊥
  EachPair (x ∷ xs) [] = ⊥
  EachPair (x ∷ xs) (r ∷ rs) = keys r.0 x.0 × values r.1 x.1 × EachPair xs rs

  pub each_pushed : (xs : List (K × V)) (rs : List (Raw × Raw)) (k : K) (v : V) (a b : Raw) → EachPair xs rs → keys a k → values b v → EachPair (xs ++ (k, v) ∷ []) (rs ++ (a, b) ∷ [])
  each_pushed [] [] k v a b h key value = (key, value, tt)
  each_pushed [] (q ∷ rs) k v a b h key value = absurd h
  each_pushed (y ∷ xs) [] k v a b h key value = absurd h
  each_pushed (y ∷ xs) (q ∷ rs) k v a b h key value = (h.0, h.1, each_pushed xs rs k v a b h.2 key value)

  each_whole : (xs : List (K × V)) (rs : List (Raw × Raw)) → EachPair xs rs → ArePairsRead keys values (append_pairs rs no_raw_pairs) xs
  each_whole [] [] h = tt
  each_whole [] (q ∷ rs) h = absurd h
  each_whole (y ∷ xs) [] h = absurd h
  each_whole (y ∷ xs) (q ∷ rs) h = (h.0, h.1, each_whole xs rs h.2)

  -- after some pairs the rest is read as well
  rest_of : (front : List (Raw × Raw)) (more : RawPairs) (ys : List (K × V)) → ArePairsRead keys values (append_pairs front more) ys → (zs : List (K × V)) × ArePairsRead keys values more zs
  rest_of [] more ys h = (ys, h)
  rest_of (r ∷ front) more [] h = absurd h
  rest_of (r ∷ front) more (y ∷ ys) h = rest_of front more ys h.2

  follow : (more : RawPairs) (zs : List (K × V)) → ArePairsRead keys values more zs → PairMayFollow keys values more
  follow no_raw_pairs zs h = tt
  follow (raw_pair a b rs) [] h = absurd h
  follow (raw_pair a b rs) (z ∷ zs) h = ((z.0, h.0), (z.1, h.1))

  module _ (cmp : K → K → Ordering) where
    -- the pairs before make these entries
    pub record Made (entries : List (K × V)) (front : List (Raw × Raw)) : Type 0 where
      pub pairs : List (K × V)
      pub each : EachPair pairs front
      pub put : entries ≡ put_all cmp [] pairs

    pub none_made : (entries : List (K × V)) → entries ≡ [] → Made entries []
    none_made entries is = record { pairs = []; each = tt; put = is }

    pub made_more : (old new : List (K × V)) (k : K) (v : V) → new ≡ insert_entry cmp old k v
        → (front : List (Raw × Raw)) (a b : Raw) → Made old front → keys a k → values b v → Made new (front ++ (a, b) ∷ [])
    made_more old new k v is front a b h key value = record {
      pairs = h.pairs ++ (k, v) ∷ [];
      each = each_pushed h.pairs front k v a b h.each key value;
      put = is ∙ ap (λ (es : List (K × V)). insert_entry cmp es k v) h.put ∙ sym (put_pushed cmp [] h.pairs k v);
    }

    pub made_all : (entries : List (K × V)) (front : List (Raw × Raw)) → Made entries front → AreEntries cmp keys values (append_pairs front no_raw_pairs) entries
    made_all entries front h = record { pairs = h.pairs; read = each_whole h.pairs front h.each; put = h.put }

    pub may_follow_made : (front : List (Raw × Raw)) (more : RawPairs) (entries : List (K × V)) → AreEntries cmp keys values (append_pairs front more) entries → PairMayFollow keys values more
    may_follow_made front more entries h =
        let w = rest_of front more h.pairs h.read in
        follow more w.0 w.1
