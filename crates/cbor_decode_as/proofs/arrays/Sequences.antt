-- The items of an array, one after the other.
use Rattle.std.proofs.Common.{◌≡◌, ℕ, suc, ◌+◌, ◌<◌, List, [], ◌∷◌, ◌++◌, length, Option, Some, None, Ok, Err, refl, sym, ap, subst, ◌∙◌, arith}
use Rattle.cbor_model.specs.Formats.{Formats}
use Rattle.cbor_model.specs.Raw as raw
use Rattle.cbor_model.specs.Raw.{Raw, Raws, no_raws}
use Rattle.cbor_model.specs.Refusal.{end_in_array}
use Rattle.cbor_model.specs.Reader.{Reads, ◌>>=◌, Remaining, go_on, next_at, parts_by, items_of, item_at}
use Rattle.cbor_model.proofs.facts.Reader.{ok_is, taken, next_taken, parts_by-fuel}
use Rattle.cbor_decode.specs.Gives.{Limits}
use Rattle.cbor_decode_as.specs.Accesses.{items_at, IsNextItem, IsEnd, IsNext}
use Rattle.cbor_decode_as.specs.Arrays.{AreRead, AreNone}
use Rattle.cbor_decode_as.specs.Takes.{raws}

-- ---- lists of items

-- these items, and then those
abbrev pub append : List Raw → Raws → Raws
append [] rs = rs
append (r ∷ front) rs = raw.raw r (append front rs)

pub append-push : (front : List Raw) (r : Raw) (rs : Raws) → append (front ++ r ∷ []) rs ≡ append front (raw.raw r rs)
append-push [] r rs = refl
append-push (q ∷ front) r rs = ap (raw.raw q) (append-push front r rs)

-- what was read before, and what is still read
abbrev pub with_front : List Raw → Reads Raws → Reads Raws
with_front front read = read >>= λ x. Ok (append front x.0, x.1)

nothing : (read : Reads Raws) → with_front [] read ≡ read
nothing (Ok x) = refl
nothing (Err f) = refl

regroup : (front : List Raw) (r : Raw) (read : Reads Raws) → with_front front (read >>= λ x. Ok (raw.raw r x.0, x.1)) ≡ with_front (front ++ r ∷ []) read
regroup front r (Ok x) = ap (λ (rs : Raws). Ok (rs, x.1)) (sym (append-push front r x.0))
regroup front r (Err f) = refl

-- after the front
record Behind (front : List Raw) (read : Reads Raws) (rs : Raws) (rest : List ℕ) : Type 0 where
  more : Raws
  is : read ≡ Ok (more, rest)
  same : rs ≡ append front more

behind_front : (front : List Raw) (read : Reads Raws) (rs : Raws) (rest : List ℕ) → with_front front read ≡ Ok (rs, rest) → Behind front read rs rest
behind_front front (Ok x) rs rest is =
    let both = ok_is (append front x.0, x.1) (rs, rest) is in
    record { more = x.0; is = ap (λ (p : Raws × List ℕ). Ok (x.0, p.1)) both; same = sym (ap (λ (p : Raws × List ℕ). p.0) both) }
behind_front front (Err f) rs rest is = absurd cc

-- ---- a part, and those after it

-- what stands at the front of the items that are read
pub data First (p : List ℕ → Reads Raw) (n : Reads (Option Remaining)) (rs : Raws) (rest : List ℕ) : Type 0 where
  last : n ≡ Ok (None, rest) → rs ≡ no_raws → First p n rs rest
  another : (behind : Remaining) (start : List ℕ) (r : Raw) (after : List ℕ) (more : Raws) → n ≡ Ok (Some behind, start) → p start ≡ Ok (r, after) → rs ≡ raw.raw r more → First p n rs rest

module _ (f : Formats) (l : Limits) (p : List ℕ → Reads Raw) where
  abbrev parted : (Remaining → List ℕ → Reads Raws) → Option Remaining × List ℕ → Reads Raws
  parted others next = go_on (items_of (raws f l) p) others next.0 next.1

  -- with this item before
  abbrev put_first : Raw → Raws × List ℕ → Reads Raws
  put_first r x = Ok (raw.raw r x.0, x.1)

  -- the items that follow the first
  others_first : (n : Reads (Option Remaining)) (behind : Remaining) (start : List ℕ) (r : Raw) (after : List ℕ) (others : Reads Raws) (rs : Raws) (rest : List ℕ)
      → n ≡ Ok (Some behind, start) → p start ≡ Ok (r, after) → (others >>= put_first r) ≡ Ok (rs, rest) → First p n rs rest
  others_first n behind start r after (Err g) rs rest is item e = absurd cc
  others_first n behind start r after (Ok x) rs rest is item e =
      another behind start r after x.0 is item (sym (ap (λ (p : Raws × List ℕ). p.0) (ok_is (raw.raw r x.0, x.1) (rs, rest) e)))

  item_first : (n : Reads (Option Remaining)) (behind : Remaining) (start : List ℕ) (item : Reads Raw) (others : Remaining → List ℕ → Reads Raws) (rs : Raws) (rest : List ℕ)
      → n ≡ Ok (Some behind, start) → p start ≡ item → (item >>= (λ first. others behind first.1 >>= put_first first.0)) ≡ Ok (rs, rest) → First p n rs rest
  item_first n behind start (Err g) others rs rest is item e = absurd cc
  item_first n behind start (Ok r) others rs rest is item e = others_first n behind start r.0 r.1 (others behind r.1) rs rest is item e

  first_of : (n : Reads (Option Remaining)) (others : Remaining → List ℕ → Reads Raws) (rs : Raws) (rest : List ℕ) → (n >>= parted others) ≡ Ok (rs, rest) → First p n rs rest
  first_of (Err g) others rs rest e = absurd cc
  first_of (Ok (None, bs)) others rs rest e =
      let both = ok_is (no_raws, bs) (rs, rest) e in
      last (ap (λ (p : Raws × List ℕ). Ok (None, p.1)) both) (sym (ap (λ (p : Raws × List ℕ). p.0) both))
  first_of (Ok (Some behind, start)) others rs rest e = item_first (Ok (Some behind, start)) behind start (p start) others rs rest refl refl e

module _ (f : Formats) (l : Limits) (levels : ℕ) where
  pub first_item : (r : Remaining) (bs : List ℕ) (rs : Raws) (rest : List ℕ) → items_at f l levels r bs ≡ Ok (rs, rest) → First (item_at (raws f l) levels) (next_at end_in_array r bs) rs rest
  unfolding parts_by
  first_item r bs rs rest is = first_of f l (item_at (raws f l) levels) (next_at end_in_array r bs) (parts_by (items_of (raws f l) (item_at (raws f l) levels)) (length bs)) rs rest is

  -- an item takes a byte
  pub item_moves : {A : Type 0} (reads : Raw → A → Type 0) (r behind : Remaining) (x : A) (bs rest : List ℕ) → IsNextItem reads f levels r behind x l bs rest → length rest < length bs
  item_moves reads r behind x bs rest h =
      omega (arith, taken (raws f l) levels h.start (h.item.item, rest) h.item.is, next_taken end_in_array r bs (Some behind, h.start) h.next)

-- ---- the items so far

-- The items before were read, of which P holds, and those that remain are the rest of all.
pub record SoFar (P : List Raw → Type 0) (f : Formats) (levels : ℕ) (all remaining : Remaining) (l : Limits) (bs rest : List ℕ) : Type 0 where
  pub front : List Raw
  pub holds : P front
  pub same : with_front front (items_at f l levels remaining rest) ≡ items_at f l levels all bs

pub so_far_map : (P Q : List Raw → Type 0) (f : Formats) (levels : ℕ) (all r : Remaining) (l : Limits) (bs rest : List ℕ) → ((front : List Raw) → P front → Q front) → SoFar P f levels all r l bs rest → SoFar Q f levels all r l bs rest
so_far_map P Q f levels all r l bs rest on h = record { front = h.front; holds = on h.front h.holds; same = h.same }

module _ (P : List Raw → Type 0) (f : Formats) (levels : ℕ) (all : Remaining) where
  pub begins : (l : Limits) (bs : List ℕ) → P [] → SoFar P f levels all all l bs bs
  begins l bs holds = record { front = []; holds = holds; same = nothing (items_at f l levels all bs) }

  pub goes_on : {A : Type 0} (reads : Raw → A → Type 0) (x : A) (Q : List Raw → Type 0) → ((front : List Raw) (r : Raw) → P front → reads r x → Q (front ++ r ∷ []))
      → (r behind : Remaining) (l : Limits) (bs mid rest : List ℕ) → SoFar P f levels all r l bs mid → IsNextItem reads f levels r behind x l mid rest → SoFar Q f levels all behind l bs rest
  unfolding parts_by
  goes_on reads x Q on r behind l bs mid rest h n =
      let m = raws f l in
      let ps = items_of m (item_at m levels) in
      let i = n.item in
      let shorter : length rest < length mid = item_moves f l levels reads r behind x mid rest n in
      let fuel = parts_by-fuel ps (taken m levels) (length mid) (suc (length rest)) behind rest shorter (omega arith) in
      let one : with_front h.front (items_at f l levels r mid) ≡ with_front (h.front ++ i.item ∷ []) (items_at f l levels behind rest) =
      rw (n.next, i.is) (regroup h.front i.item (parts_by ps (length mid) behind rest) ∙ ap (with_front (h.front ++ i.item ∷ [])) fuel) in
      record { front = h.front ++ i.item ∷ []; holds = on h.front i.item h.holds i.means; same = sym one ∙ h.same }

  -- all items were read
  pub record ItemsRead (l : Limits) (bs rest : List ℕ) : Type 0 where
    pub front : List Raw
    pub holds : P front
    pub is : items_at f l levels all bs ≡ Ok (append front no_raws, rest)

  pub is_done : (r : Remaining) (l : Limits) (bs mid rest : List ℕ) → SoFar P f levels all r l bs mid → IsEnd r l mid rest → ItemsRead l bs rest
  unfolding parts_by
  is_done r l bs mid rest h e =
      let one : with_front h.front (items_at f l levels r mid) ≡ Ok (append h.front no_raws, rest) = rw e refl in
      record { front = h.front; holds = h.holds; is = sym h.same ∙ one }

  -- what remains, where all are known
  pub record Rest (r : Remaining) (l : Limits) (mid rest : List ℕ) (rs : Raws) : Type 0 where
    pub front : List Raw
    pub holds : P front
    pub more : Raws
    pub is : items_at f l levels r mid ≡ Ok (more, rest)
    pub same : rs ≡ append front more

  pub rest_of : (r : Remaining) (l : Limits) (bs mid rest : List ℕ) (rs : Raws) → SoFar P f levels all r l bs mid → items_at f l levels all bs ≡ Ok (rs, rest) → Rest r l mid rest rs
  rest_of r l bs mid rest rs h is =
      let b = behind_front h.front (items_at f l levels r mid) rs rest (h.same ∙ is) in
      record { front = h.front; holds = h.holds; more = b.more; is = b.is; same = b.same }

-- ---- what can't be

-- neither an item that is read nor the end comes
abbrev pub NoNext : {A : Type 0} → (Raw → A → Type 0) → Formats → ℕ → Remaining → Limits → List ℕ → Type 0
NoNext {A} reads f levels r l bs = (next : Option A) (after : Remaining) (rest : List ℕ) → IsNext reads f levels r after next l bs rest → ⊥

-- an item that is read stands at the front of these, or none at all
abbrev pub MayFollow : {A : Type 0} → (Raw → A → Type 0) → Raws → Type 0
MayFollow reads no_raws = Unit {0}
MayFollow {A} reads (raw.raw r rs) = (x : A) × reads r x

pub no_rest : {A : Type 0} (reads : Raw → A → Type 0) (f : Formats) (levels : ℕ) (r : Remaining) (l : Limits) (bs : List ℕ) → NoNext reads f levels r l bs → (rs : Raws) (rest : List ℕ) → items_at f l levels r bs ≡ Ok (rs, rest) → MayFollow reads rs → ⊥
no_rest {A = A} reads f levels r l bs none rs rest is follows = elim (first_item f l levels r bs rs rest is) [
  | last n e ↦ none None r rest n
  | another behind start i after more n item e ↦
      let x : (x : A) × reads i x = subst (MayFollow reads) e follows in
      none (Some x.0) behind after (record { start = start; next = n; item = record { item = i; is = item; means = x.1 } })
]

-- an item that is read stands at the front of these
abbrev pub MustFollow : {A : Type 0} → (Raw → A → Type 0) → Raws → Type 0
MustFollow reads no_raws = ⊥
MustFollow {A} reads (raw.raw r rs) = (x : A) × reads r x

pub no_part_rest : {A : Type 0} (reads : Raw → A → Type 0) (f : Formats) (levels : ℕ) (r : Remaining) (l : Limits) (bs : List ℕ) → ((x : A) (after : Remaining) (rest : List ℕ) → IsNextItem reads f levels r after x l bs rest → ⊥)
    → (rs : Raws) (rest : List ℕ) → items_at f l levels r bs ≡ Ok (rs, rest) → MustFollow reads rs → ⊥
no_part_rest {A = A} reads f levels r l bs none rs rest is follows = elim (first_item f l levels r bs rs rest is) [
  | last n e ↦ subst (MustFollow reads) e follows
  | another behind start i after more n item e ↦
      let x : (x : A) × reads i x = subst (MustFollow reads) e follows in
      none x.0 behind after (record { start = start; next = n; item = record { item = i; is = item; means = x.1 } })
]

-- after the end nothing is read
pub no_end_rest : (f : Formats) (levels : ℕ) (r : Remaining) (l : Limits) (bs : List ℕ) → ((rest : List ℕ) → IsEnd r l bs rest → ⊥) → (rs : Raws) (rest : List ℕ) → items_at f l levels r bs ≡ Ok (rs, rest) → AreNone rs → ⊥
no_end_rest f levels r l bs none rs rest is empty = elim (first_item f l levels r bs rs rest is) [
  | last n e ↦ none rest n
  | another behind start i after more n item e ↦ subst AreNone e empty
]

-- ---- each item is read as each value

module _ {A : Type 0} (reads : Raw → A → Type 0) where
  -- a value for each item
  abbrev pub EachRead : List A → List Raw → Type 0
  EachRead [] [] = Unit {0}
  EachRead [] (r ∷ rs) = ⊥
  EachRead (x ∷ xs) [] = ⊥
  EachRead (x ∷ xs) (r ∷ rs) = reads r x × EachRead xs rs

  pub each_none : (xs : List A) → xs ≡ [] → EachRead xs []
  each_none [] is = tt
  each_none (x ∷ xs) is = absurd cc

  pub each_more : (xs : List A) (rs : List Raw) (x : A) (r : Raw) → EachRead xs rs → reads r x → EachRead (xs ++ x ∷ []) (rs ++ r ∷ [])
  each_more [] [] x r h k = (k, tt)
  each_more [] (q ∷ rs) x r h k = absurd h
  each_more (y ∷ xs) [] x r h k = absurd h
  each_more (y ∷ xs) (q ∷ rs) x r h k = (h.0, each_more xs rs x r h.1 k)

  pub each_all : (xs : List A) (rs : List Raw) → EachRead xs rs → AreRead reads (append rs no_raws) xs
  each_all [] [] h = tt
  each_all [] (q ∷ rs) h = absurd h
  each_all (y ∷ xs) [] h = absurd h
  each_all (y ∷ xs) (q ∷ rs) h = (h.0, each_all xs rs h.1)

  pub each_length : (xs : List A) (rs : List Raw) → EachRead xs rs → length rs ≡ length xs
  each_length [] [] h = refl
  each_length [] (q ∷ rs) h = absurd h
  each_length (y ∷ xs) [] h = absurd h
  each_length (y ∷ xs) (q ∷ rs) h = ap suc (each_length xs rs h.1)

  -- after some items the rest is read as well
  pub rest_read : (front : List Raw) (more : Raws) (ys : List A) → AreRead reads (append front more) ys → (zs : List A) × AreRead reads more zs × (length ys ≡ length front + length zs)
  rest_read [] more ys h = (ys, h, omega arith)
  rest_read (r ∷ front) more [] h = absurd h
  rest_read (r ∷ front) more (y ∷ ys) h =
      let (zs, k, n) = rest_read front more ys h.1 in
      (zs, k, omega (arith, n))

  pub none_of_none : (more : Raws) (zs : List A) → AreRead reads more zs → length zs ≡ 0 → AreNone more
  none_of_none no_raws zs h n = tt
  none_of_none (raw.raw r rs) [] h n = absurd h
  none_of_none (raw.raw r rs) (z ∷ zs) h n = absurd (omega (arith, n))

  pub must_follow : (more : Raws) (zs : List A) → AreRead reads more zs → 0 < length zs → MustFollow reads more
  must_follow no_raws [] h n = absurd (omega (arith, n))
  must_follow no_raws (z ∷ zs) h n = absurd h
  must_follow (raw.raw r rs) [] h n = absurd h
  must_follow (raw.raw r rs) (z ∷ zs) h n = (z, h.0)

  pub may_follow : (more : Raws) (zs : List A) → AreRead reads more zs → MayFollow reads more
  may_follow no_raws zs h = tt
  may_follow (raw.raw r rs) [] h = absurd h
  may_follow (raw.raw r rs) (z ∷ zs) h = (z, h.0)
