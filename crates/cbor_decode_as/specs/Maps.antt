-- What maps are read as.
use Rattle.std.specs.Prelude.{◌≡◌, ℕ, List, [], ◌∷◌, pos, refl}
use Rattle.std.specs.BTreeMap.{insert_entry}
use Rattle.std.specs.Ordering.{nat_cmp}
use Rattle.std.specs.declared.cmp.Ordering.{Ordering}
use Rattle.cbor_model.specs.Head.{no_bytes, one_byte}
use Rattle.cbor_model.specs.Raw as raw
use Rattle.cbor_model.specs.Raw.{Raw, RawPairs, no_raw_pairs, raw_pair}
use Rattle.cbor_model.specs.Readable.{IsInteger}

-- a map, whose pairs are read as this
abbrev pub AsMap : {A : Type 0} → (RawPairs → A → Type 0) → Raw → A → Type 0
AsMap pairs (raw.map l rs) x = pairs rs x
AsMap pairs _ x = ⊥

-- each key and each value is read as those of the pair in its place
abbrev pub ArePairsRead : {K V : Type 0} → (Raw → K → Type 0) → (Raw → V → Type 0) → RawPairs
    → List (K × V) → Type 0
ArePairsRead keys values no_raw_pairs [] = Unit {0}
ArePairsRead keys values no_raw_pairs (p ∷ ps) = ⊥
ArePairsRead keys values (raw_pair k v rs) [] = ⊥
ArePairsRead keys values (raw_pair k v rs) (p ∷ ps) =
    keys k p.0 × values v p.1 × ArePairsRead keys values rs ps

-- the entries, with these pairs put in one after the other: of equal keys the last value stands
abbrev pub put_all : {K V : Type 0} → (K → K → Ordering) → List (K × V) → List (K × V)
    → List (K × V)
put_all cmp entries [] = entries
put_all cmp entries (p ∷ ps) = put_all cmp (insert_entry cmp entries p.0 p.1) ps

-- Each key and each value is read, and these entries are made of them.
pub record AreEntries {K V : Type 0} (cmp : K → K → Ordering) (keys : Raw → K → Type 0) (values : Raw → V → Type 0) (rs : RawPairs) (entries : List (K × V)) : Type 0 where
  pub pairs : List (K × V)
  pub read : ArePairsRead keys values rs pairs
  pub put : entries ≡ put_all cmp [] pairs

-- ---- laws

-- what pairs are read as, each map of them is read as
pub as_map_same : {A : Type 0} (one two : RawPairs → A → Type 0)
    → ((rs : RawPairs) (x : A) → one rs x → two rs x)
    → (r : Raw) (x : A) → AsMap one r x → AsMap two r x
as_map_same one two on (raw.unsigned w n) x h = h
as_map_same one two on (raw.negative w n) x h = h
as_map_same one two on (raw.bytes c) x h = h
as_map_same one two on (raw.text c) x h = h
as_map_same one two on (raw.bytes_chunks cs) x h = h
as_map_same one two on (raw.text_chunks cs) x h = h
as_map_same one two on (raw.array l rs) x h = h
as_map_same one two on (raw.map l rs) x h = on rs x h
as_map_same one two on (raw.tag w n r) x h = h
as_map_same one two on (raw.simple s) x h = h
as_map_same one two on (raw.float w bits) x h = h

module _ {K V : Type 0} (keys keys' : Raw → K → Type 0) (values values' : Raw → V → Type 0) (same_keys : (r : Raw) (k : K) → keys r k → keys' r k) (same_values : (r : Raw) (v : V) → values r v → values' r v) where
  pub are_pairs_read_same : (rs : RawPairs) (ps : List (K × V)) → ArePairsRead keys values rs ps
      → ArePairsRead keys' values' rs ps
  are_pairs_read_same no_raw_pairs [] h = h
  are_pairs_read_same no_raw_pairs (p ∷ ps) h = h
  are_pairs_read_same (raw_pair k v rs) [] h = h
  are_pairs_read_same (raw_pair k v rs) (p ∷ ps) h =
      (same_keys k p.0 h.0, same_values v p.1 h.1, are_pairs_read_same rs ps h.2)

pub are_entries_same : {K V : Type 0} (cmp : K → K → Ordering) (keys keys' : Raw → K → Type 0)
    (values values' : Raw → V → Type 0)
    → ((r : Raw) (k : K) → keys r k → keys' r k) → ((r : Raw) (v : V) → values r v → values' r v)
    → (rs : RawPairs) (entries : List (K × V)) → AreEntries cmp keys values rs entries
    → AreEntries cmp keys' values' rs entries
are_entries_same cmp keys keys' values values' same_keys same_values rs entries h = record {
  pairs = h.pairs;
  read = are_pairs_read_same keys keys' values values' same_keys same_values rs h.pairs h.read;
  put = h.put;
}

-- ---- examples

-- a number from 0
abbrev IsNumber : Raw → ℕ → Type 0
IsNumber r n = IsInteger r (pos n)

-- {1: 2, 1: 3}, the second key with a longer head, makes one entry, of the last value
last_stands : AreEntries {K = ℕ} {V = ℕ} nat_cmp IsNumber IsNumber
    (raw_pair (raw.unsigned no_bytes 1) (raw.unsigned no_bytes 2)
    (raw_pair (raw.unsigned one_byte 1) (raw.unsigned no_bytes 3) no_raw_pairs))
    ((1, 3) ∷ [])
last_stands = record {
  pairs = (1, 2) ∷ (1, 3) ∷ [];
  read = (refl, refl, (refl, refl, tt));
  put = refl;
}

-- {3: 1, 2: 1} makes entries in the order of the keys
in_order : put_all {K = ℕ} {V = ℕ} nat_cmp [] ((3, 1) ∷ (2, 1) ∷ []) ≡ (2, 1) ∷ (3, 1) ∷ []
in_order = refl
