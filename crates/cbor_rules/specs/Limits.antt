-- Items whose arrays, maps and strings are no longer than they may be.
use Rattle.std.specs.Prelude.{◌≡◌, ◌↔◌, ◌≤◌, ℕ, length, Some}
use Rattle.cbor_model.specs.Raw.{Raw, Raws, no_raws, raw, RawPairs, no_raw_pairs, raw_pair, bytes}
use Rattle.cbor_model.specs.Raw.{text, bytes_chunks, text_chunks, joined, array, map, tag, count}
use Rattle.cbor_model.specs.Raw.{pair_count}
use Rattle.cbor_rules.specs.Rules.{Terms, KeepsRule}
use Rattle.cbor_rules.specs.declared.settings.Rule.TheVariants.{MostItems, MostPairs, MostBytes}

-- The item meets P, and so does each item in it.
abbrev mutual
  pub EachItem : (Raw → Type 0) → Raw → Type 0
  EachItem P (array l rs) = P (array l rs) × EachOfAll P rs
  EachItem P (map l ps) = P (map l ps) × EachOfPairs P ps
  EachItem P (tag w n r) = P (tag w n r) × EachItem P r
  EachItem P r = P r

  pub EachOfAll : (Raw → Type 0) → Raws → Type 0
  EachOfAll P no_raws = Unit {0}
  EachOfAll P (raw r rs) = EachItem P r × EachOfAll P rs

  pub EachOfPairs : (Raw → Type 0) → RawPairs → Type 0
  EachOfPairs P no_raw_pairs = Unit {0}
  EachOfPairs P (raw_pair k v ps) = EachItem P k × EachItem P v × EachOfPairs P ps

-- an array has so many items at the most
abbrev pub HasFewItems : ℕ → Raw → Type 0
HasFewItems most (array l rs) = count rs ≤ most
HasFewItems most _ = Unit {0}

-- a map has so many pairs at the most
abbrev pub HasFewPairs : ℕ → Raw → Type 0
HasFewPairs most (map l ps) = pair_count ps ≤ most
HasFewPairs most _ = Unit {0}

-- a string has so many bytes at the most, its chunks joined
abbrev pub HasFewBytes : ℕ → Raw → Type 0
HasFewBytes most (bytes c) = length c.bytes ≤ most
HasFewBytes most (text c) = length c.bytes ≤ most
HasFewBytes most (bytes_chunks cs) = length (joined cs) ≤ most
HasFewBytes most (text_chunks cs) = length (joined cs) ≤ most
HasFewBytes most _ = Unit {0}

-- The rule is kept exactly where each array in the item has as many items at the most.
abbrev pub ItemsAreFew : Type 0
ItemsAreFew = (terms : Terms) (item : Raw) (most : ℕ) → terms.rules.most_items ≡ Some most
    → KeepsRule terms MostItems item ↔ EachItem (HasFewItems most) item

-- Likewise of the pairs of each map.
abbrev pub PairsAreFew : Type 0
PairsAreFew = (terms : Terms) (item : Raw) (most : ℕ) → terms.rules.most_pairs ≡ Some most
    → KeepsRule terms MostPairs item ↔ EachItem (HasFewPairs most) item

-- Likewise of the bytes of each string.
abbrev pub BytesAreFew : Type 0
BytesAreFew = (terms : Terms) (item : Raw) (most : ℕ) → terms.rules.most_bytes ≡ Some most
    → KeepsRule terms MostBytes item ↔ EachItem (HasFewBytes most) item
