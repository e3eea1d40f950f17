-- Items whose maps have no key twice, and items that have a key.
use Rattle.std.specs.Prelude.{◌≡◌, ◌↔◌, ◌⊎◌, ℕ, ◌^◌, ◌<◌, List, [], ◌∷◌, length}
use Rattle.std.specs.List.{AllByRecursion}
use Rattle.cbor_model.specs.Laws.{SpellsValue}
use Rattle.cbor_model.specs.Plain.{Val}
use Rattle.cbor_model.specs.Raw.{Raw, Raws, no_raws, raw, RawPairs, no_raw_pairs, raw_pair, array}
use Rattle.cbor_model.specs.Raw.{map, tag, pair_count}
use Rattle.cbor_model.specs.Value.{value}
use Rattle.cbor_rules.specs.Rules.{Terms, KeepsRule}
use Rattle.cbor_rules.specs.declared.settings.KeyOrder.TheVariants.{Unique}
use Rattle.cbor_rules.specs.declared.settings.Rule.TheVariants.{UniqueKeys}

-- No map in the item has a value as a key twice (RFC 8949, section 5.6). Two floats of one number
-- and of different widths are two values.
abbrev mutual
  pub HasUniqueKeys : Raw → Type 0
  HasUniqueKeys (array l rs) = HaveUniqueKeys rs
  HasUniqueKeys (map l ps) = PairsHaveUniqueKeys [] ps
  HasUniqueKeys (tag w n r) = HasUniqueKeys r
  HasUniqueKeys _ = Unit {0}

  pub HaveUniqueKeys : Raws → Type 0
  HaveUniqueKeys no_raws = Unit {0}
  HaveUniqueKeys (raw r rs) = HasUniqueKeys r × HaveUniqueKeys rs

  -- of pairs after keys of these values
  pub PairsHaveUniqueKeys : List Val → RawPairs → Type 0
  PairsHaveUniqueKeys earlier no_raw_pairs = Unit {0}
  PairsHaveUniqueKeys earlier (raw_pair k v ps) =
      HasUniqueKeys k × AllByRecursion (λ e. e ≡ value k → ⊥) earlier
      × HasUniqueKeys v × PairsHaveUniqueKeys (value k ∷ earlier) ps

-- Some map in the item has a pair.
abbrev mutual
  pub HasPair : Raw → Type 0
  HasPair (array l rs) = HavePair rs
  HasPair (map l ps) = 0 < pair_count ps
  HasPair (tag w n r) = HasPair r
  HasPair _ = ⊥

  pub HavePair : Raws → Type 0
  HavePair no_raws = ⊥
  HavePair (raw r rs) = HasPair r ⊎ HavePair rs

-- An acceptable item keeps the rule of unique keys exactly where no map in it has a key twice.
abbrev pub UniqueKeysAreKept : Type 0
UniqueKeysAreKept = (terms : Terms) (bytes : List ℕ) (v : Val) → terms.rules.keys ≡ Unique
    → length bytes < 2 ^ 64 → (spelt : SpellsValue bytes v)
    → KeepsRule terms UniqueKeys spelt.item ↔ HasUniqueKeys spelt.item
