-- For which items memory may be asked to read a struct of named fields.
use Rattle.std.specs.Prelude.{◌⊎◌, ℕ, zero, suc, true, false, [], ◌∷◌}
use Rattle.std.proofs.Common.{inl, inr}
use Rattle.cbor_model.specs.Head.{no_bytes}
use Rattle.cbor_model.specs.Raw as raw
use Rattle.cbor_model.specs.Raw.{Raw, RawPairs, no_raw_pairs, raw_pair, definite}
use Rattle.cbor_model.specs.Readable.{untagged}
use Rattle.cbor_read.specs.Source.{Asks}
use Rattle.cbor_decode.specs.HasChunks.{AsksWhere, HasChunks}
use Rattle.cbor_decode_as.specs.Strings.{IsAskedString}
use Rattle.cbor_de.specs.Structs.{IsField}
use Rattle.cbor_de.specs.declared.field.Field.{Field}
use Rattle.cbor_de.specs.declared.field.Field.TheVariants.{Known, Unknown}

-- of one of the pairs P holds
abbrev pub SomePair : (Raw → Raw → Type 0) → RawPairs → Type 0
SomePair P no_raw_pairs = ⊥
SomePair P (raw_pair k v rs) = P k v ⊎ SomePair P rs

-- the item is a map, of one of whose pairs P holds
abbrev pub InMap : (Raw → Raw → Type 0) → Raw → Type 0
InMap P (raw.map l rs) = SomePair P rs
InMap P _ = ⊥

-- an item that is passed over, in any place: where it has a string in chunks
abbrev pub passed_over : Asks → ℕ → Raw → Type 0
passed_over a i r = AsksWhere a (HasChunks r)

-- the first field's value as this says, and those of the others as that does
abbrev pub field_then : (Raw → Type 0) → (ℕ → Raw → Type 0) → ℕ → Raw → Type 0
field_then first others zero r = first r
field_then first others (suc i) r = others i r

-- the value of this field, by its place; of none it is passed over
abbrev pub AsksForValue : Asks → (ℕ → Raw → Type 0) → Field → Raw → Type 0
AsksForValue a values (Known i) r = values i r
AsksForValue a values Unknown r = AsksWhere a (HasChunks r)

-- the name that the key is, or the value of the field that it means
abbrev pub AsksForPair : (Raw → Field → Type 0) → Asks → (ℕ → Raw → Type 0) → Raw → Raw → Type 0
AsksForPair keyed a values k v =
    IsAskedString a k ⊎ ((field : Field) × keyed k field × AsksForValue a values field v)

-- Memory may be asked for to read the struct: for one of its map's pairs, within tags.
abbrev pub AsksForFields : (Raw → Field → Type 0) → Asks → (ℕ → Raw → Type 0) → Raw → Type 0
AsksForFields keyed a values r = InMap (AsksForPair keyed a values) (untagged r)

-- ---- examples

-- {0: 7}, of a field for which none is asked: a slice asks for none
number_asks_none : AsksForFields (IsField ((0x61 ∷ []) ∷ [])) (record { whole = false; joined = true }) (field_then (λ r. ⊥) (λ i r. ⊥))
    (raw.map (definite no_bytes) (raw_pair (raw.unsigned no_bytes 0) (raw.unsigned no_bytes 7) no_raw_pairs)) → ⊥
number_asks_none (inl (inl name)) = name.string
number_asks_none (inl (inr (Known zero, named, value))) = value
number_asks_none (inl (inr (Known (suc i), named, value))) = value
number_asks_none (inl (inr (Unknown, named, value))) = absurd cc
number_asks_none (inr none) = none
