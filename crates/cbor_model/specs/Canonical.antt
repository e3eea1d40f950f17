-- Which values are storable and ordered, and the one canonical spelling of a value.
use Rattle.std.specs.Prelude.{◌≡◌, ℕ, ◌^◌, ◌<◌, List, [], ◌∷◌, length, Bool, true, false, ℤ, pos}
use Rattle.std.specs.Prelude.{negsuc, refl}
use Rattle.std.specs.declared.cmp.Ordering.TheVariants.{Less}
use Rattle.cbor_model.specs.Head.{least}
use Rattle.cbor_model.specs.Raw as raw
use Rattle.cbor_model.specs.Raw.{Raw, Raws, no_raws, RawPairs, no_raw_pairs, raw_pair, Simple}
use Rattle.cbor_model.specs.Raw.{false_item, true_item, null_item, half, Chunk}
use Rattle.cbor_model.specs.Spelling.{spell}
use Rattle.cbor_model.specs.Plain.{Val, null, bool, integer, float, bytes, text, array, map, tag}
use Rattle.cbor_model.specs.Plain.{Vals, no_vals, val, Pairs, no_pairs, pair}
use Rattle.cbor_model.specs.Order.{val_cmp}

-- from -2^64 to 2^64 - 1
abbrev pub IsStorableInteger : ℤ → Type 0
IsStorableInteger (pos n) = n < 2 ^ 64
IsStorableInteger (negsuc n) = n < 2 ^ 64

-- each integer in the value is one that CBOR stores
abbrev mutual
  pub IsStorable : Val → Type 0
  IsStorable (integer z) = IsStorableInteger z
  IsStorable (array vs) = AreStorable vs
  IsStorable (map ps) = ArePairsStorable ps
  IsStorable (tag n v) = IsStorable v
  IsStorable _ = Unit {0}

  pub AreStorable : Vals → Type 0
  AreStorable no_vals = Unit {0}
  AreStorable (val v vs) = IsStorable v × AreStorable vs

  pub ArePairsStorable : Pairs → Type 0
  ArePairsStorable no_pairs = Unit {0}
  ArePairsStorable (pair k v ps) = IsStorable k × IsStorable v × ArePairsStorable ps

-- the key stands before the first of the pairs
abbrev pub IsBelow : Val → Pairs → Type 0
IsBelow k no_pairs = Unit {0}
IsBelow k (pair l w ps) = val_cmp k l ≡ Less

-- the keys strictly ascend
abbrev pub KeysAscend : Pairs → Type 0
KeysAscend no_pairs = Unit {0}
KeysAscend (pair k v ps) = IsBelow k ps × KeysAscend ps

-- the keys of each map in the value strictly ascend
abbrev mutual
  pub IsOrdered : Val → Type 0
  IsOrdered (array vs) = AreOrdered vs
  IsOrdered (map ps) = ArePairsOrdered ps
  IsOrdered (tag n v) = IsOrdered v
  IsOrdered _ = Unit {0}

  pub AreOrdered : Vals → Type 0
  AreOrdered no_vals = Unit {0}
  AreOrdered (val v vs) = IsOrdered v × AreOrdered vs

  pub ArePairsOrdered : Pairs → Type 0
  ArePairsOrdered no_pairs = Unit {0}
  ArePairsOrdered (pair k v ps) = IsBelow k ps × IsOrdered k × IsOrdered v × ArePairsOrdered ps

-- a definite string whose length has its least width
abbrev pub chunk_of : List ℕ → Chunk
chunk_of b = record { width = least (length b); bytes = b }

abbrev pub canonical_bool : Bool → Simple
canonical_bool false = false_item
canonical_bool true = true_item

abbrev pub canonical_integer : ℤ → Raw
canonical_integer (pos n) = raw.unsigned (least n) n
canonical_integer (negsuc n) = raw.negative (least n) n

-- The canonical item: definite lengths, least widths, a map's pairs as listed, floats in their
-- width.
unfoldable mutual
  pub canonical : Val → Raw
  canonical null = raw.simple null_item
  canonical (bool b) = raw.simple (canonical_bool b)
  canonical (integer z) = canonical_integer z
  canonical (float w bits) = raw.float w bits
  canonical (bytes b) = raw.bytes (chunk_of b)
  canonical (text b) = raw.text (chunk_of b)
  canonical (array vs) =
      raw.array (raw.definite (least (raw.count (canonical_all vs)))) (canonical_all vs)
  canonical (map ps) =
      raw.map (raw.definite (least (raw.pair_count (canonical_pairs ps)))) (canonical_pairs ps)
  canonical (tag n v) = raw.tag (least n) n (canonical v)

  pub canonical_all : Vals → Raws
  canonical_all no_vals = no_raws
  canonical_all (val v vs) = raw.raw (canonical v) (canonical_all vs)

  pub canonical_pairs : Pairs → RawPairs
  canonical_pairs no_pairs = no_raw_pairs
  canonical_pairs (pair k v ps) = raw_pair (canonical k) (canonical v) (canonical_pairs ps)

-- The canonical spelling.
unfoldable pub canon : Val → List ℕ
canon v = spell (canonical v)

-- ---- examples

thousand : canon (integer (pos 1000)) ≡ 0x19 ∷ 0x03 ∷ 0xe8 ∷ []
unfolding canon canonical spell
thousand = refl

-- -2^64
least_integer : canon (integer (negsuc (0xffff_ffff_ffff_ffff)))
    ≡ 0x3b ∷ 0xff ∷ 0xff ∷ 0xff ∷ 0xff ∷ 0xff ∷ 0xff ∷ 0xff ∷ 0xff ∷ []
unfolding canon canonical spell
least_integer = refl

-- [1, {2: null}]
nested : canon (array
    (val (integer (pos 1)) (val (map (pair (integer (pos 2)) null no_pairs)) no_vals)))
    ≡ 0x82 ∷ 0x01 ∷ 0xa1 ∷ 0x02 ∷ 0xf6 ∷ []
unfolding canon canonical spell
nested = refl

-- the float 1.0 of 16 bits
float_kept : canon (float half 0x3c00) ≡ 0xf9 ∷ 0x3c ∷ 0x00 ∷ []
unfolding canon canonical spell
float_kept = refl
