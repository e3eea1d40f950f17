-- Raw items (RFC 7049, sections 2.1 to 2.3): items as they are spelled, with the width of each
-- number, and with indefinite lengths and chunks apart from definite lengths.
use Rattle.std.specs.Prelude.{◌≡◌, ℕ, suc, ◌^◌, ◌<◌, max, List, [], ◌∷◌, length, slice_index}
use Rattle.std.specs.Prelude.{flat_map, refl}
use Rattle.std.specs.List.{AllByRecursion}
use Rattle.cbor_model.specs.Head.{HeadWidth, no_bytes, limit}

-- The simple values that are assigned.
pub data Simple : Type 0 where
  false_item : Simple
  true_item : Simple
  null_item : Simple
  undefined_item : Simple

-- Floats of 16, 32 and 64 bits.
pub data FloatWidth : Type 0 where
  half : FloatWidth
  single : FloatWidth
  double : FloatWidth

-- A definite string: the width of its length, and its bytes.
pub record Chunk : Type 0 where
  pub width : HeadWidth
  pub bytes : List ℕ

-- The length of an array or a map: a count that precedes its items, or a break that follows them.
pub data Length : Type 0 where
  definite : HeadWidth → Length
  indefinite : Length

mutual
  pub data Raw : Type 0 where
    unsigned : HeadWidth → ℕ → Raw
    negative : HeadWidth → ℕ → Raw
    bytes : Chunk → Raw
    text : Chunk → Raw
    bytes_chunks : List Chunk → Raw
    text_chunks : List Chunk → Raw
    array : Length → Raws → Raw
    map : Length → RawPairs → Raw
    tag : HeadWidth → ℕ → Raw → Raw
    simple : Simple → Raw
    float : FloatWidth → ℕ → Raw

  -- the items of an array
  pub data Raws : Type 0 where
    no_raws : Raws
    raw : Raw → Raws → Raws

  -- the keys and values of a map
  pub data RawPairs : Type 0 where
    no_raw_pairs : RawPairs
    raw_pair : Raw → Raw → RawPairs → RawPairs

abbrev pub count : Raws → ℕ
count no_raws = 0
count (raw r rs) = suc (count rs)

abbrev pub pair_count : RawPairs → ℕ
pair_count no_raw_pairs = 0
pair_count (raw_pair k v ps) = suc (pair_count ps)

-- the bytes of a chunked string
abbrev pub joined : List Chunk → List ℕ
joined cs = flat_map (λ c. c.bytes) cs

-- a float's bits are below this
abbrev pub float_limit : FloatWidth → ℕ
float_limit half = 2 ^ 16
float_limit single = 2 ^ 32
float_limit double = 2 ^ 64

-- each element is a byte
abbrev pub AreBytes : List ℕ → Type 0
AreBytes bs = (i : ℕ) → slice_index bs i < 256

abbrev pub IsChunk : Chunk → Type 0
IsChunk c = (length c.bytes < limit c.width) × AreBytes c.bytes

-- a count of items fits the width of the length
abbrev pub FitsLength : ℕ → Length → Type 0
FitsLength n (definite w) = n < limit w
FitsLength n indefinite = Unit {0}

-- Well formed: each number, length and count fits its width, and each float's bits fit theirs.
abbrev mutual
  pub IsWellFormed : Raw → Type 0
  IsWellFormed (unsigned w n) = n < limit w
  IsWellFormed (negative w n) = n < limit w
  IsWellFormed (bytes c) = IsChunk c
  IsWellFormed (text c) = IsChunk c
  IsWellFormed (bytes_chunks cs) = AllByRecursion IsChunk cs
  IsWellFormed (text_chunks cs) = AllByRecursion IsChunk cs
  IsWellFormed (array l rs) = FitsLength (count rs) l × AreWellFormed rs
  IsWellFormed (map l ps) = FitsLength (pair_count ps) l × ArePairsWellFormed ps
  IsWellFormed (tag w n r) = (n < limit w) × IsWellFormed r
  IsWellFormed (simple s) = Unit {0}
  IsWellFormed (float w bits) = bits < float_limit w

  pub AreWellFormed : Raws → Type 0
  AreWellFormed no_raws = Unit {0}
  AreWellFormed (raw r rs) = IsWellFormed r × AreWellFormed rs

  pub ArePairsWellFormed : RawPairs → Type 0
  ArePairsWellFormed no_raw_pairs = Unit {0}
  ArePairsWellFormed (raw_pair k v ps) = IsWellFormed k × IsWellFormed v × ArePairsWellFormed ps

-- How many arrays, maps and tags stand inside one another. Chunks don't count.
abbrev mutual
  pub depth : Raw → ℕ
  depth (array l rs) = suc (depth_all rs)
  depth (map l ps) = suc (depth_pairs ps)
  depth (tag w n r) = suc (depth r)
  depth _ = 0

  pub depth_all : Raws → ℕ
  depth_all no_raws = 0
  depth_all (raw r rs) = max (depth r) (depth_all rs)

  pub depth_pairs : RawPairs → ℕ
  depth_pairs no_raw_pairs = 0
  depth_pairs (raw_pair k v ps) = max (max (depth k) (depth v)) (depth_pairs ps)

-- The bytes of each text in the item, those of a chunked one joined, meet P.
abbrev mutual
  pub EachText : (List ℕ → Type 0) → Raw → Type 0
  EachText P (text c) = P c.bytes
  EachText P (text_chunks cs) = P (joined cs)
  EachText P (array l rs) = EachTextOfAll P rs
  EachText P (map l ps) = EachTextOfPairs P ps
  EachText P (tag w n r) = EachText P r
  EachText P _ = Unit {0}

  pub EachTextOfAll : (List ℕ → Type 0) → Raws → Type 0
  EachTextOfAll P no_raws = Unit {0}
  EachTextOfAll P (raw r rs) = EachText P r × EachTextOfAll P rs

  pub EachTextOfPairs : (List ℕ → Type 0) → RawPairs → Type 0
  EachTextOfPairs P no_raw_pairs = Unit {0}
  EachTextOfPairs P (raw_pair k v ps) = EachText P k × EachText P v × EachTextOfPairs P ps

-- Each key of each map in the item meets P.
abbrev mutual
  pub EachKey : (Raw → Type 0) → Raw → Type 0
  EachKey P (array l rs) = EachKeyOfAll P rs
  EachKey P (map l ps) = EachKeyOfPairs P ps
  EachKey P (tag w n r) = EachKey P r
  EachKey P _ = Unit {0}

  pub EachKeyOfAll : (Raw → Type 0) → Raws → Type 0
  EachKeyOfAll P no_raws = Unit {0}
  EachKeyOfAll P (raw r rs) = EachKey P r × EachKeyOfAll P rs

  pub EachKeyOfPairs : (Raw → Type 0) → RawPairs → Type 0
  EachKeyOfPairs P no_raw_pairs = Unit {0}
  EachKeyOfPairs P (raw_pair k v ps) = P k × EachKey P k × EachKey P v × EachKeyOfPairs P ps

-- The length of the longest of the item's strings in chunks, once they are joined; 0 without one.
abbrev mutual
  pub longest_joined : Raw → ℕ
  longest_joined (bytes_chunks cs) = length (joined cs)
  longest_joined (text_chunks cs) = length (joined cs)
  longest_joined (array l rs) = longest_joined_all rs
  longest_joined (map l ps) = longest_joined_pairs ps
  longest_joined (tag w n r) = longest_joined r
  longest_joined _ = 0

  pub longest_joined_all : Raws → ℕ
  longest_joined_all no_raws = 0
  longest_joined_all (raw r rs) = max (longest_joined r) (longest_joined_all rs)

  pub longest_joined_pairs : RawPairs → ℕ
  longest_joined_pairs no_raw_pairs = 0
  longest_joined_pairs (raw_pair k v ps) =
      max (max (longest_joined k) (longest_joined v)) (longest_joined_pairs ps)

-- ---- examples

-- "ab" in two chunks, and "abc" in none
longest_in_chunks : longest_joined (array indefinite
    (raw (text_chunks (
    record { width = no_bytes; bytes = 0x61 ∷ [] }
    ∷ record { width = no_bytes; bytes = 0x62 ∷ [] }
    ∷ []))
    (raw (text (record { width = no_bytes; bytes = 0x61 ∷ 0x62 ∷ 0x63 ∷ [] }))
    no_raws)))
    ≡ 2
longest_in_chunks = refl
