-- Where an item departs from the canonical form: each departure by the offset after the bytes that
-- show it.
use Rattle.std.specs.Prelude.{◌≡◌, ℕ, suc, ◌+◌, ◌≤◌, List, [], ◌∷◌, ◌++◌, length, take, Option, Some}
use Rattle.std.specs.Prelude.{None, nat_lt, if◌then◌else◌, refl}
use Rattle.std.specs.List.{Contains}
use Rattle.cbor_model.specs.Head.{HeadWidth, no_bytes, one_byte, two_bytes, four_bytes, eight_bytes}
use Rattle.cbor_model.specs.Head.{limit, head}
use Rattle.cbor_model.specs.Raw.{Length, definite, indefinite, Raw, Raws, no_raws, raw, RawPairs}
use Rattle.cbor_model.specs.Raw.{no_raw_pairs, raw_pair, Chunk, Simple}
use Rattle.cbor_model.specs.Raw.{undefined_item, half, unsigned, negative, bytes, text}
use Rattle.cbor_model.specs.Raw.{bytes_chunks, text_chunks, array, map, tag, simple, float, count}
use Rattle.cbor_model.specs.Raw.{pair_count}
use Rattle.cbor_model.specs.Spelling.{chunk, spell, BeginsSpelling}
use Rattle.cbor_model.specs.Order.{flat, val_cmp}
use Rattle.cbor_model.specs.Value.{by_order, value}

-- a number below this fits a narrower width
abbrev pub floor : HeadWidth → ℕ
floor no_bytes = 0
floor one_byte = limit no_bytes
floor two_bytes = limit one_byte
floor four_bytes = limit two_bytes
floor eight_bytes = limit four_bytes

-- the end of a head at this offset
abbrev pub head_end : ℕ → ℕ → HeadWidth → ℕ → ℕ
head_end at major w n = at + length (head major w n)

-- A head that isn't shortest: after the head.
abbrev pub long_head : ℕ → ℕ → HeadWidth → ℕ → List ℕ
long_head at major w n = if nat_lt n (floor w) then head_end at major w n ∷ [] else []

-- The head of an array or a map; an indefinite length: after its first byte.
abbrev pub long_length : ℕ → ℕ → Length → ℕ → List ℕ
long_length at major (definite w) n = long_head at major w n
long_length at major indefinite n = suc at ∷ []

-- where what it encloses begins
abbrev pub length_end : ℕ → ℕ → Length → ℕ → ℕ
length_end at major (definite w) n = head_end at major w n
length_end at major indefinite n = suc at

-- Undefined: after it.
abbrev pub undefined_at : ℕ → Simple → List ℕ
undefined_at at undefined_item = suc at ∷ []
undefined_at at _ = []

-- A key that isn't above the key before it: after that key, which ends here.
abbrev pub not_above : ℕ → Option Raw → Raw → List ℕ
not_above end None k = []
not_above end (Some l) k = by_order (val_cmp (value l) (value k)) [] (end ∷ []) (end ∷ [])

-- the chunks of a string, from this offset on
abbrev pub chunk_departures : ℕ → ℕ → List Chunk → List ℕ
chunk_departures at major [] = []
chunk_departures at major (c ∷ cs) =
    long_head at major c.width (length c.bytes)
    ++ chunk_departures (at + length (chunk major c)) major cs

-- The departures of an item at this offset, in the order of the bytes.
unfoldable mutual
  pub departures : ℕ → Raw → List ℕ
  departures at (unsigned w n) = long_head at 0 w n
  departures at (negative w n) = long_head at 1 w n
  departures at (bytes c) = long_head at 2 c.width (length c.bytes)
  departures at (text c) = long_head at 3 c.width (length c.bytes)
  departures at (bytes_chunks cs) = suc at ∷ chunk_departures (suc at) 2 cs
  departures at (text_chunks cs) = suc at ∷ chunk_departures (suc at) 3 cs
  departures at (array l rs) =
      long_length at 4 l (count rs) ++ all_departures (length_end at 4 l (count rs)) rs
  departures at (map l ps) =
      long_length at 5 l (pair_count ps)
      ++ pair_departures (length_end at 5 l (pair_count ps)) None ps
  departures at (tag w n r) = long_head at 6 w n ++ departures (head_end at 6 w n) r
  departures at (simple s) = undefined_at at s
  departures at (float w bits) = []

  pub all_departures : ℕ → Raws → List ℕ
  all_departures at no_raws = []
  all_departures at (raw r rs) = departures at r ++ all_departures (at + length (spell r)) rs

  -- of pairs after a pair with that key, or after none
  pub pair_departures : ℕ → Option Raw → RawPairs → List ℕ
  pair_departures at before no_raw_pairs = []
  pair_departures at before (raw_pair k v ps) =
      departures at k
      ++ (not_above (at + length (spell k)) before k
      ++ (departures (at + length (spell k)) v
      ++ pair_departures (at + length (spell k) + length (spell v)) (Some k) ps))

-- The item departs at this offset.
abbrev pub DepartsAt : Raw → ℕ → Type 0
DepartsAt r j = Contains (departures 0 r) j

-- The first departure is the one of least offset.
pub record IsFirstDeparture (r : Raw) (j : ℕ) : Type 0 where
  pub departs : DepartsAt r j
  pub first : (i : ℕ) → DepartsAt r i → j ≤ i

-- The first j bytes begin a spelling, and each item that they begin departs at j.
pub record ShowsDeparture (bytes : List ℕ) (j : ℕ) : Type 0 where
  pub within : j ≤ length bytes
  pub begins : BeginsSpelling (take j bytes)
  pub each : (spelt : BeginsSpelling (take j bytes)) → DepartsAt spelt.item j

-- ---- examples

-- 18 17; f9 3c 00
long_23 : departures 0 (unsigned one_byte 23) ≡ 2 ∷ []
unfolding departures
long_23 = refl

float_kept : departures 0 (float half 0x3c00) ≡ []
unfolding departures
float_kept = refl

-- 58 01 61
long_length_1 : departures 0 (bytes (record { width = one_byte; bytes = 0x61 ∷ [] })) ≡ 2 ∷ []
unfolding departures
long_length_1 = refl

-- 7f 61 61 ff
in_chunks : departures 0 (text_chunks (record { width = no_bytes; bytes = 0x61 ∷ [] } ∷ []))
    ≡ 1 ∷ []
unfolding departures
in_chunks = refl

-- a2 01 02 02 03, a2 02 00 01 00 and a2 01 00 01 00
ascending : departures 0 (map (definite no_bytes)
    (raw_pair (unsigned no_bytes 1) (unsigned no_bytes 2)
    (raw_pair (unsigned no_bytes 2) (unsigned no_bytes 3)
    no_raw_pairs)))
    ≡ []
unfolding departures spell value flat
ascending = refl

descending : departures 0 (map (definite no_bytes)
    (raw_pair (unsigned no_bytes 2) (unsigned no_bytes 0)
    (raw_pair (unsigned no_bytes 1) (unsigned no_bytes 0)
    no_raw_pairs)))
    ≡ 4 ∷ []
unfolding departures spell value flat
descending = refl

twice : departures 0 (map (definite no_bytes)
    (raw_pair (unsigned no_bytes 1) (unsigned no_bytes 0)
    (raw_pair (unsigned no_bytes 1) (unsigned no_bytes 0)
    no_raw_pairs)))
    ≡ 4 ∷ []
unfolding departures spell value flat
twice = refl

-- a2 01 00 18 01 02: both the head and the key are shown there
twice_and_long : departures 0 (map (definite no_bytes)
    (raw_pair (unsigned no_bytes 1) (unsigned no_bytes 0)
    (raw_pair (unsigned one_byte 1) (unsigned no_bytes 2)
    no_raw_pairs)))
    ≡ 5 ∷ 5 ∷ []
unfolding departures spell value flat
twice_and_long = refl

-- 82 f7 18 17
undefined_first : departures 0 (array (definite no_bytes)
    (raw (simple undefined_item)
    (raw (unsigned one_byte 23)
    no_raws)))
    ≡ 2 ∷ 4 ∷ []
unfolding departures spell
undefined_first = refl
