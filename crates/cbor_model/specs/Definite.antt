-- Items of definite lengths at each level (RFC 7049, section 2.2, has the indefinite ones, chunked
-- strings among them).
use Rattle.cbor_model.specs.Head.{no_bytes, one_byte}
use Rattle.cbor_model.specs.Raw.{Length, definite, indefinite, Raw, bytes_chunks, text_chunks}
use Rattle.cbor_model.specs.Raw.{array, map, tag, unsigned, Raws, no_raws, raw, RawPairs}
use Rattle.cbor_model.specs.Raw.{no_raw_pairs, raw_pair}

-- a count precedes the items
abbrev pub IsCounted : Length → Type 0
IsCounted (definite w) = Unit {0}
IsCounted indefinite = ⊥

abbrev mutual
  pub IsDefinite : Raw → Type 0
  IsDefinite (bytes_chunks cs) = ⊥
  IsDefinite (text_chunks cs) = ⊥
  IsDefinite (array l rs) = IsCounted l × AreDefinite rs
  IsDefinite (map l ps) = IsCounted l × ArePairsDefinite ps
  IsDefinite (tag w n r) = IsDefinite r
  IsDefinite _ = Unit {0}

  pub AreDefinite : Raws → Type 0
  AreDefinite no_raws = Unit {0}
  AreDefinite (raw r rs) = IsDefinite r × AreDefinite rs

  pub ArePairsDefinite : RawPairs → Type 0
  ArePairsDefinite no_raw_pairs = Unit {0}
  ArePairsDefinite (raw_pair k v ps) = IsDefinite k × IsDefinite v × ArePairsDefinite ps

-- ---- examples

-- [23], with both heads longer than they have to be
long_heads : IsDefinite (array (definite one_byte) (raw (unsigned one_byte 23) no_raws))
long_heads = (tt, (tt, tt))

-- [[_ ]]
break_inside : IsDefinite (array (definite no_bytes) (raw (array indefinite no_raws) no_raws)) → ⊥
break_inside counted = counted.1.0.0
