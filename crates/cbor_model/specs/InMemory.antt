-- What a program's value stands for, whichever it is.
use Rattle.std.specs.Prelude.{◌^◌, ◌<◌, ℕ, List, length, IsUtf8}
use Rattle.std.proofs.Common.{lit<}
use Rattle.cbor_model.specs.Raw.{AreBytes, half, float_limit}
use Rattle.cbor_model.specs.Plain.{Val, float, bytes, text, array, map, tag, Vals, no_vals, val}
use Rattle.cbor_model.specs.Plain.{Pairs, no_pairs, pair, count, pair_count}

-- the content of a byte string
abbrev pub IsByteString : List ℕ → Type 0
IsByteString b = (length b < 2 ^ 64) × AreBytes b

-- the content of a text, which is UTF-8 (RFC 7049, section 2.1)
abbrev pub IsTextString : List ℕ → Type 0
IsTextString b = IsByteString b × IsUtf8 b

-- Counts and tag numbers are below 2^64, a float's bits fit its width, and strings have the content
-- of strings. Of integers nothing is asked.
abbrev mutual
  pub IsInMemory : Val → Type 0
  IsInMemory (float w bits) = bits < float_limit w
  IsInMemory (bytes b) = IsByteString b
  IsInMemory (text b) = IsTextString b
  IsInMemory (array vs) = (count vs < 2 ^ 64) × AreInMemory vs
  IsInMemory (map ps) = (pair_count ps < 2 ^ 64) × ArePairsInMemory ps
  IsInMemory (tag n v) = (n < 2 ^ 64) × IsInMemory v
  IsInMemory _ = Unit {0}

  pub AreInMemory : Vals → Type 0
  AreInMemory no_vals = Unit {0}
  AreInMemory (val v vs) = IsInMemory v × AreInMemory vs

  pub ArePairsInMemory : Pairs → Type 0
  ArePairsInMemory no_pairs = Unit {0}
  ArePairsInMemory (pair k v ps) = IsInMemory k × IsInMemory v × ArePairsInMemory ps

-- ---- examples

-- the greatest tag number, and the greatest bits of 16
greatest : IsInMemory (tag 0xffff_ffff_ffff_ffff (array (val (float half 0xffff) no_vals)))
greatest = (lit< tt, (lit< tt, (lit< tt, tt)))
