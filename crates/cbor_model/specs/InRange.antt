-- Which values are in range: each number fits where its head or its bits are spelled. What a
-- program's value stands for always is.
use Rattle.std.specs.Prelude.{◌^◌, ◌<◌, length, pos}
use Rattle.std.proofs.Common.{lit<}
use Rattle.cbor_model.specs.Raw.{half, float_limit}
use Rattle.cbor_model.specs.Plain.{Val, integer, float, bytes, text, array, map, tag, Vals, no_vals}
use Rattle.cbor_model.specs.Plain.{val, Pairs, no_pairs, pair, count, pair_count}

-- Lengths, counts and tag numbers are below 2^64, and a float's bits fit its width.
abbrev mutual
  pub IsInRange : Val → Type 0
  IsInRange (float w bits) = bits < float_limit w
  IsInRange (bytes b) = length b < 2 ^ 64
  IsInRange (text b) = length b < 2 ^ 64
  IsInRange (array vs) = (count vs < 2 ^ 64) × AreInRange vs
  IsInRange (map ps) = (pair_count ps < 2 ^ 64) × ArePairsInRange ps
  IsInRange (tag n v) = (n < 2 ^ 64) × IsInRange v
  IsInRange _ = Unit {0}

  pub AreInRange : Vals → Type 0
  AreInRange no_vals = Unit {0}
  AreInRange (val v vs) = IsInRange v × AreInRange vs

  pub ArePairsInRange : Pairs → Type 0
  ArePairsInRange no_pairs = Unit {0}
  ArePairsInRange (pair k v ps) = IsInRange k × IsInRange v × ArePairsInRange ps

-- ---- examples

-- the greatest tag number, and the greatest bits of 16
greatest : IsInRange (tag 0xffff_ffff_ffff_ffff (array (val (float half 0xffff) no_vals)))
greatest = (lit< tt, (lit< tt, (lit< tt, tt)))

-- 2^64, which isn't storable: of integers nothing is asked
any_integer : IsInRange (integer (pos 0x1_0000_0000_0000_0000))
any_integer = tt
