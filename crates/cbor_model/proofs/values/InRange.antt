-- What is read is in range.
use Rattle.std.proofs.Common.{◌^◌, ◌<◌, length, arith}
use Rattle.cbor_model.specs.Head.{least}
use Rattle.cbor_model.specs.Raw as raw
use Rattle.cbor_model.specs.Raw.{Raw, IsWellFormed, AreWellFormed, ArePairsWellFormed}
use Rattle.cbor_model.specs.Spelling.{spell}
use Rattle.cbor_model.specs.Plain.{Val, null, bool, integer, float, bytes, text, array, map, tag, Vals, no_vals, val, Pairs, no_pairs, pair}
use Rattle.cbor_model.specs.Value.{value}
use Rattle.cbor_model.specs.Canonical.{canonical, canonical_all, canonical_pairs}
use Rattle.cbor_model.specs.InRange.{IsInRange, AreInRange, ArePairsInRange}
use Rattle.cbor_model.proofs.values.Storable.{limit-le}
use Rattle.cbor_model.proofs.values.Canonical.{well_formed}
use Rattle.cbor_model.proofs.values.Counts.{count_canonical, pair_count_canonical}

mutual
  unfolding canonical

  pub in_range : (v : Val) → IsWellFormed (canonical v) → IsInRange v
  in_range null fits = tt
  in_range (bool b) fits = tt
  in_range (integer z) fits = tt
  in_range (float w bits) fits = fits
  in_range (bytes b) fits = omega (arith, fits.0, limit-le (least (length b)))
  in_range (text b) fits = omega (arith, fits.0, limit-le (least (length b)))
  in_range (array vs) fits = (omega (arith, fits.0, count_canonical vs, limit-le (least (raw.count (canonical_all vs)))), all_in_range vs fits.1)
  in_range (map ps) fits = (omega (arith, fits.0, pair_count_canonical ps, limit-le (least (raw.pair_count (canonical_pairs ps)))), pairs_in_range ps fits.1)
  in_range (tag n v) fits = (omega (arith, fits.0, limit-le (least n)), in_range v fits.1)

  all_in_range : (vs : Vals) → AreWellFormed (canonical_all vs) → AreInRange vs
  all_in_range no_vals fits = tt
  all_in_range (val v vs) fits = (in_range v fits.0, all_in_range vs fits.1)

  pairs_in_range : (ps : Pairs) → ArePairsWellFormed (canonical_pairs ps) → ArePairsInRange ps
  pairs_in_range no_pairs fits = tt
  pairs_in_range (pair k v ps) fits = (in_range k fits.0, in_range v fits.1, pairs_in_range ps fits.2)

pub value_is_in_range : (r : Raw) → IsWellFormed r → length (spell r) < 2 ^ 64 → IsInRange (value r)
value_is_in_range r fits short = in_range (value r) (well_formed r fits short)
