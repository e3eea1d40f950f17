-- The value of a well-formed item is storable.
use Rattle.std.proofs.Common.{◌^◌, ◌≤◌, arith}
use Rattle.std.specs.declared.cmp.Ordering.{Ordering}
use Rattle.std.specs.declared.cmp.Ordering.TheVariants.{Less, Equal, Greater}
use Rattle.cbor_model.specs.Head.{HeadWidth, no_bytes, one_byte, two_bytes, four_bytes, eight_bytes, limit}
use Rattle.cbor_model.specs.Raw as raw
use Rattle.cbor_model.specs.Raw.{Raw, Raws, no_raws, RawPairs, no_raw_pairs, raw_pair, false_item, true_item, null_item, undefined_item, IsWellFormed, AreWellFormed, ArePairsWellFormed}
use Rattle.cbor_model.specs.Plain.{Val, Pairs, no_pairs, pair}
use Rattle.cbor_model.specs.Order.{val_cmp}
use Rattle.cbor_model.specs.Value.{value, values, pairs, by_order, put, simple_value}
use Rattle.cbor_model.specs.Canonical.{IsStorable, AreStorable, ArePairsStorable}

pub limit-le : (w : HeadWidth) → limit w ≤ 2 ^ 64
limit-le no_bytes = omega arith
limit-le one_byte = omega arith
limit-le two_bytes = omega arith
limit-le four_bytes = omega arith
limit-le eight_bytes = omega arith

by_order_keeps : (o : Ordering) (a b c : Pairs) → ArePairsStorable a → ArePairsStorable b → ArePairsStorable c → ArePairsStorable (by_order o a b c)
by_order_keeps Less a b c p q r = p
by_order_keeps Equal a b c p q r = q
by_order_keeps Greater a b c p q r = r

-- a pair that is put in keeps the pairs storable
put_keeps : (k v : Val) (ps : Pairs) → IsStorable k → IsStorable v → ArePairsStorable ps → ArePairsStorable (put k v ps)
put_keeps k v no_pairs key val all = (key, val, tt)
put_keeps k v (pair l w ps) key val all =
    by_order_keeps (val_cmp k l) (pair k v (pair l w ps)) (pair k v ps) (pair l w (put k v ps))
    (key, val, all)
    (key, val, all.2)
    (all.0, all.1, put_keeps k v ps key val all.2)

simple_storable : (s : raw.Simple) → IsStorable (simple_value s)
simple_storable false_item = tt
simple_storable true_item = tt
simple_storable null_item = tt
simple_storable undefined_item = tt

mutual
  unfolding value

  pub storable : (r : Raw) → IsWellFormed r → IsStorable (value r)
  storable (raw.unsigned w n) fits = omega (arith, fits, limit-le w)
  storable (raw.negative w n) fits = omega (arith, fits, limit-le w)
  storable (raw.bytes c) fits = tt
  storable (raw.text c) fits = tt
  storable (raw.bytes_chunks cs) fits = tt
  storable (raw.text_chunks cs) fits = tt
  storable (raw.array l rs) fits = all_storable rs fits.1
  storable (raw.map l ps) fits = pairs_storable ps no_pairs fits.1 tt
  storable (raw.tag w n r) fits = storable r fits.1
  storable (raw.simple s) fits = simple_storable s
  storable (raw.float w bits) fits = tt

  pub all_storable : (rs : Raws) → AreWellFormed rs → AreStorable (values rs)
  all_storable no_raws fits = tt
  all_storable (raw.raw r rs) fits = (storable r fits.0, all_storable rs fits.1)

  pub pairs_storable : (ps : RawPairs) (before : Pairs) → ArePairsWellFormed ps → ArePairsStorable before → ArePairsStorable (pairs ps before)
  pairs_storable no_raw_pairs before fits stored = stored
  pairs_storable (raw_pair k v ps) before fits stored = pairs_storable ps (put (value k) (value v) before) fits.2 (put_keeps (value k) (value v) before (storable k fits.0) (storable v fits.1) stored)
