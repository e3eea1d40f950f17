-- The value of a raw item.
use Rattle.std.specs.Prelude.{◌≡◌, true, false, pos, negsuc, refl}
use Rattle.std.specs.declared.cmp.Ordering.{Ordering}
use Rattle.std.specs.declared.cmp.Ordering.TheVariants.{Less, Equal, Greater}
use Rattle.cbor_model.specs.Head.{no_bytes, one_byte}
use Rattle.cbor_model.specs.Raw as raw
use Rattle.cbor_model.specs.Raw.{Raw, Raws, no_raws, RawPairs, no_raw_pairs, raw_pair, Simple}
use Rattle.cbor_model.specs.Raw.{false_item, true_item, null_item, undefined_item, joined}
use Rattle.cbor_model.specs.Plain.{Val, null, bool, integer, float, bytes, text, array, map, tag}
use Rattle.cbor_model.specs.Plain.{Vals, no_vals, val, Pairs, no_pairs, pair}
use Rattle.cbor_model.specs.Order.{flat, val_cmp}

abbrev pub by_order : {A : Type 0} → Ordering → A → A → A → A
by_order Less a b c = a
by_order Equal a b c = b
by_order Greater a b c = c

-- ordered pairs with the value v at the key k, in the place of one that is there
abbrev pub put : Val → Val → Pairs → Pairs
put k v no_pairs = pair k v no_pairs
put k v (pair l w ps) =
    by_order (val_cmp k l) (pair k v (pair l w ps)) (pair k v ps) (pair l w (put k v ps))

-- undefined is null
abbrev pub simple_value : Simple → Val
simple_value false_item = bool false
simple_value true_item = bool true
simple_value null_item = null
simple_value undefined_item = null

-- Widths are forgotten, chunks joined, and a map's pairs ordered by their keys' values.
unfoldable mutual
  pub value : Raw → Val
  value (raw.unsigned w n) = integer (pos n)
  value (raw.negative w n) = integer (negsuc n)
  value (raw.bytes c) = bytes c.bytes
  value (raw.text c) = text c.bytes
  value (raw.bytes_chunks cs) = bytes (joined cs)
  value (raw.text_chunks cs) = text (joined cs)
  value (raw.array l rs) = array (values rs)
  value (raw.map l ps) = map (pairs ps no_pairs)
  value (raw.tag w n r) = tag n (value r)
  value (raw.simple s) = simple_value s
  value (raw.float w bits) = float w bits

  pub values : Raws → Vals
  values no_raws = no_vals
  values (raw.raw r rs) = val (value r) (values rs)

  -- each pair is put in after those before it, so of equal keys the last pair's value stays
  pub pairs : RawPairs → Pairs → Pairs
  pairs no_raw_pairs before = before
  pairs (raw_pair k v ps) before = pairs ps (put (value k) (value v) before)

-- ---- examples

-- {_ 2: 0, 1: 0} is {1: 0, 2: 0}
keys_ordered : value (raw.map raw.indefinite
    (raw_pair (raw.unsigned no_bytes 2) (raw.unsigned no_bytes 0)
    (raw_pair (raw.unsigned no_bytes 1) (raw.unsigned no_bytes 0)
    no_raw_pairs)))
    ≡ map
    (pair (integer (pos 1)) (integer (pos 0)) (pair (integer (pos 2)) (integer (pos 0)) no_pairs))
unfolding value flat
keys_ordered = refl

-- {1: 0, 1: 2}, the second key in a longer head, is {1: 2}
last_stays : value (raw.map (raw.definite no_bytes)
    (raw_pair (raw.unsigned no_bytes 1) (raw.unsigned no_bytes 0)
    (raw_pair (raw.unsigned one_byte 1) (raw.unsigned no_bytes 2)
    no_raw_pairs)))
    ≡ map (pair (integer (pos 1)) (integer (pos 2)) no_pairs)
unfolding value flat
last_stays = refl

-- {null: 1, undefined: 2} is {null: 2}
undefined_is_null : value (raw.map (raw.definite no_bytes)
    (raw_pair (raw.simple null_item) (raw.unsigned no_bytes 1)
    (raw_pair (raw.simple undefined_item) (raw.unsigned no_bytes 2)
    no_raw_pairs)))
    ≡ map (pair null (integer (pos 2)) no_pairs)
unfolding value flat
undefined_is_null = refl
