-- The finite map that the pairs of a map list, where their keys strictly ascend.
use Rattle.std.specs.Prelude.{List, [], ◌∷◌, Option, None, Some}
use Rattle.std.specs.FinMap.{FinMap, from_entries}
use Rattle.cbor_model.specs.Plain.{Val, Pairs, no_pairs, pair}
use Rattle.cbor_model.specs.Order.{val_cmp}
use Rattle.cbor_model.specs.Raw.{RawPairs, no_raw_pairs, raw_pair}
use Rattle.cbor_model.specs.Value.{value, by_order, put}

abbrev pub entries : Pairs → List (Val × Val)
entries no_pairs = []
entries (pair k v ps) = (k, v) ∷ entries ps

unfoldable pub finite_map : Pairs → FinMap val_cmp Val
finite_map ps = from_entries (entries ps)

-- ordered pairs without the one at the key k
abbrev pub without : Val → Pairs → Pairs
without k no_pairs = no_pairs
without k (pair l w ps) = by_order (val_cmp k l) (pair l w ps) ps (pair l w (without k ps))

-- the pairs, put one after the other into those before
abbrev pub put_all : Pairs → Pairs → Pairs
put_all no_pairs before = before
put_all (pair k v ps) before = put_all ps (put k v before)

-- the values of the pairs of an item, as they are listed
abbrev pub listed_pairs : RawPairs → List (Val × Val)
listed_pairs no_raw_pairs = []
listed_pairs (raw_pair k v ps) = (value k, value v) ∷ listed_pairs ps

abbrev pub first_pair : Pairs → Option (Val × Val)
first_pair no_pairs = None
first_pair (pair k v ps) = Some (k, v)

abbrev pub last_pair : Pairs → Option (Val × Val)
last_pair no_pairs = None
last_pair (pair k v no_pairs) = Some (k, v)
last_pair (pair k v ps) = last_pair ps
