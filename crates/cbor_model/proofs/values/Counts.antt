-- A canonical item has as many items and pairs as its value.
use Rattle.std.proofs.Common.{◌≡◌, suc, refl, ap}
use Rattle.cbor_model.specs.Raw as raw
use Rattle.cbor_model.specs.Plain.{Vals, no_vals, val, Pairs, no_pairs, pair, count, pair_count}
use Rattle.cbor_model.specs.Canonical.{canonical, canonical_all, canonical_pairs}

pub count_canonical : (vs : Vals) → raw.count (canonical_all vs) ≡ count vs
unfolding canonical
count_canonical no_vals = refl
count_canonical (val v vs) = ap suc (count_canonical vs)

pub pair_count_canonical : (ps : Pairs) → raw.pair_count (canonical_pairs ps) ≡ pair_count ps
unfolding canonical
pair_count_canonical no_pairs = refl
pair_count_canonical (pair k v ps) = ap suc (pair_count_canonical ps)
