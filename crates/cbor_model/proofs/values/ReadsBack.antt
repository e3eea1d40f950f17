-- The canonical item of an ordered value has that value.
use Rattle.std.proofs.Common.{◌≡◌, true, false, pos, negsuc, Ordering, Less, refl, sym, ap, ap₂, subst, ◌∙◌}
use Rattle.cbor_model.specs.Plain.{Val, null, bool, integer, float, bytes, text, array, map, tag, Vals, no_vals, val, Pairs, no_pairs, pair}
use Rattle.cbor_model.specs.Order.{val_cmp}
use Rattle.cbor_model.specs.Value.{value, values, pairs, by_order, put}
use Rattle.cbor_model.specs.Canonical.{KeysAscend, IsOrdered, AreOrdered, ArePairsOrdered, canonical, canonical_all, canonical_pairs}
use Rattle.cbor_model.proofs.order.Pairs.{Less-trans, Greater-from_Less, KeysAscend-from_IsOrdered}

-- the pairs, and then the others
abbrev pub followed_by : Pairs → Pairs → Pairs
followed_by no_pairs qs = qs
followed_by (pair k v ps) qs = pair k v (followed_by ps qs)

followed_by-none : (ps : Pairs) → followed_by ps no_pairs ≡ ps
followed_by-none no_pairs = refl
followed_by-none (pair k v ps) = ap (pair k v) (followed_by-none ps)

followed_by_assoc : (ps qs rs : Pairs) → followed_by (followed_by ps qs) rs ≡ followed_by ps (followed_by qs rs)
followed_by_assoc no_pairs qs rs = refl
followed_by_assoc (pair k v ps) qs rs = ap (pair k v) (followed_by_assoc ps qs rs)

-- the first of ascending keys is less than each later one
first_less : (l w k v : Val) (before ps : Pairs) → KeysAscend (pair l w (followed_by before (pair k v ps))) → val_cmp l k ≡ Less
first_less l w k v no_pairs ps ascend = ascend.0
first_less l w k v (pair m x before) ps ascend = Less-trans l m k ascend.0 (first_less m x k v before ps ascend.1)

-- a key above all the others goes to the end
pub put-last : (k v : Val) (before ps : Pairs) → KeysAscend (followed_by before (pair k v ps)) → put k v before ≡ followed_by before (pair k v no_pairs)
put-last k v no_pairs ps ascend = refl
put-last k v (pair l w before) ps ascend =
    let above = Greater-from_Less l k (first_less l w k v before ps ascend) in
    ap (λ (o : Ordering). by_order o (pair k v (pair l w before)) (pair k v before) (pair l w (put k v before))) above
    ∙ ap (pair l w) (put-last k v before ps ascend.1)

mutual
  unfolding value canonical

  pub reads_back : (v : Val) → IsOrdered v → value (canonical v) ≡ v
  reads_back null ordered = refl
  reads_back (bool false) ordered = refl
  reads_back (bool true) ordered = refl
  reads_back (integer (pos n)) ordered = refl
  reads_back (integer (negsuc n)) ordered = refl
  reads_back (float w bits) ordered = refl
  reads_back (bytes b) ordered = refl
  reads_back (text b) ordered = refl
  reads_back (array vs) ordered = ap array (all_read_back vs ordered)
  reads_back (map ps) ordered = ap map (pairs_read_back ps no_pairs ordered (KeysAscend-from_IsOrdered ps ordered))
  reads_back (tag n v) ordered = ap (tag n) (reads_back v ordered)

  all_read_back : (vs : Vals) → AreOrdered vs → values (canonical_all vs) ≡ vs
  all_read_back no_vals ordered = refl
  all_read_back (val v vs) ordered = ap₂ val (reads_back v ordered.0) (all_read_back vs ordered.1)

  -- put in after pairs whose keys are all below
  pairs_read_back : (ps before : Pairs) → ArePairsOrdered ps → KeysAscend (followed_by before ps) → pairs (canonical_pairs ps) before ≡ followed_by before ps
  pairs_read_back no_pairs before ordered ascend = sym (followed_by-none before)
  pairs_read_back (pair k v ps) before ordered ascend =
      let moved = followed_by_assoc before (pair k v no_pairs) ps in
      ap₂ (λ (l w : Val). pairs (canonical_pairs ps) (put l w before)) (reads_back k ordered.1) (reads_back v ordered.2)
      ∙ ap (pairs (canonical_pairs ps)) (put-last k v before ps ascend)
      ∙ pairs_read_back ps (followed_by before (pair k v no_pairs)) ordered.3 (subst KeysAscend (sym moved) ascend)
      ∙ moved
