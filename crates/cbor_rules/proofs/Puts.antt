-- Pairs whose keys are encoded apart may be put in in any order.
use Rattle.std.proofs.Common.{◌≡◌, ◌∙◌, sym, ap, refl, arith, ℕ, suc, ◌+◌, List, Bool, true, false, cond, Some, Ordering, Less, Equal, Greater}
use Rattle.std.specs.Cmp.{IsTotalOrder, Equal-is}
use Rattle.std.specs.Cmp.Lexicographic.{nat_list_cmp_total}
use Rattle.std.specs.Ordering.{eq_by_cmp}
use Rattle.std.specs.FinMap as finmap
use Rattle.std.specs.FinMap.{find, get-insert}
use Rattle.std.proofs.lemmas.Bool.{true≢false}
use Rattle.std.specs.Ordering.{is_lt}
use Rattle.cbor_model.specs.Canonical.{IsBelow, KeysAscend}
use Rattle.cbor_model.specs.FiniteMap.{entries, finite_map, put_all}
use Rattle.cbor_model.specs.Order.{flat, val_cmp}
use Rattle.cbor_model.specs.Plain.{Val, bytes, Pairs, no_pairs, pair, pair_count}
use Rattle.cbor_model.specs.Value.{put, by_order}
use Rattle.cbor_model.proofs.facts.Maps.{IsBelow-trans, KeysAscend-put, get-finite_map, finite_map-put, same_pairs}
use Rattle.cbor_model.proofs.facts.Order.{same_key, Greater-from_Less}
use Rattle.cbor_forms.specs.LengthFirst.{length_first, encoded, content}

-- ---- two different keys

total : IsTotalOrder val_cmp
total = record {
  antisymm = λ a b. nat_list_cmp_total.antisymm (flat a) (flat b);
  trans = λ a b c. nat_list_cmp_total.trans (flat a) (flat b) (flat c);
  congr = λ a b c. nat_list_cmp_total.congr (flat a) (flat b) (flat c);
}

found_put : (q k v : Val) (ps : Pairs) → KeysAscend ps → find val_cmp q (entries (put k v ps)) ≡ cond (eq_by_cmp val_cmp q k) (Some v) (find val_cmp q (entries ps))
found_put q k v ps ascend =
    sym (get-finite_map q (put k v ps))
    ∙ ap (λ m. finmap.get m q) (finite_map-put k v ps ascend)
    ∙ get-insert total (finite_map ps) k v q
    ∙ ap (cond (eq_by_cmp val_cmp q k) (Some v)) (get-finite_map q ps)

either_order : {A : Type 0} (a b : Bool) (x y z : A) → (a ≡ true → b ≡ true → ⊥) → cond a x (cond b y z) ≡ cond b y (cond a x z)
either_order true true x y z apart = absurd (apart refl refl)
either_order true false x y z apart = refl
either_order false b x y z apart = refl

same_tied : (q k : Val) → eq_by_cmp val_cmp q k ≡ true → q ≡ k
same_tied q k is = same_key q k ((Equal-is (val_cmp q k)).0 is)

put_either : (k v l w : Val) (ps : Pairs) → (k ≡ l → ⊥) → KeysAscend ps → put k v (put l w ps) ≡ put l w (put k v ps)
put_either k v l w ps apart ascend =
    let first = KeysAscend-put l w ps ascend in
    let second = KeysAscend-put k v ps ascend in
    same_pairs (put k v (put l w ps)) (put l w (put k v ps)) (KeysAscend-put k v (put l w ps) first) (KeysAscend-put l w (put k v ps) second)
    (λ q. let a = eq_by_cmp val_cmp q k in
    let b = eq_by_cmp val_cmp q l in
    found_put q k v (put l w ps) first
    ∙ ap (cond a (Some v)) (found_put q l w ps ascend)
    ∙ either_order a b (Some v) (Some w) (find val_cmp q (entries ps)) (λ x y. apart (sym (same_tied q k x) ∙ same_tied q l y))
    ∙ ap (cond b (Some w)) (sym (found_put q k v ps ascend))
    ∙ sym (found_put q l w (put k v ps) second))

-- ---- keys that are encoded apart

-- none of the pairs' keys is encoded so
abbrev pub IsApart : List ℕ → Pairs → Type 0
IsApart b no_pairs = Unit {0}
IsApart b (pair l w ps) = (b ≡ length_first l → ⊥) × IsApart b ps

-- no two of the keys are encoded alike
abbrev pub AreApart : Pairs → Type 0
AreApart no_pairs = Unit {0}
AreApart (pair k v ps) = IsApart (length_first k) ps × AreApart ps

-- nor a key of these and one of those
abbrev AllApart : Pairs → Pairs → Type 0
AllApart no_pairs qs = Unit {0}
AllApart (pair k v ps) qs = IsApart (length_first k) qs × AllApart ps qs

apart_put : (b : List ℕ) (k v : Val) (qs : Pairs) → (b ≡ length_first k → ⊥) → IsApart b qs → IsApart b (put k v qs)
apart_put b k v no_pairs new apart = (new, tt)
apart_put b k v (pair l w qs) new apart = by (val_cmp k l) (apart_put b k v qs new apart.1)
  where
    by : (o : Ordering) → IsApart b (put k v qs) → IsApart b (by_order o (pair k v (pair l w qs)) (pair k v qs) (pair l w (put k v qs)))
    by Less others = (new, apart)
    by Equal others = (new, apart.1)
    by Greater others = (apart.0, others)

all_apart_put : (k v : Val) (ps qs : Pairs) → IsApart (length_first k) ps → AllApart ps qs → AllApart ps (put k v qs)
all_apart_put k v no_pairs qs new apart = tt
all_apart_put k v (pair l w ps) qs new apart = (apart_put (length_first l) k v qs (λ is. new.0 (sym is)) apart.0, all_apart_put k v ps qs new.1 apart.1)

pub all_apart_none : (ps : Pairs) → AllApart ps no_pairs
all_apart_none no_pairs = tt
all_apart_none (pair k v ps) = (tt, all_apart_none ps)

abbrev pub code : Val → Val
code k = bytes (length_first k)

code_apart : (k l : Val) → (length_first k ≡ length_first l → ⊥) → code k ≡ code l → ⊥
code_apart k l apart is = apart (ap content is)

-- a pair put in last may be put in first
put_through : (k v : Val) (ps onto : Pairs) → IsApart (length_first k) ps → KeysAscend onto → put (code k) (code v) (put_all (encoded ps) onto) ≡ put_all (encoded ps) (put (code k) (code v) onto)
unfolding length_first
put_through k v no_pairs onto apart ascend = refl
put_through k v (pair l w ps) onto apart ascend =
    put_through k v ps (put (code l) (code w) onto) apart.1 (KeysAscend-put (code l) (code w) onto ascend)
    ∙ ap (put_all (encoded ps)) (put_either (code k) (code v) (code l) (code w) onto (code_apart k l apart.0) ascend)

-- a pair among the values is one among the encodings
put_encoded : (k v : Val) (ps onto : Pairs) → IsApart (length_first k) ps → KeysAscend onto → put_all (encoded (put k v ps)) onto ≡ put_all (encoded ps) (put (code k) (code v) onto)
unfolding length_first
put_encoded k v no_pairs onto apart ascend = refl
put_encoded k v (pair l w ps) onto apart ascend = by (val_cmp k l) refl (put_encoded k v ps (put (code l) (code w) onto) apart.1 (KeysAscend-put (code l) (code w) onto ascend))
  where
    by : (o : Ordering) → val_cmp k l ≡ o → put_all (encoded (put k v ps)) (put (code l) (code w) onto) ≡ put_all (encoded ps) (put (code k) (code v) (put (code l) (code w) onto)) → put_all (encoded (by_order o (pair k v (pair l w ps)) (pair k v ps) (pair l w (put k v ps)))) onto ≡ put_all (encoded ps) (put (code l) (code w) (put (code k) (code v) onto))
    by Less is rest = refl
    by Equal is rest = absurd (apart.0 (ap length_first (same_key k l is)))
    by Greater is rest = rest ∙ ap (put_all (encoded ps)) (put_either (code k) (code v) (code l) (code w) onto (code_apart k l apart.0) ascend)

pub encoded_put_all : (ps qs : Pairs) → AreApart ps → AllApart ps qs → put_all (encoded (put_all ps qs)) no_pairs ≡ put_all (encoded ps) (put_all (encoded qs) no_pairs)
unfolding length_first
encoded_put_all no_pairs qs apart others = refl
encoded_put_all (pair k v ps) qs apart others =
    encoded_put_all ps (put k v qs) apart.1 (all_apart_put k v ps qs apart.0 others.1)
    ∙ ap (put_all (encoded ps)) (put_encoded k v qs no_pairs others.0 tt ∙ sym (put_through k v qs no_pairs others.0 tt))

-- ---- as many pairs

-- the key is none of the pairs'
abbrev IsNew : Val → Pairs → Type 0
IsNew k no_pairs = Unit {0}
IsNew k (pair l w ps) = (k ≡ l → ⊥) × IsNew k ps

abbrev AreNew : Pairs → Pairs → Type 0
AreNew no_pairs qs = Unit {0}
AreNew (pair k v ps) qs = IsNew k ps × IsNew k qs × AreNew ps qs

new_put : (q k v : Val) (ps : Pairs) → (q ≡ k → ⊥) → IsNew q ps → IsNew q (put k v ps)
new_put q k v no_pairs other new = (other, tt)
new_put q k v (pair l w ps) other new = by (val_cmp k l) (new_put q k v ps other new.1)
  where
    by : (o : Ordering) → IsNew q (put k v ps) → IsNew q (by_order o (pair k v (pair l w ps)) (pair k v ps) (pair l w (put k v ps)))
    by Less others = (other, new)
    by Equal others = (other, new.1)
    by Greater others = (new.0, others)

all_new_put : (k v : Val) (ps qs : Pairs) → IsNew k ps → AreNew ps qs → AreNew ps (put k v qs)
all_new_put k v no_pairs qs new all = tt
all_new_put k v (pair l w ps) qs new all = (all.0, new_put l k v qs (λ is. new.0 (sym is)) all.1, all_new_put k v ps qs new.1 all.2)

count_put : (k v : Val) (ps : Pairs) → IsNew k ps → pair_count (put k v ps) ≡ suc (pair_count ps)
count_put k v no_pairs new = refl
count_put k v (pair l w ps) new = by (val_cmp k l) refl (count_put k v ps new.1)
  where
    by : (o : Ordering) → val_cmp k l ≡ o → pair_count (put k v ps) ≡ suc (pair_count ps) → pair_count (by_order o (pair k v (pair l w ps)) (pair k v ps) (pair l w (put k v ps))) ≡ suc (suc (pair_count ps))
    by Less is rest = refl
    by Equal is rest = absurd (new.0 (same_key k l is))
    by Greater is rest = ap suc rest

count_put_all : (ps qs : Pairs) → AreNew ps qs → pair_count (put_all ps qs) ≡ pair_count ps + pair_count qs
count_put_all no_pairs qs all = omega arith
count_put_all (pair k v ps) qs all =
    let rest = count_put_all ps (put k v qs) (all_new_put k v ps qs all.0 all.2) in
    let one = count_put k v qs all.1 in
    omega (arith, rest, one)

value_new : (k : Val) (ps : Pairs) → IsApart (length_first k) ps → IsNew k ps
value_new k no_pairs apart = tt
value_new k (pair l w ps) apart = (λ is. apart.0 (ap length_first is), value_new k ps apart.1)

values_new : (ps : Pairs) → AreApart ps → AreNew ps no_pairs
values_new no_pairs apart = tt
values_new (pair k v ps) apart = (value_new k ps apart.0, tt, values_new ps apart.1)

code_new : (k : Val) (ps : Pairs) → IsApart (length_first k) ps → IsNew (code k) (encoded ps)
unfolding length_first
code_new k no_pairs apart = tt
code_new k (pair l w ps) apart = (code_apart k l apart.0, code_new k ps apart.1)

codes_new : (ps : Pairs) → AreApart ps → AreNew (encoded ps) no_pairs
unfolding length_first
codes_new no_pairs apart = tt
codes_new (pair k v ps) apart = (code_new k ps apart.0, tt, codes_new ps apart.1)

count_encoded : (ps : Pairs) → pair_count (encoded ps) ≡ pair_count ps
unfolding length_first
count_encoded no_pairs = refl
count_encoded (pair k v ps) = omega (arith, count_encoded ps)

pub count_values_put : (ps : Pairs) → AreApart ps → pair_count (put_all ps no_pairs) ≡ pair_count ps
count_values_put ps apart = omega (arith, count_put_all ps no_pairs (values_new ps apart))

pub count_codes_put : (ps : Pairs) → AreApart ps → pair_count (put_all (encoded ps) no_pairs) ≡ pair_count ps
count_codes_put ps apart = omega (arith, count_put_all (encoded ps) no_pairs (codes_new ps apart), count_encoded ps)

-- ---- ascending encodings are apart

pub less_apart : (k l : Val) → val_cmp k l ≡ Less → k ≡ l → ⊥
less_apart k l less is =
    let itself : val_cmp k k ≡ Less = ap (val_cmp k) is ∙ less in
    true≢false (ap is_lt (sym itself ∙ Greater-from_Less k k itself))

below_apart : (k : Val) (ps : Pairs) → IsBelow (code k) (encoded ps) → KeysAscend (encoded ps) → IsApart (length_first k) ps
unfolding length_first
below_apart k no_pairs below ascend = tt
below_apart k (pair l w ps) below ascend =
    (λ is. less_apart (code k) (code l) below (ap bytes is), below_apart k ps (IsBelow-trans (code k) (code l) (encoded ps) below ascend.0) ascend.1)

pub ascending_apart : (ps : Pairs) → KeysAscend (encoded ps) → AreApart ps
unfolding length_first
ascending_apart no_pairs ascend = tt
ascending_apart (pair k v ps) ascend = (below_apart k ps ascend.0 ascend.1, ascending_apart ps ascend.1)
