use Rattle.std.proofs.Common.{List, ◌∙◌, sym, ap, subst, rules}
use Rattle.std.specs.Cmp.Lexicographic.{nat_list_cmp_total}
use Rattle.std.specs.List.Sorted.{IsStable}
use Rattle.std.proofs.lemmas.Fn.{dedup_same}
use Rattle.std.proofs.lemmas.List.Sorted.{answers_always, ranks_by}
use Rattle.cbor_model.specs.Plain.{no_pairs}
use Rattle.cbor_model.specs.Order.{flat}
use Rattle.cbor_model.specs.Canonical.{KeysAscend, ArePairsOrdered}
use Rattle.cbor_model.proofs.facts.Maps.{KeysAscend-put_all, put_all-ascending}
use Rattle.cbor_value.specs.View.{view, pair_views}
use Rattle.cbor_value.proofs.Maps.{map_view-roll}
use Rattle.cbor_value.proofs.Sorting.{Pair, key_order, key_lt, key_eq, put_all-sorted}
use Rattle.cbor_value.proofs.Sorting.{IsOrdered-put_all}
use Rattle.cbor_value.proofs.Map.from_pairs.Goals as goal

-- ---- the keys ascend

pub returns-then-keys_ascend-clause-listed : goal.returns-then-keys_ascend-clause-listed
returns-then-keys_ascend-clause-listed c =
    let ascend = rw c.deref.ensures.value at (c.keys_ascend.ensures.0 c.if-keys_ascend.true) in
    map_view-roll _ ∙ sym (put_all-ascending (pair_views c.args.pairs.items) ascend)

pub returns-then-keys_ascend-clause-ordered : goal.returns-then-keys_ascend-clause-ordered
returns-then-keys_ascend-clause-ordered c =
    λ ordered. subst ArePairsOrdered (sym (returns-then-keys_ascend-clause-listed c))
    (IsOrdered-put_all c.args.pairs.items no_pairs ordered tt)

-- ---- they are sorted

pub returns-clause-listed : goal.returns-clause-listed
returns-clause-listed c =
    let sorted = c.sort_by.new.self.items in
    let order = ranks_by nat_list_cmp_total (λ (p : Pair). flat (view p.0)) in
    let up = c.in_ok-sort_by.ensures.sorted key_lt order
    (answers_always _ _ _ (λ f a r f' k. search rules)) in
    let stable = c.in_ok-sort_by.ensures.stable key_lt order
    (answers_always _ _ _ (λ f a r f' k. search rules)) in
    let kept = dedup_same _ key_eq _
    (λ x y b f' x' y' k. search rules) sorted c.dedup_by.new.self.items
    c.dedup_by.ensures.filtered in
    map_view-roll _
    ∙ ap pair_views kept
    ∙ put_all-sorted c.args.pairs.items sorted up
    (subst (λ (ps : List Pair). IsStable key_order ps sorted) c.reverse.ensures.items stable)

pub returns-clause-ascending : goal.returns-clause-ascending
returns-clause-ascending c =
    subst KeysAscend (sym (returns-clause-listed c))
    (KeysAscend-put_all (pair_views c.args.pairs.items) no_pairs tt)

pub returns-clause-ordered : goal.returns-clause-ordered
returns-clause-ordered c =
    λ ordered. subst ArePairsOrdered (sym (returns-clause-listed c))
    (IsOrdered-put_all c.args.pairs.items no_pairs ordered tt)
