use Rattle.std.proofs.Common.{◌≡◌, ◌∙◌, length, ap, arith, rules}
use Rattle.std.proofs.lemmas.Result.{on_ok_weaker}
use Rattle.cbor_model.specs.Plain.{Pairs, no_pairs}
use Rattle.cbor_model.specs.FiniteMap.{put_all}
use Rattle.cbor_model.specs.Head.{short}
use Rattle.cbor_value.specs.View.{view, views, map_view, pair_views}
use Rattle.cbor_forms.specs.LengthFirst.{length_first, all_length_first, encoded, joined}
use Rattle.cbor_value.proofs.facts.Sizes.{size_at, pair_size_at}
use Rattle.cbor_forms.proofs.Encoding.{next_item, no_more_items, all_encoded, storable_at}
use Rattle.cbor_forms.proofs.Encoding.{pair_storable_at, then_written, array_whole, map_whole}
use Rattle.cbor_forms.proofs.Encoding.{tag_whole}
use Rattle.cbor_forms.proofs.length_first.+append.Goals as goal

-- ---- arrays

pub append_items-append-requires : goal.append_items-append-requires
append_items-append-requires t c =
    let items = c.args.items.now in
    let i = c.loop-item.item-index in
    let item = c.item-item.result in
    let less = size_at items i item c.loop-item-test.true c.item-item.is in
    (grind arith, storable_at items i item c.loop-item-test.true c.item-item.is c.requires)

pub append_items-loop-item-preserved : goal.append_items-loop-item-preserved
append_items-loop-item-preserved t c =
    next_item c.args.items.now c.loop-item.item-index c.item-item.result _ _ _
    c.loop-item-test.true c.item-item.is c.in_ok-append.ensures.written c.loop-item.invariant

pub append_items-returns-clause-written : goal.append_items-returns-clause-written
append_items-returns-clause-written t c =
    no_more_items c.args.items.now c.loop-item.item-index _ _ c.loop-item-test.false
    c.loop-item.invariant

pub append_array-returns-clause-written : goal.append_array-returns-clause-written
append_array-returns-clause-written t c =
    let items = c.args.items.now in
    on_ok_weaker c.append_items.result
    (then_written _ _ _ (short 4 (length items)) (all_length_first (views items)) _
    c.in_ok-append_head.ensures.written (array_whole items))
    c.append_items.ensures.written

-- ---- maps

pub encode_pairs-encode_pair-requires : goal.encode_pairs-encode_pair-requires
encode_pairs-encode_pair-requires t c =
    let pairs = c.args.pairs.now in
    let i = c.loop-pair.pair-index in
    let pair = c.pair-item.result in
    let less = pair_size_at pairs i pair c.loop-pair-test.true c.pair-item.is in
    (grind arith, pair_storable_at pairs i pair c.loop-pair-test.true c.pair-item.is c.requires)

pub encode_pairs-returns-clause-encoded : goal.encode_pairs-returns-clause-encoded
encode_pairs-returns-clause-encoded t c =
    all_encoded c.loop-pair.strings.items c.args.pairs.now c.loop-pair.pair-index
    c.loop-pair-test.false c.loop-pair.invariant

pub append_map-returns-clause-written : goal.append_map-returns-clause-written
append_map-returns-clause-written t c =
    let ps = map_view c.args.map.now in
    let listed : pair_views c.as_slice.result.now ≡ ps = search rules in
    let again : pair_views c.deref.result.now ≡ pair_views c.in_ok-sorted.sorted.items =
    search rules in
    let sorted : pair_views c.deref.result.now ≡ put_all (encoded ps) no_pairs =
    again ∙ c.in_ok-sorted.ensures.sorted
    ∙ ap (λ (qs : Pairs). put_all qs no_pairs)
    (c.in_ok-pairs.ensures.encoded ∙ ap encoded listed) in
    on_ok_weaker c.append_pairs.result
    (then_written _ _ _ (short 5 c.len.result) (joined (pair_views c.deref.result.now)) _
    c.in_ok-append_head.ensures.written (map_whole ps _ c.len.result c.len.ensures.listed sorted))
    c.append_pairs.ensures.written

-- ---- tags

pub append_tag-returns-clause-written : goal.append_tag-returns-clause-written
append_tag-returns-clause-written t c =
    let v = view c.args.inner.now in
    on_ok_weaker c.append.result
    (then_written _ _ _ (short 6 c.args.tag) (length_first v) _
    c.in_ok-append_head.ensures.written (tag_whole c.args.tag v))
    c.append.ensures.written
