use Rattle.std.proofs.Common.{◌≡◌, ℕ, List, ◌∙◌, ◌++◌, length, sym, ap, subst, rules}
use Rattle.std.specs.String.{string_bytes}
use Rattle.std.proofs.lemmas.Str.{IsUtf8-string_bytes}
use Rattle.cbor_model.specs.InMemory.{IsInMemory, IsByteString}
use Rattle.cbor_ser.proofs.Ranges.{always}
use Rattle.cbor_ser.proofs.Unstored.{integer_before, head_stopped, head_then, tag_goes_on, array_goes_on, map_goes_on, passed, refused, first_item, no_items_left, first_pair, no_pairs_left}
use Rattle.std.specs.Prelude.{Ok, FitsSigned}
use Rattle.std.specs.Int.{w128}
use Rattle.std.proofs.lemmas.Int.{to_z-of_z}
use Rattle.cbor_model.specs.Plain.{Val, Pairs}
use Rattle.cbor_value.specs.declared.Value.{Value, the_lemmas}
use Rattle.cbor_ser.specs.Serialized.{EndsBefore}
use Rattle.cbor_value.proofs.facts.Views.{count_views, view_bytes, view_text, view_array, view_map, view_tag}
use Rattle.cbor_model.specs.Head.{short}
use Rattle.cbor_model.specs.Plain as plain
use Rattle.cbor_model.specs.Spelling.{spell_all, spell_pairs}
use Rattle.cbor_model.specs.Canonical.{canon, canonical_all, canonical_pairs, ArePairsStorable}
use Rattle.cbor_model.specs.Document.{document_of, document_pairs_of}
use Rattle.cbor_model.specs.Unstored.{StandsBeforePairs}
use Rattle.cbor_value.specs.View.{view, views, map_view, pair_views}
use Rattle.cbor_ser.proofs.Beginnings.{and_then, stops, same_bytes, nothing, same_room, room_after, refused_at, fits_then, fits_stops, same_fits}
use Rattle.cbor_ser.proofs.Writing.{array_spelled, map_spelled, tag_spelled, item_spelled, none_spelled, pair_spelled, no_pair_spelled, storable_from, storable_at, key_storable_at, value_storable_at, pair_storable_from, refused_inside}
use Rattle.cbor_ser.proofs.Ranges.{in_memory_from, pair_in_memory_from}
use Rattle.cbor_ser.proofs.items.+value.Goals as goal

pub put_tag-returns-in_err-put_head-clause-written : goal.put_tag-returns-in_err-put_head-clause-written
put_tag-returns-in_err-put_head-clause-written g t c =
    let v = view c.args.inner.now in
    same_bytes (tag_spelled c.args.tag v) (stops (canon v) _ c.from_residual.ensures.0 c.in_err-put_head.ensures.written.err)

pub put_tag-returns-clause-written : goal.put_tag-returns-clause-written
put_tag-returns-clause-written g t c =
    let v = view c.args.inner.now in
    same_bytes (tag_spelled c.args.tag v) (and_then _ _ _ (short 6 c.args.tag) (canon v) _ c.in_ok-put_head.ensures.written.ok c.put_value.ensures.written)

pub put_array-returns-in_err-put_head-clause-written : goal.put_array-returns-in_err-put_head-clause-written
put_array-returns-in_err-put_head-clause-written g t c =
    let items = c.args.items.now in
    same_bytes (array_spelled (views items) (length items) (sym (count_views items)))
    (stops (spell_all (canonical_all (views items))) _ c.from_residual.ensures.0 c.in_err-put_head.ensures.written.err)

pub put_array-returns-clause-written : goal.put_array-returns-clause-written
put_array-returns-clause-written g t c =
    let items = c.args.items.now in
    same_bytes (array_spelled (views items) (length items) (sym (count_views items)))
    (and_then _ _ _ (short 4 (length items)) (spell_all (canonical_all (views items))) _ c.in_ok-put_head.ensures.written.ok c.put_items.ensures.written)

pub put_map-returns-in_err-put_head-clause-written : goal.put_map-returns-in_err-put_head-clause-written
put_map-returns-in_err-put_head-clause-written g t c =
    let pairs = map_view c.args.map.now in
    same_bytes (map_spelled pairs c.len.result c.len.ensures.listed)
    (stops {f = short 5 c.len.result} (spell_pairs (canonical_pairs pairs)) _ c.from_residual.ensures.0 c.in_err-put_head.ensures.written.err)

pub put_map-returns-clause-written : goal.put_map-returns-clause-written
put_map-returns-clause-written g t c =
    let pairs = map_view c.args.map.now in
    let listed : pair_views c.as_slice.result.now ≡ pairs = search rules in
    same_bytes (ap (λ (ps : Pairs). short 5 c.len.result ++ spell_pairs (canonical_pairs ps)) listed ∙ map_spelled pairs c.len.result c.len.ensures.listed)
    (and_then _ _ _ (short 5 c.len.result) (spell_pairs (canonical_pairs (pair_views c.as_slice.result.now))) _ c.in_ok-put_head.ensures.written.ok c.put_pairs.ensures.written)

pub put_items-returns-clause-written : goal.put_items-returns-clause-written
put_items-returns-clause-written g t c =
    c.loop-item.invariant.written _ (Ok tt) (same_bytes (none_spelled c.args.items.now c.loop-item.item-index c.loop-item-test.false) nothing)

pub put_pairs-returns-clause-written : goal.put_pairs-returns-clause-written
put_pairs-returns-clause-written g t c =
    c.loop-key.invariant.written _ (Ok tt) (same_bytes (no_pair_spelled c.args.pairs.now c.loop-key.key-index c.loop-key-test.false) nothing)

pub put_items-returns-in_err-put_value-clause-written : goal.put_items-returns-in_err-put_value-clause-written
put_items-returns-in_err-put_value-clause-written g t c =
    let items = c.args.items.now in
    let i = c.loop-item.item-index in
    let item = c.item-item.result in
    c.loop-item.invariant.written _ _ (same_bytes (item_spelled items i item c.loop-item-test.true c.item-item.is)
    (stops _ _ c.from_residual.ensures.0 c.in_err-put_value.ensures.written.err))

pub put_items-returns-in_err-put_value-clause-refused : goal.put_items-returns-in_err-put_value-clause-refused
put_items-returns-in_err-put_value-clause-refused g t c =
    let items = c.args.items.now in
    let item = c.item-item.result in
    refused_inside _ (view item) (plain.array (views items)) _ _
    (storable_at items c.loop-item.item-index item c.loop-item-test.true c.item-item.is) c.in_err-put_value.ensures.refused

pub put_items-loop-item-preserved : goal.put_items-loop-item-preserved
put_items-loop-item-preserved g t c =
    let items = c.args.items.now in
    let i = c.loop-item.item-index in
    let item = c.item-item.result in
    record {
      storable = λ after. c.loop-item.invariant.storable (storable_from items i item c.loop-item-test.true c.item-item.is c.in_ok-put_value.ensures.storable after);
      in_memory = λ after. c.loop-item.invariant.in_memory (in_memory_from items i item c.loop-item-test.true c.item-item.is c.in_ok-put_value.ensures.in_memory after);
      written = λ new r rest. c.loop-item.invariant.written new r (same_bytes (item_spelled items i item c.loop-item-test.true c.item-item.is)
          (and_then _ _ new _ _ r c.in_ok-put_value.ensures.written.ok rest));
      before = λ p l front h. passed (view item) p l _ _ _ _ front c.in_ok-put_value.ensures.storable c.in_ok-put_value.ensures.written.ok
          (first_item items i item p l _ _ front c.loop-item-test.true c.item-item.is (c.loop-item.invariant.before p l front h));
      same_references = c.in_ok-put_value.ensures.same_references ∙ c.loop-item.invariant.same_references;
      same_capacity = c.in_ok-put_value.ensures.same_capacity ∙ c.loop-item.invariant.same_capacity;
      room = λ h. room_after _ _ _ _ (canon (view item)) _ c.in_ok-put_value.ensures.same_capacity c.in_ok-put_value.ensures.written.ok
          (same_room _ _ (sym (item_spelled items i item c.loop-item-test.true c.item-item.is)) (c.loop-item.invariant.room h));
    }

pub put_pairs-returns-in_err-put_value-clause-written : goal.put_pairs-returns-in_err-put_value-clause-written
put_pairs-returns-in_err-put_value-clause-written g t c =
    let pairs = c.args.pairs.now in
    let i = c.loop-key.key-index in
    let pair = c.loop-key-item.result in
    c.loop-key.invariant.written _ _ (same_bytes (pair_spelled pairs i pair c.loop-key-test.true c.loop-key-item.is)
    (stops _ _ c.from_residual.ensures.0 c.in_err-put_value.ensures.written.err))

pub put_pairs-returns-in_err-put_value-2-clause-written : goal.put_pairs-returns-in_err-put_value-2-clause-written
put_pairs-returns-in_err-put_value-2-clause-written g t c =
    let pairs = c.args.pairs.now in
    let i = c.loop-key.key-index in
    let pair = c.loop-key-item.result in
    c.loop-key.invariant.written _ _ (same_bytes (pair_spelled pairs i pair c.loop-key-test.true c.loop-key-item.is)
    (and_then _ _ _ _ _ _ c.in_ok-put_value.ensures.written.ok
    (stops _ _ c.from_residual-in_err-put_value-2.ensures.0 c.in_err-put_value-2.ensures.written.err)))

pub put_pairs-returns-in_err-put_value-clause-refused : goal.put_pairs-returns-in_err-put_value-clause-refused
put_pairs-returns-in_err-put_value-clause-refused g t c =
    let pairs = c.args.pairs.now in
    let pair = c.loop-key-item.result in
    refused_inside _ (view pair.0) (plain.map (pair_views pairs)) _ _
    (key_storable_at pairs c.loop-key.key-index pair c.loop-key-test.true c.loop-key-item.is) c.in_err-put_value.ensures.refused

pub put_pairs-returns-in_err-put_value-2-clause-refused : goal.put_pairs-returns-in_err-put_value-2-clause-refused
put_pairs-returns-in_err-put_value-2-clause-refused g t c =
    let pairs = c.args.pairs.now in
    let pair = c.loop-key-item.result in
    refused_inside _ (view pair.1) (plain.map (pair_views pairs)) _ _
    (value_storable_at pairs c.loop-key.key-index pair c.loop-key-test.true c.loop-key-item.is) c.in_err-put_value-2.ensures.refused

pub put_pairs-loop-key-preserved : goal.put_pairs-loop-key-preserved
put_pairs-loop-key-preserved g t c =
    let pairs = c.args.pairs.now in
    let i = c.loop-key.key-index in
    let pair = c.loop-key-item.result in
    record {
      storable = λ after. c.loop-key.invariant.storable
          (pair_storable_from pairs i pair c.loop-key-test.true c.loop-key-item.is c.in_ok-put_value.ensures.storable c.in_ok-put_value-2.ensures.storable after);
      in_memory = λ after. c.loop-key.invariant.in_memory
          (pair_in_memory_from pairs i pair c.loop-key-test.true c.loop-key-item.is c.in_ok-put_value.ensures.in_memory c.in_ok-put_value-2.ensures.in_memory after);
      written = λ new r rest. c.loop-key.invariant.written new r (same_bytes (pair_spelled pairs i pair c.loop-key-test.true c.loop-key-item.is)
          (and_then _ _ new _ _ r c.in_ok-put_value.ensures.written.ok (and_then _ _ new _ _ r c.in_ok-put_value-2.ensures.written.ok rest)));
      before = λ p l front h. passed (view pair.1) p l _ _ _ _ front c.in_ok-put_value-2.ensures.storable c.in_ok-put_value-2.ensures.written.ok
          (passed (view pair.0) p l _ _ _ _ front c.in_ok-put_value.ensures.storable c.in_ok-put_value.ensures.written.ok
          (first_pair pairs i pair p l _ _ front c.loop-key-test.true c.loop-key-item.is (c.loop-key.invariant.before p l front h)));
      same_references = c.in_ok-put_value-2.ensures.same_references ∙ (c.in_ok-put_value.ensures.same_references ∙ c.loop-key.invariant.same_references);
      same_capacity = c.in_ok-put_value-2.ensures.same_capacity ∙ (c.in_ok-put_value.ensures.same_capacity ∙ c.loop-key.invariant.same_capacity);
      room = λ h. room_after _ _ _ _ (canon (view pair.1)) _ c.in_ok-put_value-2.ensures.same_capacity c.in_ok-put_value-2.ensures.written.ok
          (room_after _ _ _ _ (canon (view pair.0)) _ c.in_ok-put_value.ensures.same_capacity c.in_ok-put_value.ensures.written.ok
          (same_room _ _ (sym (pair_spelled pairs i pair c.loop-key-test.true c.loop-key-item.is)) (c.loop-key.invariant.room h)));
    }

-- ---- strings

pub put_value-returns-in-Bytes-clause-in_memory : goal.put_value-returns-in-Bytes-clause-in_memory
put_value-returns-in-Bytes-clause-in_memory g t c =
    let same : view c.args.value.now ≡ plain.bytes c.deref.result.now =
    ap view c.in-Bytes.is ∙ view_bytes _ ∙ ap (λ (b : List ℕ). plain.bytes b) (sym c.deref.ensures.value) in
    always c.put_string.result (subst IsInMemory (sym same) c.put_string.ensures.content)

pub put_value-returns-in-Text-clause-in_memory : goal.put_value-returns-in-Text-clause-in_memory
put_value-returns-in-Text-clause-in_memory g t c =
    let s = c.in-Text.text in
    let same : view c.args.value.now ≡ plain.text (string_bytes s) = ap view c.in-Text.is ∙ view_text _ in
    let bytes : IsByteString (string_bytes s) = search (rules, c.put_string-in-Text.ensures.content) in
    always c.put_string-in-Text.result (subst IsInMemory (sym same) (bytes, IsUtf8-string_bytes s))

-- ---- before a number that isn't stored

pub put_tag-returns-in_err-put_head-clause-before : goal.put_tag-returns-in_err-put_head-clause-before
put_tag-returns-in_err-put_head-clause-before g t c p l front h =
    let v = view c.args.inner.now in
    head_stopped _ _ _ (short 6 c.args.tag) front c.in_err-put_head.ensures.written.err (tag_goes_on c.args.tag v p l front h)

pub put_tag-returns-clause-before : goal.put_tag-returns-clause-before
put_tag-returns-clause-before g t c p l front h =
    let v = view c.args.inner.now in
    head_then _ _ _ _ (short 6 c.args.tag) front c.in_ok-put_head.ensures.written.ok (c.put_value.ensures.before p l) (tag_goes_on c.args.tag v p l front h)

pub put_array-returns-in_err-put_head-clause-before : goal.put_array-returns-in_err-put_head-clause-before
put_array-returns-in_err-put_head-clause-before g t c p l front h =
    let items = c.args.items.now in
    head_stopped _ _ _ (short 4 (length items)) front c.in_err-put_head.ensures.written.err (array_goes_on items p l front h)

pub put_array-returns-clause-before : goal.put_array-returns-clause-before
put_array-returns-clause-before g t c p l front h =
    let items = c.args.items.now in
    head_then _ _ _ _ (short 4 (length items)) front c.in_ok-put_head.ensures.written.ok (c.put_items.ensures.before p l) (array_goes_on items p l front h)

pub put_map-returns-in_err-put_head-clause-before : goal.put_map-returns-in_err-put_head-clause-before
put_map-returns-in_err-put_head-clause-before g t c p l front h =
    let pairs = map_view c.args.map.now in
    head_stopped _ _ _ (short 5 c.len.result) front c.in_err-put_head.ensures.written.err (map_goes_on pairs c.len.result p l front c.len.ensures.listed h)

pub put_map-returns-clause-before : goal.put_map-returns-clause-before
put_map-returns-clause-before g t c p l front h =
    let pairs = map_view c.args.map.now in
    let listed : pair_views c.as_slice.result.now ≡ pairs = search rules in
    head_then _ _ _ _ (short 5 c.len.result) front c.in_ok-put_head.ensures.written.ok
    (λ back stands. c.put_pairs.ensures.before p l back (subst (λ (ps : Pairs). StandsBeforePairs (document_pairs_of ps) p l back) (sym listed) stands))
    (map_goes_on pairs c.len.result p l front c.len.ensures.listed h)

pub put_items-returns-in_err-put_value-clause-before : goal.put_items-returns-in_err-put_value-clause-before
put_items-returns-in_err-put_value-clause-before g t c p l front h =
    let items = c.args.items.now in
    let item = c.item-item.result in
    refused (view item) p l _ _ _ _ front c.in_err-put_value.ensures.before c.in_err-put_value.ensures.written.err
    (first_item items c.loop-item.item-index item p l _ _ front c.loop-item-test.true c.item-item.is (c.loop-item.invariant.before p l front h))

pub put_items-returns-clause-before : goal.put_items-returns-clause-before
put_items-returns-clause-before g t c p l front h =
    absurd (no_items_left c.args.items.now c.loop-item.item-index p l _ _ front c.loop-item-test.false (c.loop-item.invariant.before p l front h))

pub put_pairs-returns-in_err-put_value-clause-before : goal.put_pairs-returns-in_err-put_value-clause-before
put_pairs-returns-in_err-put_value-clause-before g t c p l front h =
    let pairs = c.args.pairs.now in
    let pair = c.loop-key-item.result in
    refused (view pair.0) p l _ _ _ _ front c.in_err-put_value.ensures.before c.in_err-put_value.ensures.written.err
    (first_pair pairs c.loop-key.key-index pair p l _ _ front c.loop-key-test.true c.loop-key-item.is (c.loop-key.invariant.before p l front h))

pub put_pairs-returns-in_err-put_value-2-clause-before : goal.put_pairs-returns-in_err-put_value-2-clause-before
put_pairs-returns-in_err-put_value-2-clause-before g t c p l front h =
    let pairs = c.args.pairs.now in
    let pair = c.loop-key-item.result in
    refused (view pair.1) p l _ _ _ _ front c.in_err-put_value-2.ensures.before c.in_err-put_value-2.ensures.written.err
    (passed (view pair.0) p l _ _ _ _ front c.in_ok-put_value.ensures.storable c.in_ok-put_value.ensures.written.ok
    (first_pair pairs c.loop-key.key-index pair p l _ _ front c.loop-key-test.true c.loop-key-item.is (c.loop-key.invariant.before p l front h)))

pub put_pairs-returns-clause-before : goal.put_pairs-returns-clause-before
put_pairs-returns-clause-before g t c p l front h =
    absurd (no_pairs_left c.args.pairs.now c.loop-key.key-index p l _ _ front c.loop-key-test.false (c.loop-key.invariant.before p l front h))

pub put_value-returns-in-Integer-clause-before : goal.put_value-returns-in-Integer-clause-before
put_value-returns-in-Integer-clause-before g t c =
    let i = c.in-Integer.i in
    let fits : FitsSigned w128 i = search rules in
    let same : view c.args.value.now ≡ plain.integer i = ap view c.in-Integer.is ∙ search (rules, the_lemmas) in
    subst (λ (v : Val). EndsBefore (document_of v) (g.W.Write.written c.args.writer.now) (g.W.Write.written c.put_integer.new.writer)) (sym same)
    (integer_before g.W.Write.written i c.args.writer.now c.put_integer.new.writer (λ not. c.put_integer.ensures.kept (simp to_z-of_z not)))

pub put_value-returns-in-Array-clause-before : goal.put_value-returns-in-Array-clause-before
put_value-returns-in-Array-clause-before g t c =
    let same : view c.args.value.now ≡ plain.array (views c.deref-in-Array.result.now) =
    ap view c.in-Array.is ∙ view_array _ ∙ ap (λ (vs : List Value). plain.array (views vs)) (sym c.deref-in-Array.ensures.value) in
    subst (λ (v : Val). EndsBefore (document_of v) (g.W.Write.written c.args.writer.now) (g.W.Write.written c.put_array.new.writer)) (sym same) c.put_array.ensures.before

pub put_value-returns-in-Map-clause-before : goal.put_value-returns-in-Map-clause-before
put_value-returns-in-Map-clause-before g t c =
    let same : view c.args.value.now ≡ plain.map (map_view c.in-Map.map) = ap view c.in-Map.is ∙ view_map _ in
    subst (λ (v : Val). EndsBefore (document_of v) (g.W.Write.written c.args.writer.now) (g.W.Write.written c.put_map.new.writer)) (sym same) c.put_map.ensures.before

pub put_value-returns-in-Tag-clause-before : goal.put_value-returns-in-Tag-clause-before
put_value-returns-in-Tag-clause-before g t c =
    let same : view c.args.value.now ≡ plain.tag c.in-Tag.tag (view c.deref-in-Tag.result.now) =
    ap view c.in-Tag.is ∙ view_tag _ _ ∙ ap (λ (w : Value). plain.tag c.in-Tag.tag (view w)) (sym c.deref-in-Tag.ensures) in
    subst (λ (v : Val). EndsBefore (document_of v) (g.W.Write.written c.args.writer.now) (g.W.Write.written c.put_tag.new.writer)) (sym same) c.put_tag.ensures.before

-- ---- what fits is written

pub put_tag-returns-in_err-put_head-clause-fits : goal.put_tag-returns-in_err-put_head-clause-fits
put_tag-returns-in_err-put_head-clause-fits g t c storable =
    let v = view c.args.inner.now in
    same_fits (tag_spelled c.args.tag v) (fits_stops (canon v) _ c.in_err-put_head.ensures.fits)

pub put_tag-returns-clause-fits : goal.put_tag-returns-clause-fits
put_tag-returns-clause-fits g t c storable =
    let v = view c.args.inner.now in
    same_fits (tag_spelled c.args.tag v)
    (fits_then _ _ _ _ (short 6 c.args.tag) (canon v) _ c.in_ok-put_head.ensures.same_capacity c.in_ok-put_head.ensures.written.ok (c.put_value.ensures.fits storable))

pub put_array-returns-in_err-put_head-clause-fits : goal.put_array-returns-in_err-put_head-clause-fits
put_array-returns-in_err-put_head-clause-fits g t c storable =
    let items = c.args.items.now in
    same_fits (array_spelled (views items) (length items) (sym (count_views items)))
    (fits_stops (spell_all (canonical_all (views items))) _ c.in_err-put_head.ensures.fits)

pub put_array-returns-clause-fits : goal.put_array-returns-clause-fits
put_array-returns-clause-fits g t c storable =
    let items = c.args.items.now in
    same_fits (array_spelled (views items) (length items) (sym (count_views items)))
    (fits_then _ _ _ _ (short 4 (length items)) (spell_all (canonical_all (views items))) _ c.in_ok-put_head.ensures.same_capacity c.in_ok-put_head.ensures.written.ok (c.put_items.ensures.fits storable))

pub put_map-returns-in_err-put_head-clause-fits : goal.put_map-returns-in_err-put_head-clause-fits
put_map-returns-in_err-put_head-clause-fits g t c storable =
    let pairs = map_view c.args.map.now in
    same_fits (map_spelled pairs c.len.result c.len.ensures.listed)
    (fits_stops (spell_pairs (canonical_pairs pairs)) _ c.in_err-put_head.ensures.fits)

pub put_map-returns-clause-fits : goal.put_map-returns-clause-fits
put_map-returns-clause-fits g t c storable =
    let pairs = map_view c.args.map.now in
    let listed : pair_views c.as_slice.result.now ≡ pairs = search rules in
    same_fits (ap (λ (ps : Pairs). short 5 c.len.result ++ spell_pairs (canonical_pairs ps)) listed ∙ map_spelled pairs c.len.result c.len.ensures.listed)
    (fits_then _ _ _ _ (short 5 c.len.result) (spell_pairs (canonical_pairs (pair_views c.as_slice.result.now))) _ c.in_ok-put_head.ensures.same_capacity c.in_ok-put_head.ensures.written.ok
    (c.put_pairs.ensures.fits (subst ArePairsStorable (sym listed) storable)))

pub put_items-returns-in_err-put_value-clause-fits : goal.put_items-returns-in_err-put_value-clause-fits
put_items-returns-in_err-put_value-clause-fits g t c storable =
    let items = c.args.items.now in
    let i = c.loop-item.item-index in
    let item = c.item-item.result in
    record {
      taken = λ room. absurd (refused_at (canon (view item)) _ (c.in_err-put_value.ensures.fits (storable_at items i item c.loop-item-test.true c.item-item.is storable))
          (same_room _ _ (sym (item_spelled items i item c.loop-item-test.true c.item-item.is)) (c.loop-item.invariant.room room)));
    }

pub put_pairs-returns-in_err-put_value-clause-fits : goal.put_pairs-returns-in_err-put_value-clause-fits
put_pairs-returns-in_err-put_value-clause-fits g t c storable =
    let pairs = c.args.pairs.now in
    let i = c.loop-key.key-index in
    let pair = c.loop-key-item.result in
    record {
      taken = λ room. absurd (refused_at (canon (view pair.0)) _ (c.in_err-put_value.ensures.fits (key_storable_at pairs i pair c.loop-key-test.true c.loop-key-item.is storable))
          (same_room _ _ (sym (pair_spelled pairs i pair c.loop-key-test.true c.loop-key-item.is)) (c.loop-key.invariant.room room)));
    }

pub put_pairs-returns-in_err-put_value-2-clause-fits : goal.put_pairs-returns-in_err-put_value-2-clause-fits
put_pairs-returns-in_err-put_value-2-clause-fits g t c storable =
    let pairs = c.args.pairs.now in
    let i = c.loop-key.key-index in
    let pair = c.loop-key-item.result in
    record {
      taken = λ room. absurd (refused_at (canon (view pair.1)) _ (c.in_err-put_value-2.ensures.fits (value_storable_at pairs i pair c.loop-key-test.true c.loop-key-item.is storable))
          (room_after _ _ _ _ (canon (view pair.0)) _ c.in_ok-put_value.ensures.same_capacity c.in_ok-put_value.ensures.written.ok
          (same_room _ _ (sym (pair_spelled pairs i pair c.loop-key-test.true c.loop-key-item.is)) (c.loop-key.invariant.room room))));
    }
