use Rattle.std.proofs.Common.{◌≡◌, ℕ, ◌+◌, ◌*◌, Bool, List, Option, drop}
use Rattle.std.specs.Prelude.{Result}
use Rattle.cbor_model.specs.Spelling.{spell_all, spell_pairs}
use Rattle.cbor_model.specs.Canonical.{canonical_all, canonical_pairs, AreStorable, ArePairsStorable}
use Rattle.cbor_model.specs.InMemory.{AreInMemory, ArePairsInMemory}
use Rattle.cbor_io.specs.Write.{Wrote, HasRoomFor}
use Rattle.cbor_value.specs.View.{view, views, map_view, pair_views}
use Rattle.cbor_ser.specs.declared.items.WriteRefused.{WriteRefused}
use Rattle.cbor_model.specs.Document.{documents_of, document_pairs_of}
use Rattle.cbor_model.specs.Unstored.{StandsBeforeAny, StandsBeforePairs}
use Rattle.cbor_ser.proofs.Unstored.{Later}
use Rattle.cbor_value.proofs.facts.Sizes.{size, sizes, pair_sizes}
use Rattle.cbor_ser.proofs.items.+value.Given as goal

-- What is written next, with what follows, is all of it.
abbrev pub invariant-put_items-loop-item : goal.invariant-put_items-loop-item
invariant-put_items-loop-item g l = record {
  storable : AreStorable (views (drop l.item-index l.items)) → AreStorable (views l.items);
  in_memory : AreInMemory (views (drop l.item-index l.items)) → AreInMemory (views l.items);
  written : (new : Option (List ℕ)) (r : Result (Unit {0}) WriteRefused)
      → Wrote (g.W.Write.written l.writer) (spell_all (canonical_all (views (drop l.item-index l.items)))) new r
      → Wrote (g.W.Write.written l.fn.writer) (spell_all (canonical_all (views l.items))) new r;
  before : (p q : Bool) (front : List ℕ) → StandsBeforeAny (documents_of (views l.items)) p q front
      → Later (StandsBeforeAny (documents_of (views (drop l.item-index l.items))) p q) (g.W.Write.written l.fn.writer) front (g.W.Write.written l.writer);
  same_references : g.W.Write.references l.writer ≡ g.W.Write.references l.fn.writer;
  same_capacity : g.W.Write.capacity l.writer ≡ g.W.Write.capacity l.fn.writer;
  room : HasRoomFor (g.W.Write.capacity l.fn.writer) (g.W.Write.written l.fn.writer) (spell_all (canonical_all (views l.items)))
      → HasRoomFor (g.W.Write.capacity l.writer) (g.W.Write.written l.writer) (spell_all (canonical_all (views (drop l.item-index l.items))));
}

abbrev pub invariant-put_pairs-loop-key : goal.invariant-put_pairs-loop-key
invariant-put_pairs-loop-key g l = record {
  storable : ArePairsStorable (pair_views (drop l.key-index l.pairs)) → ArePairsStorable (pair_views l.pairs);
  in_memory : ArePairsInMemory (pair_views (drop l.key-index l.pairs)) → ArePairsInMemory (pair_views l.pairs);
  written : (new : Option (List ℕ)) (r : Result (Unit {0}) WriteRefused)
      → Wrote (g.W.Write.written l.writer) (spell_pairs (canonical_pairs (pair_views (drop l.key-index l.pairs)))) new r
      → Wrote (g.W.Write.written l.fn.writer) (spell_pairs (canonical_pairs (pair_views l.pairs))) new r;
  before : (p q : Bool) (front : List ℕ) → StandsBeforePairs (document_pairs_of (pair_views l.pairs)) p q front
      → Later (StandsBeforePairs (document_pairs_of (pair_views (drop l.key-index l.pairs))) p q) (g.W.Write.written l.fn.writer) front (g.W.Write.written l.writer);
  same_references : g.W.Write.references l.writer ≡ g.W.Write.references l.fn.writer;
  same_capacity : g.W.Write.capacity l.writer ≡ g.W.Write.capacity l.fn.writer;
  room : HasRoomFor (g.W.Write.capacity l.fn.writer) (g.W.Write.written l.fn.writer) (spell_pairs (canonical_pairs (pair_views l.pairs)))
      → HasRoomFor (g.W.Write.capacity l.writer) (g.W.Write.written l.writer) (spell_pairs (canonical_pairs (pair_views (drop l.key-index l.pairs))));
}

abbrev pub decreases-put_value : goal.decreases-put_value
decreases-put_value g l = 3 * size (view l.value.now)

abbrev pub decreases-put_tag : goal.decreases-put_tag
decreases-put_tag g l = 3 * size (view l.inner.now) + 2

abbrev pub decreases-put_array : goal.decreases-put_array
decreases-put_array g l = 3 * sizes (views l.items.now) + 2

abbrev pub decreases-put_items : goal.decreases-put_items
decreases-put_items g l = 3 * sizes (views l.items.now) + 1

abbrev pub decreases-put_map : goal.decreases-put_map
decreases-put_map g l = 3 * pair_sizes (map_view l.map.now) + 2

abbrev pub decreases-put_pairs : goal.decreases-put_pairs
decreases-put_pairs g l = 3 * pair_sizes (pair_views l.pairs.now) + 1
