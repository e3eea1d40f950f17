use Rattle.std.proofs.Common.{◌≡◌, ◌+◌, ◌-◌, ◌*◌, ◌^◌, map}
use Rattle.cbor_model.specs.Plain.{no_pairs}
use Rattle.cbor_model.specs.FiniteMap.{put_all}
use Rattle.cbor_value.specs.View.{view, pair_views}
use Rattle.cbor_decode.specs.Decoder.{formats_of}
use Rattle.cbor_decode.specs.Gives.{Step}
use Rattle.cbor_decode.specs.Heads.{remaining_of}
use Rattle.cbor_decode.proofs.Items.{SoFar}
use Rattle.cbor_decode.proofs.Pairs.{PairsSoFar}
use Rattle.cbor_decode.proofs.Decoder.+read.Given as goal

abbrev pub decreases-value : goal.decreases-value
decreases-value g l = 8 * l.self.now.levels + 7

abbrev pub decreases-value_from : goal.decreases-value_from
decreases-value_from g l = 8 * l.self.now.levels + 6

abbrev pub decreases-value_of : goal.decreases-value_of
decreases-value_of g l = 8 * l.self.now.levels + 5

abbrev pub decreases-array : goal.decreases-array
decreases-array g l = 8 * l.self.now.levels + 4

abbrev pub decreases-map : goal.decreases-map
decreases-map g l = 8 * l.self.now.levels + 4

abbrev pub decreases-tagged : goal.decreases-tagged
decreases-tagged g l = 8 * l.self.now.levels + 4

abbrev pub decreases-boxed : goal.decreases-boxed
decreases-boxed g l = 8 * l.self.now.levels + 8

abbrev pub decreases-all_items : goal.decreases-all_items
decreases-all_items g l = 8 * l.self.now.levels + 9

abbrev pub decreases-one_item : goal.decreases-one_item
decreases-one_item g l = 8 * l.self.now.levels + 8

abbrev pub decreases-items : goal.decreases-items
decreases-items g l = 8 * l.self.now.levels + 8

abbrev pub decreases-pairs : goal.decreases-pairs
decreases-pairs g l = 8 * l.self.now.levels + 8

abbrev pub invariant-items-items : goal.invariant-items-items
invariant-items-items g l = record {
  so_far : Step (g.R.Source.source l.fn.self.source) (g.R.Source.source l.self.source) (SoFar (formats_of l.fn.self.formats) l.fn.self.levels (remaining_of l.fn.remaining) (map view l.items.items) (remaining_of l.remaining));
  levels : l.self.levels ≡ l.fn.self.levels;
  formats : l.self.formats ≡ l.fn.self.formats;
}

abbrev pub decreases-items-items : goal.decreases-items-items
decreases-items-items g l = 2 ^ 64 - (g.R.Source.source l.self.source).offset

abbrev pub invariant-pairs-pairs : goal.invariant-pairs-pairs
invariant-pairs-pairs g l = record {
  so_far : Step (g.R.Source.source l.fn.self.source) (g.R.Source.source l.self.source) (PairsSoFar (formats_of l.fn.self.formats) l.fn.self.levels (remaining_of l.fn.remaining) (put_all (pair_views l.pairs.items) no_pairs) (remaining_of l.remaining));
  levels : l.self.levels ≡ l.fn.self.levels;
  formats : l.self.formats ≡ l.fn.self.formats;
}

abbrev pub decreases-pairs-pairs : goal.decreases-pairs-pairs
decreases-pairs-pairs g l = 2 ^ 64 - (g.R.Source.source l.self.source).offset
