use Rattle.std.proofs.Common.{◌≡◌, ◌+◌, ◌-◌, ◌*◌, ◌^◌}
use Rattle.cbor_decode.specs.Decoder.{formats_of}
use Rattle.cbor_decode.specs.Gives.{Step}
use Rattle.cbor_decode.specs.Heads.{remaining_of}
use Rattle.cbor_decode.specs.HasChunks.{SomeHasChunks, SomePairHasChunks}
use Rattle.cbor_decode.proofs.Skipped.{ItemsSoFar, PairsSoFar}
use Rattle.cbor_decode.proofs.SkippedChunks.{Leads, items, pairs}
use Rattle.cbor_decode.proofs.Decoder.+skip.Given as goal

abbrev pub decreases-skip : goal.decreases-skip
decreases-skip g l = 8 * l.self.now.levels + 7

abbrev pub decreases-skip_from : goal.decreases-skip_from
decreases-skip_from g l = 8 * l.self.now.levels + 6

abbrev pub decreases-skip_of : goal.decreases-skip_of
decreases-skip_of g l = 8 * l.self.now.levels + 5

abbrev pub decreases-skip_array : goal.decreases-skip_array
decreases-skip_array g l = 8 * l.self.now.levels + 4

abbrev pub decreases-skip_map : goal.decreases-skip_map
decreases-skip_map g l = 8 * l.self.now.levels + 4

abbrev pub decreases-skip_tagged : goal.decreases-skip_tagged
decreases-skip_tagged g l = 8 * l.self.now.levels + 4

abbrev pub decreases-skip_items : goal.decreases-skip_items
decreases-skip_items g l = 8 * l.self.now.levels + 8

abbrev pub decreases-skip_pairs : goal.decreases-skip_pairs
decreases-skip_pairs g l = 8 * l.self.now.levels + 8

abbrev pub invariant-skip_items-items : goal.invariant-skip_items-items
invariant-skip_items-items g l = record {
  so_far : Step (g.R.Source.source l.fn.self.source) (g.R.Source.source l.self.source) (ItemsSoFar (formats_of l.fn.self.formats) l.fn.self.levels (remaining_of l.fn.remaining) (remaining_of l.remaining));
  leads : Step (g.R.Source.source l.fn.self.source) (g.R.Source.source l.self.source) (Leads SomeHasChunks (items (formats_of l.fn.self.formats) l.fn.self.levels (remaining_of l.fn.remaining)) SomeHasChunks (items (formats_of l.fn.self.formats) l.fn.self.levels (remaining_of l.remaining)));
  levels : l.self.levels ≡ l.fn.self.levels;
  formats : l.self.formats ≡ l.fn.self.formats;
}

abbrev pub decreases-skip_items-items : goal.decreases-skip_items-items
decreases-skip_items-items g l = 2 ^ 64 - (g.R.Source.source l.self.source).offset

abbrev pub invariant-skip_pairs-pairs : goal.invariant-skip_pairs-pairs
invariant-skip_pairs-pairs g l = record {
  so_far : Step (g.R.Source.source l.fn.self.source) (g.R.Source.source l.self.source) (PairsSoFar (formats_of l.fn.self.formats) l.fn.self.levels (remaining_of l.fn.remaining) (remaining_of l.remaining));
  leads : Step (g.R.Source.source l.fn.self.source) (g.R.Source.source l.self.source) (Leads SomePairHasChunks (pairs (formats_of l.fn.self.formats) l.fn.self.levels (remaining_of l.fn.remaining)) SomePairHasChunks (pairs (formats_of l.fn.self.formats) l.fn.self.levels (remaining_of l.remaining)));
  levels : l.self.levels ≡ l.fn.self.levels;
  formats : l.self.formats ≡ l.fn.self.formats;
}

abbrev pub decreases-skip_pairs-pairs : goal.decreases-skip_pairs-pairs
decreases-skip_pairs-pairs g l = 2 ^ 64 - (g.R.Source.source l.self.source).offset
