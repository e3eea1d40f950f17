use Rattle.std.proofs.Common.{◌≡◌, ◌≤◌, ◌-◌, vec_len}
use Rattle.cbor_decode.specs.Gives.{Step}
use Rattle.cbor_decode.specs.Heads.{remaining_of}
use Rattle.cbor_decode_as.specs.Takes.{context, formats_of}
use Rattle.cbor_decode_as.proofs.facts.Arrays.{SoFar, EachRead}
use Rattle.cbor_de.proofs.parts.ArrayFaults.{StopsArray}
use Rattle.cbor_de.proofs.types.sequences.exactly.Given as goal

abbrev pub invariant-items : goal.invariant-items
invariant-items g l = record {
  same : l.access.de.ghost_name ≡ l.initial.access.de.ghost_name;
  few : vec_len l.items ≤ l.fn.n;
  outer : l.access.outer ≡ l.initial.access.outer;
  levels : l.access.de.now.decoder.levels ≡ l.initial.access.de.now.decoder.levels;
  formats : l.access.de.now.decoder.formats ≡ l.fn.de.decoder.formats;
  so_far : Step (g.R.Source.source l.initial.access.de.now.decoder.source) (g.R.Source.source l.access.de.now.decoder.source)
      (SoFar (EachRead (g.T.Readable.reads (context l.fn.de.decoder.formats g.R.Source.lends)) l.items.items) (formats_of l.fn.de.decoder.formats) l.initial.access.de.now.decoder.levels (remaining_of l.initial.access.remaining) (remaining_of l.access.remaining));
  stops : Step (g.R.Source.source l.fn.de.decoder.source) (g.R.Source.source l.access.de.now.decoder.source) (StopsArray l.fn.de.decoder.levels l.initial.access.de.now.decoder.levels l.access.remaining);
}

abbrev pub decreases-items : goal.decreases-items
decreases-items g l = l.fn.n - vec_len l.items
