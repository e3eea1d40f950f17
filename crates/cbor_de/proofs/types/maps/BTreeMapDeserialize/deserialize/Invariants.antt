use Rattle.std.proofs.Common.{◌≡◌, false}
use Rattle.cbor_decode.specs.Gives.{Step}
use Rattle.cbor_decode.specs.Heads.{remaining_of}
use Rattle.cbor_decode_as.specs.Accesses.{most_left}
use Rattle.cbor_decode_as.specs.Takes.{context, formats_of}
use Rattle.cbor_decode_as.proofs.facts.Maps.{PairsSoFar, Made}
use Rattle.cbor_de.proofs.maps.MapFaults.{MapBehind}
use Rattle.cbor_de.proofs.types.maps.BTreeMapDeserialize.deserialize.Given as goal

abbrev pub invariant-pairs : goal.invariant-pairs
invariant-pairs g l = record {
  same : l.access.de.ghost_name ≡ l.initial.access.de.ghost_name;
  outer : l.access.outer ≡ l.initial.access.outer;
  levels : l.access.de.now.decoder.levels ≡ l.initial.access.de.now.decoder.levels;
  formats : l.access.de.now.decoder.formats ≡ l.fn.de.decoder.formats;
  due : l.access.value_due ≡ false;
  so_far : Step (g.R.Source.source l.initial.access.de.now.decoder.source) (g.R.Source.source l.access.de.now.decoder.source)
      (PairsSoFar (Made (g.K.Readable.reads (context l.fn.de.decoder.formats g.R.Source.lends)) (g.V.Readable.reads (context l.fn.de.decoder.formats g.R.Source.lends)) g.K.Ord.cmp l.map.entries)
      (formats_of l.fn.de.decoder.formats) l.initial.access.de.now.decoder.levels (remaining_of l.initial.access.remaining) (remaining_of l.access.remaining));
  fault : Step (g.R.Source.source l.fn.de.decoder.source) (g.R.Source.source l.access.de.now.decoder.source) (MapBehind l.fn.de.decoder.levels l.access.de.now.decoder.levels (remaining_of l.access.remaining));
}

abbrev pub decreases-pairs : goal.decreases-pairs
decreases-pairs g l = most_left l.access.remaining (g.R.Source.source l.access.de.now.decoder.source)
