use Rattle.std.proofs.Common.{◌≡◌}
use Rattle.cbor_decode.specs.Gives.{Advances, Step}
use Rattle.cbor_decode.specs.Heads.{remaining_of}
use Rattle.cbor_decode_as.specs.Accesses.{most_left}
use Rattle.cbor_parts.specs.Keys.{keys_of}
use Rattle.cbor_decode_as.specs.Takes.{context}
use Rattle.cbor_de.proofs.facts.Structs.{StructSoFar}
use Rattle.cbor_de.specs.Structs.{IsKeyed}
use Rattle.cbor_de.proofs.facts.MapFaults.{MapBehind}
use Rattle.cbor_described.proofs.field_list.fields_within.Given as goal

abbrev pub invariant-fields : goal.invariant-fields
invariant-fields g l = let k = context l.fn.de.decoder.formats g.R.Source.lends in record {
  formats : l.de.decoder.formats ≡ l.fn.de.decoder.formats;
  advances : Advances (g.R.Source.source l.fn.de.decoder.source) (g.R.Source.source l.de.decoder.source);
  so_far : StructSoFar (IsKeyed (keys_of l.keys)) (g.F.FieldList.fields k) (g.F.FieldList.slots k l.held) (g.R.Source.source l.fn.de.decoder.source) l.fn.de.decoder.formats l.fn.de.decoder.levels
      (g.R.Source.source l.de.decoder.source) l.de.decoder.formats l.de.decoder.levels l.remaining;
  fault : Step (g.R.Source.source l.fn.de.decoder.source) (g.R.Source.source l.de.decoder.source) (MapBehind l.fn.de.decoder.levels l.de.decoder.levels (remaining_of l.remaining));
}

abbrev pub decreases-fields : goal.decreases-fields
decreases-fields g l = most_left l.remaining (g.R.Source.source l.de.decoder.source)
