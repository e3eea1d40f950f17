use Rattle.std.proofs.Common.{◌-◌, ◌^◌}
use Rattle.cbor_read.specs.Source.{TookKept}
use Rattle.cbor_decode.specs.Decoder.{SameSettings}
use Rattle.cbor_pushed.specs.ItemAtFront.{HasNoItem}
use Rattle.cbor_pushed.specs.Scanned.{Follows}
use Rattle.cbor_rules.proofs.raw.item_by_rules.Given as goal

abbrev pub invariant-bytes : goal.invariant-bytes
invariant-bytes g l = record {
  took : TookKept (g.R.Source.source l.fn.de.decoder.source) (g.R.Source.source l.de.decoder.source) l.bytes.items;
  settings : SameSettings l.fn.de.decoder l.de.decoder;
  follows : Follows l.fn.de.decoder.levels l.scan l.bytes.items;
  none : HasNoItem l.fn.de.decoder.levels l.bytes.items;
}

abbrev pub decreases-bytes : goal.decreases-bytes
decreases-bytes g l = 2 ^ 64 - (g.R.Source.source l.de.decoder.source).offset
