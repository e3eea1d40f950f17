use Rattle.cbor_diagnostic.specs.Texts.{hex_byte}
use Rattle.cbor_diagnostic.proofs.Printing.{wrote_then, same_text}
use Rattle.cbor_diagnostic.proofs.Characters.{flat_map_next}
use Rattle.cbor_diagnostic.proofs.scalars.write_hex.Goals as goal

pub loop-byte-preserved : goal.loop-byte-preserved
loop-byte-preserved g c =
    same_text (flat_map_next hex_byte c.args.bytes.now c.loop-byte.byte-index c.loop-byte-test.true) (wrote_then c.loop-byte.invariant c.in_ok-write_byte.ensures)
