use Rattle.cbor_io.specs.declared.utf8.TheConstants.{ROWS}
use Rattle.cbor_io.proofs.Utf8Table.{AreRows, AreRows-at, AreRows-computed}
use Rattle.cbor_io.proofs.utf8.after_byte.Goals as goal

are_rows : AreRows ROWS
are_rows = AreRows-computed ROWS tt tt tt tt tt tt tt tt tt

pub returns : goal.returns
returns c = λ s e. AreRows-at ROWS are_rows s c.args.state c.args.byte c.ranges.byte.fits e
