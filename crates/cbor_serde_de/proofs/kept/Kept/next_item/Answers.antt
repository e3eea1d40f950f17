use Rattle.std.proofs.Common.{inl, subst}
use Rattle.cbor_serde_de.specs.Readers.{TookMissing}
use Rattle.cbor_serde_de.proofs.Fronts.{of_bytes}
use Rattle.cbor_serde_de.proofs.Taking.{ended, fails_then}
use Rattle.cbor_serde_de.proofs.kept.Kept.next_item.Goals as goal

pub returns-in-Ok-false : goal.returns-in-Ok-false
returns-in-Ok-false g c =
    let bytes = of_bytes c.args.levels c.deref.result.now c.pieces.self.bytes.items c.in-Err.fault c.deref.ensures.value c.in-Err.ensures in
    let none = subst (TookMissing g.R.Read.remaining c.pieces.self c.take_missing.new.self) c.in-Ok-false.field-0-test c.in-Ok-false.ensures in
    ended g.R.Read.remaining c.args.levels c.args.self.now c.pieces.self c.take_missing.new.self c.in-Err.fault c.pieces.invariant bytes none

pub returns-in-Err-take_missing : goal.returns-in-Err-take_missing
returns-in-Err-take_missing g c =
    inl (fails_then g.R.Read.remaining c.args.self.now c.pieces.self c.take_missing.new.self c.in-Err-take_missing.error c.pieces.invariant c.in-Err-take_missing.ensures)
