use Rattle.serde_cbor.specs.Raw.{AreBytes}
use Rattle.std.proofs.Common.{subst, arith}
use Rattle.use_device_config.proofs.Saved.{IsInRange, fits, other_is, stored}
use Rattle.use_device_config.proofs.device.are_in_range.Goals as goal
use Rattle.use_device_config.proofs.device.are_in_range.Goals.{in-Every, in_default}

pub returns-clause-fits : goal.returns-clause-fits
returns-clause-fits c =
    let x = c.args.config.now in
    let range : IsInRange x.mode = elim c.match-config.branch [ in-Every w ↦ rw w.in-Every.is (omega arith) | in_default w ↦ other_is x.mode w.in_default.not-Every ] in
    fits x.channels x.verbose (subst AreBytes c.as_slice.ensures.value c.are_bytes.ensures) x.mode x.name range

pub returns-clause-storable : goal.returns-clause-storable
returns-clause-storable c =
    let x = c.args.config.now in
    let range : IsInRange x.mode = elim c.match-config.branch [ in-Every w ↦ rw w.in-Every.is (omega arith) | in_default w ↦ other_is x.mode w.in_default.not-Every ] in
    stored x.channels x.verbose (subst AreBytes c.as_slice.ensures.value c.are_bytes.ensures) x.mode x.name range
