use Rattle.std.proofs.Common.{sym, arith}
use Rattle.std.proofs.lemmas.Result.{err_from_is_err_and}
use Rattle.use_device_config.proofs.device.Device.copy.Goals as goal

pub returns-clause-same : goal.returns-clause-same
returns-clause-same c = c.in_ok-saved.ensures.says.alone c.update.new.self.config (rw c.as_slice.ensures.value at c.in_ok-update.ensures.says)

pub returns-in_err-update-clause-memory : goal.returns-in_err-update-clause-memory
returns-in_err-update-clause-memory c =
    let saved = rw (sym c.as_slice.ensures.value) at c.in_ok-saved.ensures.says in
    let p = err_from_is_err_and c.from_residual-in_err-update.result c.from_residual-in_err-update.ensures.1 in
    rw (p.1, p.2) (c.in_err-update.ensures.accepted c.args.self.now.config saved.itself (omega (arith, saved.fits)))
