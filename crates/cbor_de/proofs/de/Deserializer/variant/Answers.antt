use Rattle.std.proofs.Common.{refl}
use Rattle.std.proofs.lemmas.Result.{err_from_is_err_and}
use Rattle.cbor_de.proofs.de.Deserializer.variant.Goals as goal

pub returns-in_err-index : goal.returns-in_err-index
returns-in_err-index g c =
    let passed = err_from_is_err_and c.from_residual.result c.from_residual.ensures.1 in
    let h = c.in_err-index.ensures in
    rw (passed.1, passed.2) (
      (refl, (λ w. tt), (h.outer, h.formats, h.read.took)),
      record {
        rests = tt;
        same_reference = tt;
        head = tt;
        refused = λ t took. record { took = took; reported = h.read.reported };
        opened = tt;
        unopened = λ t took. record { took = took; reported = h.opened.reported };
        cases = h.cases;
        fault = h.fault;
        memory = h.memory;
        code = h.code;
        below = tt;
        taken = tt;
        outer = tt;
        inside = tt;
        formats = tt;
      },
    )
