use Rattle.std.proofs.Common.{List, sym, subst}
use Rattle.cbor_decode.specs.declared.cursor.Remaining.TheVariants.{Counted}
use Rattle.cbor_pushed.specs.Scanned.{HasScanned}
use Rattle.cbor_pushed.specs.declared.rest.Rest.{Rest}
use Rattle.cbor_pushed.specs.declared.rest.Rest.TheVariants.{Items}
use Rattle.cbor_pushed.proofs.ScanSteps.{begun}
use Rattle.cbor_pushed.proofs.scan.Scan.reset.Goals as goal

pub returns : goal.returns
returns c = λ levels front.
    subst (λ (around : List Rest). HasScanned levels 0 0 (Items (Counted 1)) around front) (sym c.clear.ensures.items) (begun levels front)
