use Rattle.std.proofs.Common.{◌∙◌, sym}
use Rattle.cbor_strict.specs.Walk.{past}
use Rattle.cbor_strict.specs.Walks.{last}
use Rattle.cbor_strict.proofs.Walking.{on_bytes, rest_last}
use Rattle.cbor_strict.proofs.walk.string_slow.Goals as goal

pub returns-else-is_long-clause-walks : goal.returns-else-is_long-clause-walks
returns-else-is_long-clause-walks c = λ fuel enough.
    let number = c.in-Some.ensures in
    let bs = c.args.bytes.now in
    let left = c.in-Some.left in
    on_bytes c.args.low c.in-Some.n bs (last left bs) c.if-low-eq31.false number.1 (sym c.if-is_long.ensures)
    ∙ rest_last c.behind.result.now left bs c.past.result (past c.in-Some.n) fuel c.behind.ensures number.2 enough (c.past.ensures.walks fuel) c.past.ensures.within
