use Rattle.std.proofs.Common.{sym, ap, ◌∙◌}
use Rattle.cbor_io.specs.Utf8.{place, after_bytes}
use Rattle.cbor_io.proofs.Utf8States.{after_ascii, place_boundary}
use Rattle.cbor_io.proofs.utf8.after_block.Goals as goal

pub returns-then-is_ascii : goal.returns-then-is_ascii
returns-then-is_ascii c = λ s e.
    let is = place_boundary s (sym e ∙ c.if-state-eq-BOUNDARY.true) in
    let ascii = after_ascii _ (c.is_ascii.ensures c.if-is_ascii.true) in
    e ∙ ap place (is ∙ sym (ap (λ t. after_bytes t c.args.block.now) is ∙ ascii))
