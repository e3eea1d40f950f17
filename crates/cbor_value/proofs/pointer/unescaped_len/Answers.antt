use Rattle.std.proofs.Common.{◌≡◌, length, [], ap, arith}
use Rattle.cbor_value.specs.Pointer.{unescape}
use Rattle.cbor_value.proofs.pointer.unescaped_len.Goals as goal

pub returns : goal.returns
unfolding unescape
returns c =
    let ended : c.bytes.rest.now ≡ [] = c.in_default.ensures.first in
    let none : length (unescape c.bytes.rest.now) ≡ 0 = ap (λ s. length (unescape s)) ended in
    omega arith
