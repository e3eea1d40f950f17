use Rattle.std.proofs.Common.{◌≡◌, ◌+◌, length, drop}
use Rattle.cbor_model.specs.Order.{lex}
use Rattle.cbor_value.specs.Pointer.{unescape}
use Rattle.cbor_value.proofs.pointer.cmp_token.Given as goal

abbrev pub invariant-bytes : goal.invariant-bytes
invariant-bytes l = record {
  same : lex (unescape l.rest) (drop l.i l.text) ≡ lex (unescape l.token) l.text;
  lens : length (unescape l.rest) + l.i ≡ length l.text;
}

abbrev pub decreases-bytes : goal.decreases-bytes
decreases-bytes l = length l.rest
