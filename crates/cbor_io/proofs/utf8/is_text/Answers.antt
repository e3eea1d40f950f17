use Rattle.std.proofs.lemmas.Bool.{MatchBool-at_true}
use Rattle.std.proofs.lemmas.Str.{IsUtf8-from_ascii}
use Rattle.cbor_io.proofs.utf8.is_text.Goals as goal

pub returns-then-is_ascii : goal.returns-then-is_ascii
returns-then-is_ascii c =
    let ascii = MatchBool-at_true _ _ c.if-is_ascii.true c.is_ascii.ensures.cases in
    (λ _. IsUtf8-from_ascii _ ascii, λ _. c.if-is_ascii.true)
