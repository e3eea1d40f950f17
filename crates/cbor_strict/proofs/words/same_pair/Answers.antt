use Rattle.std.proofs.Common.{◌≡◌, ◌+◌, ◌-◌, take, arith}
use Rattle.std.proofs.lemmas.Bool.{eqb-true}
use Rattle.cbor_strict.proofs.KeyWords.{longer_front}
use Rattle.cbor_strict.proofs.words.same_pair.Goals as goal

pub returns-then-word : goal.returns-then-word
returns-then-word c = λ same.
    let at = c.args.at in
    let xs = c.args.before.now in
    let ys = c.args.key.now in
    let first = c.word.ensures in
    let first' = c.word-2.ensures in
    let second = c.word-then-word.ensures in
    let second' = c.word-then-word-2.ensures in
    let front : take (at + 8) xs ≡ take (at + 8) ys = longer_front at (at + 8 - at) (at + 8) xs ys c.word.result c.word-2.result (omega arith) (omega arith) c.requires.same c.requires.front first.value first'.value first.bytes first'.bytes c.if-word.true in
    longer_front (at + 8) (at + 16 - (at + 8)) (at + 16) xs ys c.word-then-word.result c.word-then-word-2.result (omega arith) (omega arith) c.requires.same front second.value second'.value second.bytes second'.bytes (eqb-true c.word-then-word.result c.word-then-word-2.result same)
