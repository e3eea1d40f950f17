use Rattle.std.proofs.Common.{◌≡◌, ◌+◌, ◌-◌, length, arith}
use Rattle.std.proofs.lemmas.List.{take_rest}
use Rattle.cbor_strict.proofs.KeyWords.{WordsAt, first_unequal, longer_front, last_above}
use Rattle.cbor_strict.proofs.words.is_above.Goals as goal

pub returns-then-one-other : goal.returns-then-one-other
returns-then-one-other c =
    let at = c.words.at in
    let wide : at + 8 - at ≡ 8 = omega arith in
    let w : WordsAt at c.args.before.now c.args.key.now c.word-one.result c.word-other.result = record {
      same = c.requires.same;
      front = c.words.invariant.1;
      left = rw wide at c.word-one.ensures.value;
      right = rw wide at c.word-other.ensures.value;
      left_bytes = rw wide at c.word-one.ensures.bytes;
      right_bytes = rw wide at c.word-other.ensures.bytes;
    } in
    first_unequal at c.args.before.now c.args.key.now c.word-one.result c.word-other.result w c.if-one-other.true

pub words-preserved : goal.words-preserved
words-preserved c =
    let at = c.words.at in
    let one = c.word-one.ensures in
    let other = c.word-other.ensures in (
      omega (arith, c.words-test.true),
      longer_front at (at + 8 - at) (at + 8) c.args.before.now c.args.key.now c.word-one.result c.word-other.result (omega arith) (omega arith) c.requires.same c.words.invariant.1 one.value other.value one.bytes other.bytes c.if-one-other.false,
    )

pub returns : goal.returns
returns c =
    let before = c.args.before.now in
    let key = c.args.key.now in
    let last = length key - 8 in
    last_above last c.words.at before key _ _ c.word.result c.word-2.result c.requires.same (take_rest before last) (take_rest key last)
    c.words-test.false c.words.invariant.1 c.word.ensures.bytes c.word-2.ensures.bytes c.word.ensures.value c.word-2.ensures.value
