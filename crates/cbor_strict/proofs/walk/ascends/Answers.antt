use Rattle.std.proofs.Common.{arith}
use Rattle.cbor_strict.proofs.KeyWords.{above_by_words}
use Rattle.cbor_strict.proofs.walk.ascends.Goals as goal

pub returns-in-2 : goal.returns-in-2
returns-in-2 c =
    let x = c.two.ensures in
    let y = c.two-in-2.ensures in
    above_by_words c.args.before.now c.args.key.now c.two.result c.two-in-2.result (omega arith) x.bytes y.bytes x.value y.value

pub returns-in-3 : goal.returns-in-3
returns-in-3 c =
    let x = c.three.ensures in
    let y = c.three-in-3.ensures in
    above_by_words c.args.before.now c.args.key.now c.three.result c.three-in-3.result (omega arith) x.bytes y.bytes x.value y.value

pub returns-in-5 : goal.returns-in-5
returns-in-5 c =
    let x = c.five.ensures in
    let y = c.five-in-5.ensures in
    above_by_words c.args.before.now c.args.key.now c.five.result c.five-in-5.result (omega arith) x.bytes y.bytes x.value y.value
