use Rattle.std.proofs.Common.{refl}
use Rattle.cbor_read.proofs.InPlace.{down_front, down_permutation, down_rest, stays_front}
use Rattle.cbor_read.proofs.in_place.bring_down.Goals as goal

pub returns-clause-front : goal.returns-clause-front
returns-clause-front c =
    down_front c.args.bytes.now _ c.args.to c.args.from c.args.n _ c.requires.order
    c.requires.within refl
    (record {
      front = c.bring_to_front.ensures.front;
      permutation = c.bring_to_front.ensures.permutation;
    })

pub returns-clause-permutation : goal.returns-clause-permutation
returns-clause-permutation c =
    down_permutation c.args.bytes.now _ c.args.to c.args.from c.args.n _ c.requires.order
    c.requires.within refl
    (record {
      front = c.bring_to_front.ensures.front;
      permutation = c.bring_to_front.ensures.permutation;
    })

pub returns-clause-rest : goal.returns-clause-rest
returns-clause-rest c =
    down_rest c.args.bytes.now _ c.args.to c.args.from c.args.n _ c.requires.order
    c.requires.within refl
    (record {
      front = c.bring_to_front.ensures.front;
      permutation = c.bring_to_front.ensures.permutation;
    })

pub returns-then-n-eq0-clause-front : goal.returns-then-n-eq0-clause-front
returns-then-n-eq0-clause-front c =
    stays_front c.args.bytes.now c.args.to c.args.from c.args.n c.then-n-eq0.either
