use Rattle.std.proofs.Common.{◌≡◌, ltb, true, refl, arith}
use Rattle.std.proofs.lemmas.Bool.{lt-ltb}
use Rattle.std.specs.Int.{w8, w16, w32, w64}
use Rattle.cbor_model.specs.Reader.{number_behind}
use Rattle.cbor_decode.proofs.WholeHeads.{at_24, at_25, at_26, at_27, argument_front}
use Rattle.cbor_decode.proofs.at_hand.argument_in.Goals as goal

pub returns-in-0-to-23-clause-read : goal.returns-in-0-to-23-clause-read
unfolding number_behind
returns-in-0-to-23-clause-read c = λ rest.
    let below : ltb c.args.low 24 ≡ true = lt-ltb c.args.low 24 (omega (arith, c.in-0-to-23)) in
    rw below refl

pub returns-in-Some-clause-read : goal.returns-in-Some-clause-read
returns-in-Some-clause-read c =
    let low = c.args.low in
    argument_front w8 low c.from_be_bytes.result c.args.behind.now c.in-Some.bytes.now (λ bs. at_24 low bs c.in-24.is) c.in-Some.ensures.cases c.from_be_bytes.ensures

pub returns-in-Some-first_chunk-clause-read : goal.returns-in-Some-first_chunk-clause-read
returns-in-Some-first_chunk-clause-read c =
    let low = c.args.low in
    argument_front w16 low c.from_be_bytes-in-Some-first_chunk.result c.args.behind.now c.in-Some-first_chunk.bytes.now (λ bs. at_25 low bs c.in-25.is) c.in-Some-first_chunk.ensures.cases c.from_be_bytes-in-Some-first_chunk.ensures

pub returns-in-Some-first_chunk-2-clause-read : goal.returns-in-Some-first_chunk-2-clause-read
returns-in-Some-first_chunk-2-clause-read c =
    let low = c.args.low in
    argument_front w32 low c.from_be_bytes-in-Some-first_chunk-2.result c.args.behind.now c.in-Some-first_chunk-2.bytes.now (λ bs. at_26 low bs c.in-26.is) c.in-Some-first_chunk-2.ensures.cases c.from_be_bytes-in-Some-first_chunk-2.ensures

pub returns-in-Some-first_chunk-3-clause-read : goal.returns-in-Some-first_chunk-3-clause-read
returns-in-Some-first_chunk-3-clause-read c =
    let low = c.args.low in
    argument_front w64 low c.from_be_bytes-in-Some-first_chunk-3.result c.args.behind.now c.in-Some-first_chunk-3.bytes.now (λ bs. at_27 low bs c.in-27.is) c.in-Some-first_chunk-3.ensures.cases c.from_be_bytes-in-Some-first_chunk-3.ensures
