use Rattle.cbor_model.specs.Raw.{double}
use Rattle.cbor_model.specs.Reader.{number_behind}
use Rattle.cbor_rules.specs.Features.{float_bits}
use Rattle.cbor_rules.specs.Rules.{broken, only}
use Rattle.cbor_rules.specs.Walk.{departure_from}
use Rattle.cbor_rules.proofs.Walking.{after_memory, after_within, float_on, number_end}
use Rattle.cbor_rules.proofs.walk.double.Goals as goal

pub returns-in-Some-clause-walks : goal.returns-in-Some-clause-walks
returns-in-Some-clause-walks c = λ had fuel enough.
    let number = c.in-Some.ensures in
    float_on (departure_from (only c.args.rules.now)) double 27 c.in-Some.bits c.in-Some.left c.args.bytes.now c.float.result number.1 number.2 c.float.ensures

pub returns-in-Some-clause-within : goal.returns-in-Some-clause-within
returns-in-Some-clause-within c =
    let number = c.in-Some.ensures in
    after_within c.args.bytes.now c.in-Some.left c.float.result number.2 (broken (only c.args.rules.now) (float_bits double c.in-Some.bits)) c.float.ensures

pub returns-in-None-clause-walks : goal.returns-in-None-clause-walks
returns-in-None-clause-walks c = λ had fuel enough.
    number_end _ (number_behind 27 c.args.bytes.now) c.in-None.ensures

pub returns-in-Some-clause-memory : goal.returns-in-Some-clause-memory
returns-in-Some-clause-memory c = after_memory c.in-Some.left c.float.result (broken (only c.args.rules.now) (float_bits double c.in-Some.bits)) c.float.ensures
