use Rattle.std.proofs.Common.{rules}
use Rattle.cbor_decode_as.proofs.texts.Identifiers.{none_more, first_here, none_first}
use Rattle.cbor_decode_as.proofs.identifier.place.Goals as goal

pub returns-then-eq-clause-place : goal.returns-then-eq-clause-place
returns-then-eq-clause-place c =
    let i = c.names.invariant in
    first_here c.args.text.now _ c.args.names.now c.names.i c.as_bytes.result.now c.eq.result i.before (search rules) c.as_bytes.ensures.value c.eq.ensures c.if-eq.true

pub names-preserved : goal.names-preserved
names-preserved c =
    let i = c.names.invariant in
    record {
      below = search rules;
      before = none_more c.args.text.now _ c.args.names.now c.names.i c.as_bytes.result.now c.eq.result i.before (search rules) c.as_bytes.ensures.value c.eq.ensures c.if-eq.false;
    }

pub returns-clause-place : goal.returns-clause-place
returns-clause-place c = none_first c.args.names.now c.args.text.now c.names.i c.names.invariant.before (search rules)
