use Rattle.std.proofs.Common.{Option, Some}
use Rattle.std.specs.Prelude.{Result}
use Rattle.cbor_model.specs.Document.{docs}
use Rattle.cbor_model.specs.Parts.{items, ending}
use Rattle.cbor_io.specs.declared.error.Error.{Error}
use Rattle.cbor_ser.specs.Serialized.{Stepped}
use Rattle.cbor_ser.specs.declared.items.WriteRefused.{WriteRefused}
use Rattle.cbor_ser.specs.declared.serializer.Serializer.{Serializer}
use Rattle.cbor_ser.proofs.serializer.Serializer.members_step.Given as goal

-- What is written next, with what follows, is all of it.
abbrev pub invariant-loop-one : goal.invariant-loop-one
invariant-loop-one g l = (new : Serializer g.row.W.Denot) (done : Result (Unit {0}) WriteRefused) (o : Option Error)
    → Stepped g.W.Write.written g.W.Write.refuses g.W.Write.references g.W.Write.capacity l.self (items (docs g.T.Serialize.document l.one-iterator) (ending (Some 0))) new done o
    → Stepped g.W.Write.written g.W.Write.refuses g.W.Write.references g.W.Write.capacity l.fn.self (items (docs g.T.Serialize.document l.set.keys) (ending (Some 0))) new done o
