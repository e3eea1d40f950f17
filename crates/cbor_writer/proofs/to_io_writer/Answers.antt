use Rattle.std.proofs.Common.{[], false, rules}
use Rattle.std.proofs.lemmas.Result.{err_from_is_err_and}
use Rattle.std.specs.Io.KnownBytes.{Appends}
use Rattle.cbor_model.specs.Canonical.{canon}
use Rattle.cbor_model.specs.Document.{document_bytes}
use Rattle.cbor_io.specs.Write.{AppendsBeginning, IsFault, Wrote}
use Rattle.cbor_ser.specs.Serialized.{WroteValue}
use Rattle.cbor_writer.specs.GivenByBlocks.{given}
use Rattle.cbor_writer.specs.Held.{given_to}
use Rattle.cbor_writer.proofs.SentBlocks.{beginning_held, beginning_through, begun, through}
use Rattle.cbor_writer.proofs.Values.{value_begun, value_through}
use Rattle.cbor_writer.proofs.to_io_writer.Goals as goal

-- ---- the document is refused, or the writer fails within it

pub returns-in_err-to_writer-clause-written : goal.returns-in_err-to_writer-clause-written
returns-in_err-to_writer-clause-written g c =
    let stay = c.in_err-to_writer.ensures.same_references in
    let contents = g.W.Write.contents in
    let mid = c.to_writer.new.writer in
    let bytes = document_bytes (g.T.Serialize.document c.args.value.now) false false in
    let p = err_from_is_err_and c.from_residual.result c.from_residual.ensures.1 in
    let some : AppendsBeginning bytes (given (contents c.args.writer.now) 0 [])
    (given_to contents mid) =
    rw c.new-blocks.ensures.begun at c.in_err-to_writer.ensures.written.err in
    let front : Wrote (contents c.args.writer.now) bytes (contents mid.writer.now)
    c.from_residual.result =
    rw p.1 (begun _ _ bytes p.0 (beginning_held _ _ _ _ _ some)) in
    search (rules, stay, front)

pub returns-in_err-to_writer-clause-before : goal.returns-in_err-to_writer-clause-before
returns-in_err-to_writer-clause-before g c front stands =
    let stay = c.in_err-to_writer.ensures.same_references in
    let contents = g.W.Write.contents in
    let some : AppendsBeginning front (given (contents c.args.writer.now) 0 [])
    (given_to contents c.to_writer.new.writer) =
    rw c.new-blocks.ensures.begun at c.in_err-to_writer.ensures.before front stands in
    let held = beginning_held _ _ _ _ _ some in
    search (rules, stay, held)

pub returns-in_err-to_writer-clause-canonical : goal.returns-in_err-to_writer-clause-canonical
returns-in_err-to_writer-clause-canonical g c v is =
    let stay = c.in_err-to_writer.ensures.same_references in
    let contents = g.W.Write.contents in
    let mid = c.to_writer.new.writer in
    let value = c.in_err-to_writer.ensures.canonical v is in
    let p = err_from_is_err_and c.from_residual.result c.from_residual.ensures.1 in
    let some : AppendsBeginning (canon v) (given (contents c.args.writer.now) 0 [])
    (given_to contents mid) =
    rw c.new-blocks.ensures.begun at value.written.err in
    let all : WroteValue contents (λ _ e. IsFault e) c.args.writer.now v mid.writer.now
    c.from_residual.result =
    rw (p.1, p.2) (value_begun v _ (beginning_held _ _ _ _ _ some) value.refused) in
    search (rules, stay, all)

-- ---- all of it was given to the sink

pub returns-clause-written : goal.returns-clause-written
returns-clause-written g c =
    let stay = c.in_ok-to_writer.ensures.same_references in
    let contents = g.W.Write.contents in
    let bytes = document_bytes (g.T.Serialize.document c.args.value.now) false false in
    let whole : Appends (given (contents c.args.writer.now) 0 [])
    (given_to contents c.to_writer.new.writer) bytes =
    rw c.new-blocks.ensures.begun at c.in_ok-to_writer.ensures.written.ok in
    let all = through _ _ _ _ _ _ _ whole c.finish.ensures.sent in
    search (rules, stay, all)

pub returns-clause-before : goal.returns-clause-before
returns-clause-before g c front stands =
    let stay = c.in_ok-to_writer.ensures.same_references in
    let contents = g.W.Write.contents in
    let some : AppendsBeginning front (given (contents c.args.writer.now) 0 [])
    (given_to contents c.to_writer.new.writer) =
    rw c.new-blocks.ensures.begun at c.in_ok-to_writer.ensures.before front stands in
    let held = beginning_through _ _ _ _ _ _ _ some c.finish.ensures.sent in
    search (rules, stay, held)

pub returns-clause-canonical : goal.returns-clause-canonical
returns-clause-canonical g c v is =
    let stay = c.in_ok-to_writer.ensures.same_references in
    let contents = g.W.Write.contents in
    let value = c.in_ok-to_writer.ensures.canonical v is in
    let whole : Appends (given (contents c.args.writer.now) 0 [])
    (given_to contents c.to_writer.new.writer) (canon v) =
    rw c.new-blocks.ensures.begun at value.written.ok in
    let all : WroteValue contents (λ _ e. IsFault e) c.args.writer.now v
    c.finish.new.self.writer.now c.finish.result =
    value_through v _ value.storable value.in_range
    (through _ _ _ _ _ _ _ whole c.finish.ensures.sent) c.finish.ensures.refused in
    search (rules, stay, all)
