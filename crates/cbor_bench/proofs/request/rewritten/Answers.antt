use Rattle.std.proofs.Common.{arith, inl}
use Rattle.std.proofs.lemmas.Result.{err_from_is_err_and, IfErr-weaker}
use Rattle.cbor_model.specs.Document.{document_of, IsStorableDocument}
use Rattle.cbor_model.proofs.facts.Documents.{storable_document}
use Rattle.serde_cbor.specs.Error.{IsOutOfMemory}
use Rattle.serde_cbor.specs.View.{view}
use Rattle.serde_cbor.proofs.facts.Values.{spelled_value, is_canonical}
use Rattle.cbor_bench.proofs.OnlyMemory.{memory_alone}
use Rattle.cbor_bench.proofs.request.rewritten.Goals as goal

pub returns-in_err-value-clause-accepted : goal.returns-in_err-value-clause-accepted
returns-in_err-value-clause-accepted c =
    let p = err_from_is_err_and c.from_residual.result c.from_residual.ensures.1 in
    λ spelled. rw (p.1, p.2) (c.in_err-value.ensures.answers.every spelled.0 spelled.1 tt)

pub returns-clause-accepted : goal.returns-clause-accepted
returns-clause-accepted c = λ spelled.
    let v = view c.in_ok-value.value in
    let storable = (is_canonical c.args.item.now v (omega arith) (spelled_value c.args.item.now c.in_ok-value.value c.in_ok-value.ensures.answers.found)).0 in
    memory_alone (IsStorableDocument (document_of v)) c.to_vec.result (storable_document v storable) c.to_vec.ensures.refused

pub returns-clause-refused : goal.returns-clause-refused
returns-clause-refused c =
    let v = view c.in_ok-value.value in
    let storable = (is_canonical c.args.item.now v (omega arith) (spelled_value c.args.item.now c.in_ok-value.value c.in_ok-value.ensures.answers.found)).0 in
    let memory = memory_alone (IsStorableDocument (document_of v)) c.to_vec.result (storable_document v storable) c.to_vec.ensures.refused in
    IfErr-weaker c.to_vec.result IsOutOfMemory _ (λ e h. inl h) memory
