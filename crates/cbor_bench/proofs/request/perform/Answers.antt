use Rattle.std.proofs.lemmas.Result.{err_from_is_err_and}
use Rattle.serde_cbor.specs.View.{view}
use Rattle.serde_cbor.proofs.facts.Values.{spelled_value}
use Rattle.cbor_bench.proofs.request.perform.Goals as goal

pub returns-in_err-_value-in-Read-clause-accepted : goal.returns-in_err-_value-in-Read-clause-accepted
returns-in_err-_value-in-Read-clause-accepted c =
    let p = err_from_is_err_and c.from_residual.result c.from_residual.ensures.1 in
    λ spelled. let spelt = rw c.in-Read.is at spelled in rw (p.1, p.2) (c.in_err-_value-in-Read.ensures.answers.every spelt.0 spelt.1 tt)

pub returns-in_ok-_value-in-Read-clause-done : goal.returns-in_ok-_value-in-Read-clause-done
returns-in_ok-_value-in-Read-clause-done c =
    let read = c.in_ok-_value-in-Read in
    rw c.in-Read.is (view read._value, spelled_value c.args.item.now read._value read.ensures.answers.found)

pub returns-in_err-_records-in-ReadRecords-clause-accepted : goal.returns-in_err-_records-in-ReadRecords-clause-accepted
returns-in_err-_records-in-ReadRecords-clause-accepted c =
    let p = err_from_is_err_and c.from_residual-in_err-_records-in-ReadRecords.result c.from_residual-in_err-_records-in-ReadRecords.ensures.1 in
    λ spelled. let spelt = rw c.in-ReadRecords.is at spelled in rw (p.1, p.2) (c.in_err-_records-in-ReadRecords.ensures.answers.accepted spelt.0 spelt.1 tt)

pub returns-in_ok-_records-in-ReadRecords-clause-done : goal.returns-in_ok-_records-in-ReadRecords-clause-done
returns-in_ok-_records-in-ReadRecords-clause-done c =
    let read = c.in_ok-_records-in-ReadRecords in
    rw c.in-ReadRecords.is (read._records, read.ensures.answers.found)
