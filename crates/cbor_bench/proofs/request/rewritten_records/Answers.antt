use Rattle.std.proofs.Common.{List, [], ◌∷◌, Vec, arith}
use Rattle.std.specs.Prelude.{String}
use Rattle.std.specs.declared.alloc.Global.{Global}
use Rattle.std.proofs.lemmas.Result.{err_from_is_err_and, IfOk-weaker}
use Rattle.serde_cbor.specs.Raw as raw
use Rattle.serde_cbor.specs.Raw.{Raw, Raws, no_raws}
use Rattle.serde_cbor.specs.Arrays.{AsArray, AreRead}
use Rattle.serde_cbor.specs.Document.{docs, IsStorableDocument, AreStorableDocuments}
use Rattle.serde_cbor.specs.Maps.{AsMap}
use Rattle.serde_cbor.specs.Structs.{AreFieldsOf, IsField}
use Rattle.serde_cbor.specs.Readable.{untagged}
use Rattle.cbor_bench.specs.Record.{names, fields, values, IsRecord, text_of, record_document}
use Rattle.cbor_bench.specs.declared.record.Record.{Record}
use Rattle.cbor_bench.proofs.OnlyMemory.{memory_alone}
use Rattle.cbor_bench.proofs.request.rewritten_records.Goals as goal

texts_fit : (xs : List (String Global)) → AreStorableDocuments (docs text_of xs)
texts_fit [] = tt
texts_fit (x ∷ xs) = (tt, texts_fit xs)

record_fits : (r : Raw) (x : Record) → AsMap (AreFieldsOf (IsField names) fields) r (values x) → IsStorableDocument (record_document x)
record_fits (raw.unsigned w n) x h = absurd h
record_fits (raw.negative w n) x h = absurd h
record_fits (raw.bytes c) x h = absurd h
record_fits (raw.text c) x h = absurd h
record_fits (raw.bytes_chunks cs) x h = absurd h
record_fits (raw.text_chunks cs) x h = absurd h
record_fits (raw.array l rs) x h = absurd h
record_fits (raw.map l ps) x h = (omega (arith, h.read.0.2.1), (tt, (tt, (omega (arith, h.read.1.1.1.0.2.1), (texts_fit x.tags.items, (tt, tt))))))
record_fits (raw.tag w n r) x h = absurd h
record_fits (raw.simple s) x h = absurd h
record_fits (raw.float w bits) x h = absurd h

records_fit : (rs : Raws) (xs : List Record) → AreRead IsRecord rs xs → AreStorableDocuments (docs record_document xs)
records_fit no_raws [] h = tt
records_fit no_raws (x ∷ xs) h = absurd h
records_fit (raw.raw r rs) [] h = absurd h
records_fit (raw.raw r rs) (x ∷ xs) h = (record_fits (untagged r) x h.0, records_fit rs xs h.1)

array_fits : (r : Raw) (x : Vec Record Global) → AsArray (λ rs v. AreRead IsRecord rs v.items) r x → AreStorableDocuments (docs record_document x.items)
array_fits (raw.unsigned w n) x h = absurd h
array_fits (raw.negative w n) x h = absurd h
array_fits (raw.bytes c) x h = absurd h
array_fits (raw.text c) x h = absurd h
array_fits (raw.bytes_chunks cs) x h = absurd h
array_fits (raw.text_chunks cs) x h = absurd h
array_fits (raw.array l rs) x h = records_fit rs x.items h
array_fits (raw.map l ps) x h = absurd h
array_fits (raw.tag w n r) x h = absurd h
array_fits (raw.simple s) x h = absurd h
array_fits (raw.float w bits) x h = absurd h

pub returns-in_err-records-clause-accepted : goal.returns-in_err-records-clause-accepted
returns-in_err-records-clause-accepted c =
    let p = err_from_is_err_and c.from_residual.result c.from_residual.ensures.1 in
    λ spelled. rw (p.1, p.2) (c.in_err-records.ensures.answers.accepted spelled.0 spelled.1 tt)

pub returns-clause-accepted : goal.returns-clause-accepted
returns-clause-accepted c = λ spelled.
    let storable = array_fits (untagged c.in_ok-records.ensures.answers.found.item) c.in_ok-records.records c.in_ok-records.ensures.answers.found.means in
    memory_alone (AreStorableDocuments (docs record_document c.in_ok-records.records.items)) c.to_vec.result storable c.to_vec.ensures.refused

pub returns-clause-written : goal.returns-clause-written
returns-clause-written c = IfOk-weaker c.to_vec.result _ _ (λ bytes h. (c.in_ok-records.records, c.in_ok-records.ensures.answers.found, h)) c.to_vec.ensures.written
