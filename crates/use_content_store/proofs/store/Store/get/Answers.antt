use Rattle.std.proofs.Common.{◌≡◌, ◌∙◌, Some, inl, rules, sym}
use Rattle.std.proofs.lemmas.Result.{err_from_is_err_and}
use Rattle.serde_cbor.proofs.facts.Values.{spelled_unwritten_for_memory, spelled_value}
use Rattle.use_content_store.specs.Store.{at}
use Rattle.use_content_store.proofs.store.Store.get.Goals as goal

pub returns-in_err-hash-clause-refused : goal.returns-in_err-hash-clause-refused
returns-in_err-hash-clause-refused c =
    let p = err_from_is_err_and c.from_residual-in_err-hash.result c.from_residual-in_err-hash.ensures.1 in
    rw (p.1, p.2) (inl (spelled_unwritten_for_memory c.in_err-hash.field-0.0 (spelled_value c.args.bytes.now c.in_ok-value.value c.in_ok-value.ensures.answers.found) c.in_err-hash.ensures.refused))

pub returns-then-not-has-clause-found : goal.returns-then-not-has-clause-found
returns-then-not-has-clause-found c v spelt held =
    let here : at c.args.self.now c.in_ok-hash.hash ≡ Some c.deref.result.now = rw (c.deref.ensures.value, c.in_ok-hash.ensures.hash, c.in_ok-hash.ensures.bytes, c.in_ok-value.ensures.answers.every v spelt tt ∙ sym spelt.valued) held in
    search (rules, c.has.ensures.1 here)
