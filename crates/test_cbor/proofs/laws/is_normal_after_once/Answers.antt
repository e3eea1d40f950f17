use Rattle.std.proofs.Common.{rules, ◌≡◌, ◌∙◌, List, ℕ, ap, refl, sym, subst, arith}
use Rattle.cbor_model.specs.Canonical.{canon}
use Rattle.cbor_model.specs.Laws.{SpellsValue}
use Rattle.cbor_value.specs.View.{view}
use Rattle.serde_cbor.proofs.facts.Values.{spelled_value}
use Rattle.test_cbor.proofs.laws.is_normal_after_once.Goals as goal

pub returns : goal.returns
returns c =
    let v = view c.in_ok-value.value in
    let w = view c.in_ok-again.again in
    let once = c.in_ok-once.once.items in
    let first = c.in_ok-once.ensures.canonical v refl in
    let back : SpellsValue once v = first.read_back c.args.bytes.now (omega arith) (spelled_value c.args.bytes.now c.in_ok-value.value c.in_ok-value.ensures.answers.found) in
    let here : SpellsValue c.deref.result.now v = subst (λ (bs : List ℕ). SpellsValue bs v) (sym c.deref.ensures.value) back in
    let same : w ≡ v = c.in_ok-again.ensures.answers.every v here tt ∙ sym here.valued in
    let second = c.in_ok-twice.ensures.canonical w refl in
    let twice : once ≡ c.in_ok-twice.twice.items = first.written ∙ ap canon (sym same) ∙ sym second.written in
    search (rules, twice)
