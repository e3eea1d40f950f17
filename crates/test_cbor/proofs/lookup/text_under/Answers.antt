use Rattle.std.proofs.Common.{◌∙◌, sym, ap, arith}
use Rattle.cbor_model.specs.Plain.{text}
use Rattle.cbor_value.specs.View.{view}
use Rattle.cbor_value.specs.declared.Value.{Text}
use Rattle.serde_cbor.proofs.facts.Values.{spelled_value, is_canonical, view_text}
use Rattle.test_cbor.proofs.Lookups.{of_bytes}
use Rattle.test_cbor.proofs.lookup.text_under.Goals as goal

pub text_in-requires : goal.text_in-requires
text_in-requires c =
    let bs = c.args.bytes.now in
    let value = c.in_ok-value.value in
    (is_canonical bs (view value) (omega arith) (spelled_value bs value c.in_ok-value.ensures.answers.found)).1

pub returns : goal.returns
returns c =
    let bs = c.args.bytes.now in
    let value = c.in_ok-value.value in
    let key = c.in_ok-to_owned.field-0 in
    of_bytes bs c.args.key.now (view value) (view (Text key)) c.in_ok-found.found
    (spelled_value bs value c.in_ok-value.ensures.answers.found)
    (λ w spelt. c.in_ok-value.ensures.answers.every w spelt tt ∙ sym spelt.valued)
    (view_text key ∙ ap text c.in_ok-to_owned.ensures.ok)
    c.in_ok-found.ensures
