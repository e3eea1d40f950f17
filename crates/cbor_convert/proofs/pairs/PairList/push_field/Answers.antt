use Rattle.std.proofs.Common.{◌≡◌, sym, ap, ◌∙◌}
use Rattle.cbor_model.specs.Plain.{text}
use Rattle.cbor_model.specs.Document as document
use Rattle.cbor_value.specs.View.{view}
use Rattle.cbor_value.specs.declared.Value.{Text}
use Rattle.cbor_value.proofs.facts.Views.{view_text}
use Rattle.cbor_convert.specs.Meaning.{value_of}
use Rattle.cbor_convert.proofs.BuilderParts.{pair_held, pairs_stored}
use Rattle.cbor_convert.proofs.Meanings.{value_text}
use Rattle.cbor_convert.proofs.pairs.PairList.push_field.Goals as goal

pub returns-clause-held : goal.returns-clause-held
returns-clause-held g c = λ ps h.
    let d = g.T.Serialize.document c.args.value.now in
    let n = document.text c.args.name.now in
    let name = c.in_ok-name.name in
    let key : view (Text name) ≡ value_of n = view_text name ∙ ap text c.in_ok-name.ensures.ok ∙ sym (value_text c.args.name.now) in
    record {
      values = pair_held ps n d c.args.self.now.pairs.items c.push.new.self.items (Text name) c.in_ok-value.value c.in_ok-push.ensures.items key c.in_ok-value.ensures.value h.values;
      storable = pairs_stored ps n d h.storable tt c.in_ok-value.ensures.storable;
    }
