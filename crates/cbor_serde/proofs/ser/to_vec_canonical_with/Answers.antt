use Rattle.std.proofs.Common.{[], Some, Result, Ok, Err, IfOk, refl, ◌∙◌}
use Rattle.serde.specs.Event.{Log}
use Rattle.cbor_model.specs.Document.{document_of}
use Rattle.cbor_value.specs.View.{view}
use Rattle.cbor_ser.specs.Bytes.{SpellsValues}
use Rattle.cbor_serde.specs.Item.{IsCanonicalOf}
use Rattle.cbor_serde.proofs.ser.to_vec_canonical_with.Goals as goal

map_ok : {A E : Type 0} (P Q : A → Type 0) (r : Result A E) → ((x : A) → P x → Q x) → IfOk r P → IfOk r Q
map_ok P Q (Ok x) f h = f x h
map_ok P Q (Err e) f h = h

pub returns : goal.returns
returns g c =
    let sent = c.in_ok-bytes.ensures.events in
    let found = c.in_ok-value.ensures.answers.found in
    record {
      canonical = map_ok (λ bytes. SpellsValues bytes.items (document_of (view c.in_ok-value.value))) (λ bytes. (log : Log) × g.T.Described.writes c.args.value.now (Some []) log × IsCanonicalOf c.args.options log bytes.items) c.to_vec.result (λ bytes canon. (
        sent.0,
        sent.1,
        record {
          plain = c.in_ok-bytes.bytes.items;
          sent = sent.2;
          tree = view c.in_ok-value.value;
          spells = record { item = found.item; acceptable = found.acceptable; spelled = found.spelled ∙ c.deref.ensures.value; valued = found.means };
          canonical = canon (view c.in_ok-value.value) refl;
        },
      )) c.to_vec.ensures.canonical;
    }
