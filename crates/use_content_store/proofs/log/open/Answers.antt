use Rattle.std.proofs.Common.{◌≡◌, ◌∙◌, ℕ, [], ◌∷◌, ◌++◌, Err, ap, inl, refl, rules, subst, sym}
use Rattle.serde_cbor.specs.Acceptable.{max_depth}
use Rattle.serde_cbor.specs.Canonical.{canon}
use Rattle.serde_cbor.specs.Formats.{all_formats}
use Rattle.serde_cbor.specs.Plain.{Val}
use Rattle.serde_cbor.specs.Source.{start_of_reader}
use Rattle.serde_cbor.specs.Sources.{input_of_reader}
use Rattle.serde_cbor.specs.StreamedItems.{HasStreamedItems}
use Rattle.serde_cbor.specs.Streams.{Stream, begun, standing}
use Rattle.serde_cbor.specs.Value.{value}
use Rattle.serde_cbor.specs.View.{view}
use Rattle.serde_cbor.proofs.facts.Filled.{has_none}
use Rattle.serde_cbor.proofs.facts.Sequences.{broken_there, up_to, whole_at_cut, whole_at_end, written_again}
use Rattle.serde_cbor.proofs.facts.Streams.{no_item_streamed, one_item_streamed}
use Rattle.use_content_store.specs.declared.log.OpenError.TheVariants as opening
use Rattle.use_content_store.specs.declared.store.Put.TheVariants.{Collision, Stored}
use Rattle.use_content_store.specs.Store.{Puts, address, at}
use Rattle.use_content_store.specs.Log.{Opens}
use Rattle.use_content_store.proofs.Keeping.{holds_more}
use Rattle.use_content_store.proofs.log.open.Goals as goal

pub records-init : goal.records-init
records-init g c =
    let is : standing (input_of_reader g.R.Read.remaining) c.into_iter-stream.result ≡ begun (start_of_reader (g.R.Read.remaining c.args.reader)) max_depth all_formats =
    c.into_iter-stream.ensures.begun ∙ rw (c.from_reader.ensures.input, c.from_reader.ensures.levels, c.from_reader.ensures.formats) refl in
    let none = has_none (λ r. address (value r)) (λ r. canon (value r)) (at c.new-store.result) c.new-store.ensures in
    record { far = λ bytes gave. ([], subst (HasStreamedItems view bytes []) (sym is) (no_item_streamed view bytes _ gave), none); whole = sym (ap (λ (s : Stream). s.input.offset) is) }

pub returns-in-Err : goal.returns-in-Err
returns-in-Err g c bytes gave =
    let far = c.records.invariant.far bytes gave in let given = rw c.in-Err.is at c.in-Some.ensures.steps in
    rw c.records.invariant.whole (up_to far.1, far.2, whole_at_cut far.1 c.item_refused_first.ensures c.in-Err.error given (c.is_cut_off.ensures.0 (search rules)))

pub returns-in-Err-2 : goal.returns-in-Err-2
returns-in-Err-2 g c bytes gave =
    let far = c.records.invariant.far bytes gave in let given = rw c.in-Err.is at c.in-Some.ensures.steps in
    rw c.records.invariant.whole (broken_there far.1 c.item_refused_first.ensures c.in-Err.error given (λ says. search (rules, c.is_cut_off.ensures.1 says)))

pub records-preserved : goal.records-preserved
records-preserved g c = record {
  whole = c.byte_offset-whole.ensures;
  far = λ bytes gave. let far = c.records.invariant.far bytes gave in
      let next = one_item_streamed view bytes far.1 c.in-Ok.value (rw c.in-Ok.is at c.in-Some.ensures.steps) refl in
      let puts = subst (λ (v : Val). Puts c.records.store v c.put.new.self Stored) next.2 (rw c.in-Ok-Stored.field-0-is at c.in-Ok-Stored.ensures.ok) in
      (far.0 ++ next.0 ∷ [], next.3, holds_more c.records.store c.put.new.self far.0 next.0 far.2 puts);
}

pub returns-in-Ok-Collision : goal.returns-in-Ok-Collision
returns-in-Ok-Collision g c bytes gave =
    let far = c.records.invariant.far bytes gave in
    let next = one_item_streamed view bytes far.1 c.in-Ok.value (rw c.in-Ok.is at c.in-Some.ensures.steps) refl in
    let puts = subst (λ (v : Val). Puts c.records.store v c.put.new.self Collision) next.2 (rw c.in-Ok-Collision.field-0-is at c.in-Ok-Collision.ensures.ok) in
    subst (λ (n : ℕ). Opens bytes (Err (opening.Collision n))) (sym c.records.invariant.whole) (up_to far.1, c.records.store, next.0, far.2, (next.3.given.rest, next.3.begin), puts.1)

pub returns-in-Err-put : goal.returns-in-Err-put
returns-in-Err-put g c bytes gave =
    let next = one_item_streamed view bytes (c.records.invariant.far bytes gave).1 c.in-Ok.value (rw c.in-Ok.is at c.in-Some.ensures.steps) refl in
    inl (written_again c.in-Err-put.error (record { item = next.0; acceptable = next.1; spelled = refl; valued = next.2 }) c.in-Err-put.ensures.refused)

pub returns : goal.returns
returns g c bytes gave =
    let far = c.records.invariant.far bytes gave in
    rw c.records.invariant.whole (up_to far.1, far.2, whole_at_end far.1 c.in_default.ensures.steps)
