use Rattle.std.proofs.Common.{◌≡◌, List, ℕ, IfOk, sym, subst}
use Rattle.std.specs.Cow.{cow_slice_items}
use Rattle.cbor_model.specs.Canonical.{canon, IsStorable}
use Rattle.cbor_model.proofs.facts.Laws.{value_is_storable}
use Rattle.cbor_value.specs.View.{view}
use Rattle.cbor_rules.specs.Rules.{canonical_key}
use Rattle.cbor_rules.proofs.CanonicalKeys.{key_itself, key_of_value, unread}
use Rattle.cbor_rules.proofs.canonical_key.canonical_key.Goals as goal

pub returns-in-Ok-clause-bytes : goal.returns-in-Ok-clause-bytes
returns-in-Ok-clause-bytes c =
    let v = view c.in-Ok.value in
    let found = c.in-Ok.ensures.answers.found in
    let key : canonical_key c.args.key.now ≡ canon v = key_of_value c.args.key.now v c.are_bytes.ensures.short (record { item = found.item; acceptable = found.acceptable; spelled = found.spelled; valued = found.means }) in
    subst (λ (b : List ℕ). IfOk c.encoding.result (λ bytes. cow_slice_items bytes ≡ b)) (sym key) c.encoding.ensures.bytes

pub returns-in-Ok-clause-memory : goal.returns-in-Ok-clause-memory
returns-in-Ok-clause-memory c =
    let found = c.in-Ok.ensures.answers.found in
    c.encoding.ensures.memory (subst IsStorable (sym found.means) (value_is_storable found.item found.acceptable.fits))

pub returns-clause-bytes : goal.returns-clause-bytes
returns-clause-bytes c =
    sym (key_itself c.reader_finds.ensures c.args.key.now c.are_bytes.ensures.bytes (λ v spelt. absurd (unread _ c.in-Err.e c.is_memory.ensures c.if-is_memory.false (c.in-Err.ensures.answers.every v spelt tt))))
