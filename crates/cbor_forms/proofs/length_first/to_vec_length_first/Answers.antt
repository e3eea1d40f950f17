use Rattle.std.proofs.Common.{◌∙◌, sym, ap, subst}
use Rattle.cbor_model.specs.Canonical.{IsStorable}
use Rattle.cbor_value.specs.View.{view}
use Rattle.cbor_forms.specs.Shortened.{shortened}
use Rattle.cbor_forms.specs.declared.values.Form.TheVariants.{Core}
use Rattle.cbor_forms.proofs.Forms.{storable, ordered}
use Rattle.cbor_forms.proofs.ReadBack.{read_from, spelled_from}
use Rattle.cbor_forms.proofs.length_first.to_vec_length_first.Goals as goal

pub append-requires : goal.append-requires
append-requires g c =
    subst IsStorable (sym c.in_ok-value-2.ensures.shortened)
    (storable Core (view c.in_ok-value.value) c.in_ok-value.ensures.stored)

pub returns-clause-read_back : goal.returns-clause-read_back
returns-clause-read_back g c nests =
    let stored = subst IsStorable (sym c.in_ok-value-2.ensures.shortened)
    (storable Core (view c.in_ok-value.value) c.in_ok-value.ensures.stored) in
    read_from _ (view c.in_ok-value-2.value) _ _
    (c.in_ok-value-2.ensures.shortened ∙ ap shortened c.in_ok-value.ensures.value)
    stored (ordered Core _) c.in_memory.ensures.in_memory c.new-bytes.ensures.items
    c.in_ok-append.ensures.written nests

pub returns-clause-encoded : goal.returns-clause-encoded
returns-clause-encoded g c =
    let stored = subst IsStorable (sym c.in_ok-value-2.ensures.shortened)
    (storable Core (view c.in_ok-value.value) c.in_ok-value.ensures.stored) in
    spelled_from _ (view c.in_ok-value-2.value) _ _
    (c.in_ok-value-2.ensures.shortened ∙ ap shortened c.in_ok-value.ensures.value)
    stored (ordered Core _) c.in_memory.ensures.in_memory c.new-bytes.ensures.items
    c.in_ok-append.ensures.written
