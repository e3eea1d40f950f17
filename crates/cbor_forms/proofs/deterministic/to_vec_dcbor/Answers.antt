use Rattle.std.proofs.Common.{◌∙◌, ap, sym, subst}
use Rattle.cbor_model.specs.Canonical.{IsStorable}
use Rattle.cbor_value.specs.View.{view}
use Rattle.cbor_forms.specs.Shortened.{reduced}
use Rattle.cbor_forms.specs.declared.values.Form.TheVariants.{Dcbor}
use Rattle.cbor_forms.proofs.Forms.{ordered, storable}
use Rattle.cbor_forms.proofs.NotWritten.{no_memory, on_ok_always}
use Rattle.cbor_forms.proofs.FormItems.{written_spells}
use Rattle.cbor_forms.proofs.deterministic.to_vec_dcbor.Goals as goal

pub returns-clause-ordered : goal.returns-clause-ordered
returns-clause-ordered g c = on_ok_always c.to_vec.result (ordered Dcbor _)

pub returns-clause-refused : goal.returns-clause-refused
returns-clause-refused g c =
    let stored = storable Dcbor (view c.in_ok-value.value) c.in_ok-value.ensures.stored in
    no_memory Dcbor c.to_vec.result (view c.in_ok-value-2.value) _ _
    (subst IsStorable (sym c.in_ok-value-2.ensures.reduced) stored) c.to_vec.ensures.refused

pub returns-clause-encoded : goal.returns-clause-encoded
returns-clause-encoded g c =
    let same = c.in_ok-value-2.ensures.reduced in
    let stored = storable Dcbor (view c.in_ok-value.value) c.in_ok-value.ensures.stored in
    written_spells (λ bytes. bytes.items) c.to_vec.result (view c.in_ok-value-2.value) _ (same ∙ ap reduced c.in_ok-value.ensures.value)
    (subst IsStorable (sym same) stored) (ordered Dcbor _) c.to_vec.ensures.in_range c.to_vec.ensures.written
