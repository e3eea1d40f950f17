use Rattle.cbor_forms.specs.declared.values.Form.TheVariants.{Dcbor}
use Rattle.cbor_forms.proofs.Forms.{once}
use Rattle.cbor_forms.proofs.laws.reduced_once.Goals as goal

pub returns : goal.returns
returns c v = once Dcbor v
