use Rattle.cbor_forms.specs.declared.values.Form.TheVariants.{Core}
use Rattle.cbor_forms.proofs.Forms.{once}
use Rattle.cbor_forms.proofs.laws.shortened_once.Goals as goal

pub returns : goal.returns
returns c v = once Core v
