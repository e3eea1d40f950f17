use Rattle.std.proofs.Common.{◌∙◌, refl}
use Rattle.serde_cbor.specs.Document.{raw_of}
use Rattle.serde_cbor.specs.Meaning.{value_of}
use Rattle.serde_cbor.specs.Value.{value}
use Rattle.use_signed_record.proofs.record.signed_and_payload.Goals as goal

pub returns-clause-signed : goal.returns-clause-signed
unfolding value_of value raw_of
returns-clause-signed c = c.in_ok-signed.ensures.canonical.written ∙ rw (c.new-protected.ensures, c.new.ensures, c.new-payload.ensures) refl
