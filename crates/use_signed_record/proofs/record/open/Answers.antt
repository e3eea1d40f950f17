use Rattle.std.proofs.Common.{◌∙◌, ap, refl, rules}
use Rattle.serde_cbor.proofs.facts.Canonical.{one_value}
use Rattle.use_signed_record.proofs.Records.{checked, stands_here}
use Rattle.use_signed_record.specs.Record.{algorithm_of}
use Rattle.use_signed_record.proofs.record.open.Goals as goal

pub returns-in_default-clause-refused : goal.returns-in_default-clause-refused
returns-in_default-clause-refused g c header payload signature r =
    c.in_default.ensures _ r.unprotected payload signature (one_value c.in-Ok.ensures.found r.whole)

pub returns-in-Err-from_slice_canonical-clause-refused : goal.returns-in-Err-from_slice_canonical-clause-refused
returns-in-Err-from_slice_canonical-clause-refused g c =
    stands_here c.in-Ok.ensures.found c.in-Some.ensures.1 (λ w here named. c.in-Err-from_slice_canonical.ensures.accepted w here)

pub returns-then-not-names-clause-refused : goal.returns-then-not-names-clause-refused
returns-then-not-names-clause-refused g c =
    stands_here c.in-Ok.ensures.found c.in-Some.ensures.1 (λ w here named.
    let same = ap algorithm_of (one_value c.in-Ok-from_slice_canonical.ensures.found here) ∙ named in search (rules, same))

pub returns-then-not-is_valid-clause-refused : goal.returns-then-not-is_valid-clause-refused
returns-then-not-is_valid-clause-refused g c = (
  _,
  _,
  checked c.in-Ok.ensures.found c.in-Some.ensures.1 c.in-Ok-from_slice_canonical.ensures.found _ _ _ _ (search rules)
      c.in-Ok-signed_and_payload.ensures.payload c.in-Ok-signed_and_payload.ensures.signed
      (c.deref.result, c.in-Some.parts.signature, c.if-not-is_valid.ensures, c.deref.ensures.value, refl),
)

pub returns-clause-checked : goal.returns-clause-checked
returns-clause-checked g c =
    checked c.in-Ok.ensures.found c.in-Some.ensures.1 c.in-Ok-from_slice_canonical.ensures.found _ _ _ _ (search rules)
    c.in-Ok-signed_and_payload.ensures.payload c.in-Ok-signed_and_payload.ensures.signed
    (c.deref.result, c.in-Some.parts.signature, c.if-not-is_valid.ensures, c.deref.ensures.value, refl)
