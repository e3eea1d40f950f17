use Rattle.std.proofs.Common.{◌≡◌, ℕ, true, List, ◌∷◌, Ok, refl}
use Rattle.cbor_decode.proofs.facts.Steps.{peeked_step}
use Rattle.cbor_decode_as.specs.Nulls.{null_at}
use Rattle.cbor_decode_as.proofs.null.take_null_peeked.Goals as goal

null_first : (b : ℕ) (rest : List ℕ) → b ≡ 246 → null_at (b ∷ rest) ≡ Ok (true, rest)
null_first b rest is = rw is refl

pub returns-in-Ok-Some-eq246-clause-read : goal.returns-in-Ok-Some-eq246-clause-read
returns-in-Ok-Some-eq246-clause-read g c =
    let h = c.in-Ok-Some-eq246 in
    peeked_step _ _ _ _ h.field-0 h.field-0-0 (λ l bs rest. null_at bs ≡ Ok (true, rest)) (λ l rest. null_first h.field-0-0 rest h.field-0-0-test) h.ensures.peeked h.field-0-is h.ensures.stays c.discard.ensures
