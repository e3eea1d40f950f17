use Rattle.std.proofs.Common.{rules, ◌≡◌, ℕ, true, List, ◌∷◌, Some, Ok, refl}
use Rattle.cbor_decode.proofs.facts.Steps.{peeked_step}
use Rattle.cbor_decode_as.specs.Tags.{begins_tag, tag_first_at}
use Rattle.cbor_decode_as.proofs.tags.tag_first.Goals as goal

begins : (b : ℕ) (rest : List ℕ) → begins_tag b ≡ true → tag_first_at (b ∷ rest) ≡ Ok (Some b, rest)
begins b rest is = rw is refl

pub returns-else-not-begins_tag-clause-read : goal.returns-else-not-begins_tag-clause-read
returns-else-not-begins_tag-clause-read g c =
    let h = c.in-Ok-Some in
    let is : begins_tag h.first ≡ true = search rules in
    peeked_step _ _ _ _ h.field-0 h.first (λ l bs rest. tag_first_at bs ≡ Ok (Some h.first, rest)) (λ l rest. begins h.first rest is) h.ensures.peeked h.field-0-is h.ensures.stays c.discard.ensures
