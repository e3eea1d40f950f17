-- Bytes that encode a value canonically.
use Rattle.std.proofs.Common.{◌≡◌, ◌∙◌, ℕ, ◌^◌, ◌<◌, List, length, sym}
use Rattle.cbor_model.specs.InRange.{IsInRange}
use Rattle.cbor_model.specs.Laws.{ValueIsInRange}
use Rattle.cbor_model.specs.Plain.{Val}
use Rattle.cbor_strict.specs.Strict.{SpellsCanonically}
use Rattle.cbor_round_trip.proofs.facts.Values.{canonical_in_range, one_canonical}

-- they encode one value at most
pub one_value : {bytes : List ℕ} {v w : Val} → SpellsCanonically bytes v → SpellsCanonically bytes w → v ≡ w
one_value {v = v} {w = w} one other =
    one_canonical v w one.ordered other.ordered one.acceptable.fits other.acceptable.fits (one.spelled ∙ sym other.spelled)

-- which is in range, where they are fewer than 2^64
pub spelled_in_range : ValueIsInRange → {bytes : List ℕ} {v : Val} → length bytes < 2 ^ 64 → SpellsCanonically bytes v → IsInRange v
spelled_in_range law {bytes = bytes} {v = v} short whole =
    canonical_in_range law v whole.ordered whole.acceptable.fits bytes whole.spelled short
