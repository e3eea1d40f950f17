-- What canonical bytes say.
use Rattle.std.proofs.Common.{◌≡◌, ◌∙◌, ◌<◌, ◌^◌, ℕ, List, [], length, ap, subst, sym, append-nil}
use Rattle.cbor_model.specs.Canonical.{IsOrdered, canon, canonical}
use Rattle.cbor_model.specs.InRange.{IsInRange}
use Rattle.cbor_model.specs.Laws.{ValueIsInRange}
use Rattle.cbor_model.specs.Plain.{Val}
use Rattle.cbor_model.specs.Raw.{IsWellFormed}
use Rattle.cbor_model.specs.Spelling.{spell}
use Rattle.cbor_model.specs.Value.{value}
use Rattle.cbor_model.proofs.facts.Laws.{canonical_reads_back, one_spelling}

-- one value at most, whose canonical item is well formed
pub one_canonical : (v w : Val) → IsOrdered v → IsOrdered w → IsWellFormed (canonical v) → IsWellFormed (canonical w) → canon v ≡ canon w → v ≡ w
unfolding canon
one_canonical v w ordered ordered' fits fits' same =
    let items = (one_spelling (canonical v) (canonical w) [] fits fits' (append-nil (spell (canonical v)) ∙ same)).0 in
    sym (canonical_reads_back v ordered) ∙ ap value items ∙ canonical_reads_back w ordered'

-- fewer than 2^64 bytes, a value in range
pub canonical_in_range : ValueIsInRange → (v : Val) → IsOrdered v → IsWellFormed (canonical v) → (bytes : List ℕ) → canon v ≡ bytes → length bytes < 2 ^ 64 → IsInRange v
unfolding canon
canonical_in_range in_range v ordered fits bytes spelled short =
    subst IsInRange (canonical_reads_back v ordered) (in_range (canonical v) fits (subst (λ (bs : List ℕ). length bs < 2 ^ 64) (sym spelled) short))
