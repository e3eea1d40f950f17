-- What the bytes of a value's canonical spelling say of it, among all values that can be spelled.
use Rattle.std.specs.Prelude.{◌≡◌, ℕ, ◌^◌, ◌<◌, ◌≤◌, ◌↔◌, List, length}
use Rattle.cbor_model.specs.Raw.{Raw, IsWellFormed, depth}
use Rattle.cbor_model.specs.Acceptable.{max_depth}
use Rattle.cbor_model.specs.Spelling.{spell}
use Rattle.cbor_model.specs.Plain.{Val}
use Rattle.cbor_model.specs.Order.{lex, val_cmp}
use Rattle.cbor_model.specs.Value.{value}
use Rattle.cbor_model.specs.Canonical.{IsStorable, IsOrdered, canonical, canon}
use Rattle.cbor_model.specs.InRange.{IsInRange}
use Rattle.cbor_model.specs.Definite.{IsDefinite}
use Rattle.cbor_model.specs.Laws.{SpellsValue}
use Rattle.cbor_model.specs.Document.{Doc, document_of}

-- The bytes are another value's where the two values are equal, and only there.
abbrev pub StandFor : List ℕ → Val → Type 0
StandFor bytes v = (w : Val) → IsStorable w → IsInRange w → (bytes ≡ canon w) ↔ (v ≡ w)

-- The bytes compare with another value's as the two values do.
abbrev pub CompareAs : List ℕ → Val → Type 0
CompareAs bytes v = (w : Val) → IsStorable w → IsInRange w → val_cmp v w ≡ lex bytes (canon w)

-- No spelling of the value in definite lengths is shorter.
abbrev pub AreLeast : List ℕ → Val → Type 0
AreLeast bytes v = (r : Raw) → IsWellFormed r → IsDefinite r → v ≡ value r → length bytes ≤ length (spell r)

-- If the value was read from some bytes, it is read from these.
abbrev pub ReadBack : List ℕ → Val → Type 0
ReadBack bytes v = (read : List ℕ) → length read < 2 ^ 64 → SpellsValue read v → SpellsValue bytes v

-- The value is read from the bytes, where it is ordered and nests at most 127 levels.
abbrev pub ReadAs : List ℕ → Val → Type 0
ReadAs bytes v = IsOrdered v → depth (canonical v) ≤ max_depth → SpellsValue bytes v

-- The bytes are the canonical spelling of the value, which is storable and in range, with all that
-- they say of it.
pub record IsCanonicalSpelling (bytes : List ℕ) (v : Val) : Type 0 where
  pub storable : IsStorable v
  pub in_range : IsInRange v
  pub written : bytes ≡ canon v
  pub exact : StandFor bytes v
  pub in_order : CompareAs bytes v
  pub least : AreLeast bytes v
  pub read_back : ReadBack bytes v
  pub read_as : ReadAs bytes v

-- If the document is a value's, the bytes are that value's canonical spelling.
abbrev pub SpellsValues : List ℕ → Doc → Type 0
SpellsValues bytes d = (v : Val) → d ≡ document_of v → IsCanonicalSpelling bytes v
