-- Strict reading: what is read, and the first departure that bytes show.
use Rattle.std.specs.Prelude.{◌≡◌, ℕ, ◌^◌, ◌<◌, ◌≤◌, List, length}
use Rattle.cbor_model.specs.Raw.{Raw, AreBytes, IsWellFormed}
use Rattle.cbor_model.specs.Spelling.{spell}
use Rattle.cbor_model.specs.Order.{lex, val_cmp}
use Rattle.cbor_model.specs.Value.{value}
use Rattle.cbor_model.specs.Acceptable.{IsAcceptable}
use Rattle.cbor_model.specs.Plain.{Val}
use Rattle.cbor_model.specs.Canonical.{IsStorable, IsOrdered, canonical, canon}
use Rattle.cbor_strict.specs.Departure.{DepartsAt, IsFirstDeparture, ShowsDeparture}

-- The bytes are the canonical spelling of a storable ordered value, whose canonical item is
-- acceptable.
pub record SpellsCanonically (bytes : List ℕ) (v : Val) : Type 0 where
  pub stored : IsStorable v
  pub ordered : IsOrdered v
  pub acceptable : IsAcceptable (canonical v)
  pub spelled : canon v ≡ bytes

-- They are, and the canonical item is read as x.
pub record SpellsCanonicallyAs {A : Type 0} (reads : Raw → A → Type 0)
    (bytes : List ℕ) (x : A) : Type 0 where
  pub tree : Val
  pub spelt : SpellsCanonically bytes tree
  pub means : reads (canonical tree) x

-- The least offset at which the bytes show a departure.
pub record IsFirstShown (bytes : List ℕ) (j : ℕ) : Type 0 where
  pub shows : ShowsDeparture bytes j
  pub first : (i : ℕ) → ShowsDeparture bytes i → j ≤ i

-- ---- the laws

-- An acceptable item departs nowhere exactly where it is spelled as its value is canonically.
abbrev pub NoneWhereCanonical : Type 0
NoneWhereCanonical = (r : Raw) → IsAcceptable r → length (spell r) < 2 ^ 64
    → (((i : ℕ) → DepartsAt r i → ⊥) → spell r ≡ canon (value r))
    × (spell r ≡ canon (value r) → (i : ℕ) → DepartsAt r i → ⊥)

-- Keys without departures compare by their bytes as their values do.
abbrev pub KeysCompareByBytes : Type 0
KeysCompareByBytes = (k l : Raw) → IsWellFormed k → IsWellFormed l
    → ((i : ℕ) → DepartsAt k i → ⊥) → ((i : ℕ) → DepartsAt l i → ⊥)
    → lex (spell k) (spell l) ≡ val_cmp (value k) (value l)

-- The first departure that an item's spelling shows is the item's first.
abbrev pub FirstShownIsFirst : Type 0
FirstShownIsFirst = (bytes : List ℕ) (r : Raw) (j : ℕ) → AreBytes bytes → IsWellFormed r
    → spell r ≡ bytes → IsFirstShown bytes j → IsFirstDeparture r j
