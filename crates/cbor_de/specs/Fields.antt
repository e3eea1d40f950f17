-- What was read of the fields of a struct.
use Rattle.std.specs.Prelude.{◌≡◌, false, List, [], ◌∷◌, Option, Some, None}
use Rattle.std.specs.Option.{is_some}
use Rattle.cbor_de.specs.Structs.{FieldOf, IfAbsent, refused, taken}

-- the field is x: it was read so, or it wasn't read, and x stands for it
abbrev pub IsHeld : {A : Type 0} → Option A → IfAbsent A → A → Type 0
IsHeld (Some y) missing x = y ≡ x
IsHeld None refused x = ⊥
IsHeld None (taken missing) x = missing x

-- nothing was read, and nothing stands for it
abbrev pub Lacks : {A : Type 0} → IfAbsent A → Option A → Type 0
Lacks refused held = is_some held ≡ false
Lacks (taken missing) held = ⊥

module _ {S : Type 0} where
  -- what is known of each field
  abbrev pub Slots : List (FieldOf S) → Type 0
  Slots [] = Unit {0}
  Slots (d ∷ fields) = Option d.Value × Slots fields

  -- no field was read
  abbrev pub none_yet : (fields : List (FieldOf S)) → Slots fields
  none_yet [] = tt
  none_yet (d ∷ fields) = (None, none_yet fields)

  -- each field was read as its part of the struct
  abbrev pub all_of : (fields : List (FieldOf S)) → S → Slots fields
  all_of [] x = tt
  all_of (d ∷ fields) x = (Some (d.of x), all_of fields x)

  -- each field is its part of the struct: it was read so, or that stands for it
  abbrev pub AreHeld : (fields : List (FieldOf S)) → Slots fields → S → Type 0
  AreHeld [] slots x = Unit {0}
  AreHeld (d ∷ fields) slots x = IsHeld slots.0 d.missing (d.of x) × AreHeld fields slots.1 x
