-- What a field of a struct may be.
use Rattle.std.specs.Prelude.{Option, Some, None}
use Rattle.cbor_model.specs.Raw.{Raw}
use Rattle.cbor_de.specs.Structs.{IfAbsent, refused, taken}

-- it is there, and is read so
abbrev pub IsGiven : {A : Type 0} → (Raw → A → Type 0) → Raw → Option A → Type 0
IsGiven reads r None = ⊥
IsGiven reads r (Some x) = reads r x

pub given_back : {A : Type 0} (reads : Raw → A → Type 0) (r : Raw) (o : Option A) → IsGiven reads r o
    → (x : A) × reads r x
given_back reads r None h = absurd h
given_back reads r (Some x) h = (x, h)

-- what a field is that is absent: one of these, where it may be absent
abbrev pub IsMissing : {A : Type 0} → IfAbsent A → Option A → Type 0
IsMissing refused None = Unit {0}
IsMissing refused (Some x) = ⊥
IsMissing (taken missing) None = ⊥
IsMissing (taken missing) (Some x) = missing x
