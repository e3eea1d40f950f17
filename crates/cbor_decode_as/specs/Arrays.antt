-- What arrays are read as.
use Rattle.std.specs.Prelude.{◌≡◌, ℕ, List, [], ◌∷◌, length, pos, refl, Result, Ok, Err, Vec}
use Rattle.std.specs.Global.{Global}
use Rattle.cbor_io.specs.declared.error.Error.{Error}
use Rattle.cbor_model.specs.Head.{no_bytes}
use Rattle.cbor_model.specs.Raw as raw
use Rattle.cbor_model.specs.Raw.{Raw, Raws, no_raws}
use Rattle.cbor_model.specs.Readable.{IsInteger}

-- an array, whose items are read as this
abbrev pub AsArray : {A : Type 0} → (Raws → A → Type 0) → Raw → A → Type 0
AsArray items (raw.array l rs) x = items rs x
AsArray items _ x = ⊥

-- each item is read as the value in its place
abbrev pub AreRead : {A : Type 0} → (Raw → A → Type 0) → Raws → List A → Type 0
AreRead reads no_raws [] = Unit {0}
AreRead reads no_raws (x ∷ xs) = ⊥
AreRead reads (raw.raw r rs) [] = ⊥
AreRead reads (raw.raw r rs) (x ∷ xs) = reads r x × AreRead reads rs xs

-- as what so many items, and no more, are read
abbrev pub AreExactly : {A : Type 0} → (Raw → A → Type 0) → ℕ → Raws → List A → Type 0
AreExactly reads n rs xs = AreRead reads rs xs × (length xs ≡ n)

-- the items of a vector that a call gives
abbrev pub items_in : {A : Type 0} → Result (Vec A Global) Error → Result (List A) Error
items_in (Ok v) = Ok v.items
items_in (Err e) = Err e

-- ---- tuples

-- an item that is read as x, and then items of which others holds
abbrev pub FirstThen : {A : Type 0} → (Raw → A → Type 0) → A → (Raws → Type 0) → Raws → Type 0
FirstThen reads x others no_raws = ⊥
FirstThen reads x others (raw.raw r rs) = reads r x × others rs

abbrev pub AreNone : Raws → Type 0
AreNone no_raws = Unit {0}
AreNone (raw.raw r rs) = ⊥

-- ---- laws

-- what items are read as, each array of them is read as
pub as_array_same : {A : Type 0} (one two : Raws → A → Type 0)
    → ((rs : Raws) (x : A) → one rs x → two rs x)
    → (r : Raw) (x : A) → AsArray one r x → AsArray two r x
as_array_same one two on (raw.unsigned w n) x h = h
as_array_same one two on (raw.negative w n) x h = h
as_array_same one two on (raw.bytes c) x h = h
as_array_same one two on (raw.text c) x h = h
as_array_same one two on (raw.bytes_chunks cs) x h = h
as_array_same one two on (raw.text_chunks cs) x h = h
as_array_same one two on (raw.array l rs) x h = on rs x h
as_array_same one two on (raw.map l ps) x h = h
as_array_same one two on (raw.tag w n r) x h = h
as_array_same one two on (raw.simple s) x h = h
as_array_same one two on (raw.float w bits) x h = h

pub are_read_same : {A : Type 0} (one two : Raw → A → Type 0)
    → ((r : Raw) (x : A) → one r x → two r x)
    → (rs : Raws) (xs : List A) → AreRead one rs xs → AreRead two rs xs
are_read_same one two on no_raws [] h = h
are_read_same one two on no_raws (x ∷ xs) h = h
are_read_same one two on (raw.raw r rs) [] h = h
are_read_same one two on (raw.raw r rs) (x ∷ xs) h =
    (on r x h.0, are_read_same one two on rs xs h.1)

pub first_then_same : {A : Type 0} (one two : Raw → A → Type 0) (x : A) (some others : Raws → Type 0)
    → ((r : Raw) → one r x → two r x) → ((rs : Raws) → some rs → others rs)
    → (rs : Raws) → FirstThen one x some rs → FirstThen two x others rs
first_then_same one two x some others on rest no_raws h = h
first_then_same one two x some others on rest (raw.raw r rs) h = (on r h.0, rest rs h.1)

-- ---- examples

-- [1, 2] is read as the numbers 1 and 2
two_numbers : AsArray (AreRead IsInteger)
    (raw.array raw.indefinite (raw.raw (raw.unsigned no_bytes 1) (raw.raw (raw.unsigned no_bytes 2) no_raws)))
    (pos 1 ∷ pos 2 ∷ [])
two_numbers = (refl, (refl, tt))
